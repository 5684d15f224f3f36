-- `bus::obey` meets its contract: one law for each return, in the order of the tests. Assumes nothing.
use mathlib.Core.Path.{sym, ◌∙◌}
use Rattle.frames.proofs.Legal.{legal-command}
use Rattle.bus.specs.Code.{not_sound, not-read, was_read, sound-then}
use Rattle.bus.proofs.obey.Goals as goal

pub returns-then-not-is_sound : goal.returns-then-not-is_sound
returns-then-not-is_sound c = not_sound _ _ _ c.requires c.is_sound.ensures c.if-not-is_sound.true c.write_refusal.ensures

pub execute-requires : goal.execute-requires
execute-requires c = let z = sound-then _ c.is_sound.ensures c.if-not-is_sound.false in (z.0, z.1, legal-command _ _ (sym c.parse.ensures ∙ c.in-Ok.is))

pub returns-in-Err : goal.returns-in-Err
returns-in-Err c = not-read _ _ _ c.requires c.is_sound.ensures c.if-not-is_sound.false c.parse.ensures c.in-Err.is c.from.ensures c.write_refusal-in-Err.ensures

pub returns-in-Ok : goal.returns-in-Ok
returns-in-Ok c = was_read _ _ _ c.requires c.is_sound.ensures c.if-not-is_sound.false c.parse.ensures c.in-Ok.is c.execute.ensures
