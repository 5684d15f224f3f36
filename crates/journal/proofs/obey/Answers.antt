-- `journal::obey` meets its contract: one law for each return, in the order of the tests. Assumes nothing.
use mathlib.Core.Path.{sym, ◌∙◌}
use Rattle.frames.proofs.Legal.{legal-command}
use Rattle.bus.specs.Code.{sound-then}
use Rattle.journal.specs.Code.{over-used, kept-unsound, kept-unread, kept_read}
use Rattle.journal.proofs.obey.Goals.{then-journal-used-via-then-journal-used, then-journal-used-via-else-journal-used+then-not-is_sound}
use Rattle.journal.proofs.obey.Goals as goal

pub returns-then-journal-used : goal.returns-then-journal-used
returns-then-journal-used c = elim c.then-journal-used.branch [
  | then-journal-used-via-then-journal-used w ↦ over-used _ _ _ _ _ c.requires w.if-journal-used.true c.write_refusal.ensures c.with_used.ensures
  | then-journal-used-via-else-journal-used+then-not-is_sound w ↦ kept-unsound _ _ _ _ _ c.requires w.if-journal-used.false w.is_sound.ensures w.if-not-is_sound.true c.write_refusal.ensures c.with_used.ensures
]

pub execute-requires : goal.execute-requires
execute-requires c = let z = sound-then _ c.is_sound.ensures c.if-not-is_sound.false in (z.0, z.1, legal-command _ _ (sym c.parse.ensures ∙ c.in-Ok.is), c.requires)

pub returns-in-Err : goal.returns-in-Err
returns-in-Err c = kept-unread _ _ _ _ _ c.requires c.if-journal-used.false c.is_sound.ensures c.if-not-is_sound.false c.parse.ensures c.in-Err.is c.from.ensures c.write_refusal-in-Err.ensures c.with_used-in-Err.ensures

pub returns-in-Ok : goal.returns-in-Ok
returns-in-Ok c = kept_read _ _ _ _ _ c.requires c.if-journal-used.false c.is_sound.ensures c.if-not-is_sound.false c.parse.ensures c.in-Ok.is c.execute.ensures
