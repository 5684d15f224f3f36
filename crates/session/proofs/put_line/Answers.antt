-- `session::put_line` meets its contract: there is room for the line, so it is written. Assumes nothing.
use Prim.Native.Nat.{ℕ, ◌+◌, ◌*◌, ◌≤◌}
use mathlib.Core.Path.{◌≡◌, refl, sym, ◌∙◌}
use mathlib.Core.List.{List}
use lib.ListN.{length}
use lib.Seq.{sets}
use borrow.Author.Tests.{le-leb}
use Rattle.lines.specs.Line.{answer_line, line_written, lines_after}
use Rattle.std.specs.Prelude.{Some}
use Rattle.std.proofs.lemmas.Option.{same_Some}
use Rattle.session.proofs.put_line.Goals as goal

module _ (o a : List ℕ) (at : ℕ) (h : at + (2 * length a + 1) ≤ length o) where
  written : line_written o at a ≡ Some (at + (2 * length a + 1))
  unfolding line_written
  written = rw (le-leb (at + (2 * length a + 1)) (length o) h) refl

  stands : lines_after o at a ≡ sets o at (answer_line a)
  unfolding lines_after
  stands = rw (le-leb (at + (2 * length a + 1)) (length o) h) refl

pub unwrap-requires : goal.unwrap-requires
unwrap-requires c = rw (c.write_line.ensures.0 ∙ written c.args.text.now c.args.bytes.now c.args.at c.requires) refl

pub returns : goal.returns
returns c =
    let a = c.args in
    (c.write_line.ensures.1 ∙ stands a.text.now a.bytes.now a.at c.requires, sym (same_Some _ _ (sym (c.write_line.ensures.0 ∙ written a.text.now a.bytes.now a.at c.requires) ∙ c.unwrap.ensures)))
