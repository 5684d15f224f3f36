-- `session::answer_read` meets its contract: each kind of line gets its answer. Assumes nothing.
use mathlib.Core.Path.{refl, sym}
use lib.Seq.{length-take-le}
use Rattle.session.specs.Laws.{put-frame, put-bad, put-piece}
use native.Mathlib.Omega.{arith}
use Rattle.session.proofs.answer_read.Goals as goal

pub slice_bounds-answer_frame-end : goal.slice_bounds-answer_frame-end
slice_bounds-answer_frame-end c = let h = rw c.in-Frame.is at c.requires.3 in sym (length-take-le _ c.args.f.now (omega (arith, h, c.requires.2)))

pub returns-in-Frame-clause-done : goal.returns-in-Frame-clause-done
returns-in-Frame-clause-done c = put-frame _ _ _ _ _ _ _ _ _ _ c.in-Frame.is c.answer_frame.ensures.done

pub returns-in-Bad-clause-done : goal.returns-in-Bad-clause-done
returns-in-Bad-clause-done c = put-bad _ _ _ _ _ _ _ _ _ _ c.in-Bad.is refl c.refuse.ensures.0 c.refuse.ensures.1

pub returns-in-Piece-clause-done : goal.returns-in-Piece-clause-done
returns-in-Piece-clause-done c = put-piece _ _ _ _ _ _ _ _ _ c.in-Piece.is refl refl refl
