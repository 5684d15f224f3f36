-- `session::answer_frame` meets its contract: what the command wrote is the frame's answer. Assumes nothing.
use mathlib.Core.Path.{sym}
use lib.ListN.{length-take}
use lib.Seq.{length-take-le}
use Rattle.session.specs.Replies.{reply-of}
use Rattle.session.specs.Laws.{frame-put}
use native.Mathlib.Omega.{arith}
use Rattle.session.proofs.answer_frame.Goals as goal

pub slice_bounds-put_line-end : goal.slice_bounds-put_line-end
slice_bounds-put_line-end c = let q = reply-of _ _ _ _ (omega (arith, c.requires.0)) c.command-o.ensures.done in omega (arith, q.fits, c.command-o.auto.out, c.requires.0)

pub slice_bounds-put_line-end-2 : goal.slice_bounds-put_line-end-2
slice_bounds-put_line-end-2 c = let q = reply-of _ _ _ _ (omega (arith, c.requires.0)) c.command-o.ensures.done in sym (length-take-le _ c.command-o.new.out (omega (arith, q.fits, c.command-o.auto.out, c.requires.0)))

pub put_line-requires : goal.put_line-requires
put_line-requires c = let q = reply-of _ _ _ _ (omega (arith, c.requires.0)) c.command-o.ensures.done in simp length-take (omega (arith, q.fits, c.requires.1))

pub returns-clause-done : goal.returns-clause-done
returns-clause-done c = frame-put _ _ _ _ _ _ _ _ _ _ c.requires.0 c.command-o.ensures.done c.put_line.ensures.0 c.put_line.ensures.1
