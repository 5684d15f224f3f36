-- `frames::parse_send` meets its contract: each test is the definition's next choice. Assumes nothing.
use mathlib.Core.Path.{sym, ◌∙◌}
use Rattle.frames.proofs.Laws.{passed, send-short, send-peer, send-over, send-length, send-read}
use Rattle.frames.proofs.parse_send.Goals as goal

pub returns-then-f-lt6 : goal.returns-then-f-lt6
returns-then-f-lt6 c = send-short c.args.f.now c.if-f-lt6.true

pub returns-in_err-peer : goal.returns-in_err-peer
returns-in_err-peer c = let e = c.in_err-peer.ensures in send-peer c.args.f.now c.if-f-lt6.false e.1 (passed _ _ c.from_residual.ensures.1 e.0)

pub returns-then-oversized : goal.returns-then-oversized
returns-then-oversized c =
    send-over c.args.f.now _ (record { nd = c.from.result; nh = c.from-2.result; nb = c.short_at.result }) c.if-f-lt6.false c.in_ok-peer.ensures c.from.ensures c.from-2.ensures c.short_at.ensures.0
    (sym c.oversized.ensures ∙ c.if-oversized.true)

pub returns-then-f-sizes : goal.returns-then-f-sizes
returns-then-f-sizes c =
    send-length c.args.f.now _ (record { nd = c.from.result; nh = c.from-2.result; nb = c.short_at.result }) c.if-f-lt6.false c.in_ok-peer.ensures c.from.ensures c.from-2.ensures c.short_at.ensures.0
    (sym c.oversized.ensures ∙ c.if-oversized.false) c.if-f-sizes.true

pub returns : goal.returns
returns c =
    send-read c.args.f.now _ (record { nd = c.from.result; nh = c.from-2.result; nb = c.short_at.result }) c.if-f-lt6.false c.in_ok-peer.ensures c.from.ensures c.from-2.ensures c.short_at.ensures.0
    (sym c.oversized.ensures ∙ c.if-oversized.false) c.if-f-sizes.false
