-- What the answer of an accepted call says, in the words of the book: the bytes of its reply, and what the book and the third demand read off them.
-- Assumes nothing.
use Rattle.std.specs.Prelude.{ℕ, suc, ◌^◌, ◌≤◌, ◌<◌, ◌≡◌, refl, drop}
use Rattle.std.proofs.Math.Path.{sym, ap}
use Rattle.std.proofs.Common.{le-ltb}
use mathlib.Core.List.{List, [], ◌∷◌}
use native.Mathlib.Omega.{arith}
use Rattle.std.proofs.Math.ListN.{length}
use Rattle.std.proofs.Math.Seq.{take-append_seam}
use Rattle.laws.specs.Weights.{All}
use Rattle.answers.specs.Answer.{answer_size, answer_bytes, answer_after, outcome_of}
use Rattle.answers.specs.AnswerLaws.{seed-count, seed-ids-at}
use Rattle.model.specs.State.{State, Seed, Seed.unset, Seed.kept, seed_carries}
use Rattle.model.specs.Changes.{give, shown_all}
use Rattle.model.specs.Replies.{Reply, shows_seed}
use Rattle.model.specs.Step.{Verdict, finish, answer_of}
use Rattle.model.specs.Book.{shown_ids}

-- The bytes of a reply.
abbrev pub bytes_of : Reply → List ℕ
bytes_of r = answer_bytes r.answer r.ids r.payload

-- Into a buffer that is long enough the reply is written whole, and the outcome's length is its length.
pub finish-answer : (b : State) (out : List ℕ) (v : Verdict) → answer_size ≤ length out → answer_of (finish b out v) ≡ bytes_of v.reply
unfolding finish outcome_of answer_after
finish-answer b out v h =
    rw (le-ltb (length out) answer_size h) (take-append_seam (bytes_of v.reply) (drop (length (bytes_of v.reply)) out))

-- Each attached handle is shown as one ID.
pub shown-length : (b : State) (p as_of : ℕ) (ss : List ℕ) → length (shown_all b p as_of ss) ≡ length ss
shown-length b p as_of [] = refl
shown-length b p as_of (s ∷ ss) = ap suc (shown-length (give b p as_of s) p as_of ss)

pub seed-ids : (b : State) (p : ℕ) (x : Seed) → (x ≡ unset → ⊥) → length (seed_carries x) ≤ 8 → All (λ i. i < 256 ^ 8) (shown_all b p (suc b.accepted) (seed_carries x)) →
    shown_ids (bytes_of (shows_seed b p x)) ≡ shown_all b p (suc b.accepted) (seed_carries x)
unfolding shows_seed
seed-ids b p unset d few h = absurd (d refl)
seed-ids b p (kept payload carried) d few h =
    let ids = shown_all b p (suc b.accepted) carried in
    let k : length carried ≡ length ids = sym (shown-length b p (suc b.accepted) carried) in
    let few8 : length ids ≤ 8 = omega arith in
    rw seed-count (seed-ids-at _ ids payload few8 h)
