-- The theorems that go with specs/RowsQuota.antt and stand on others: each goes by the definitions and the theorems there.
-- Assumes nothing.
use Prim.Native.Nat.{ℕ, ◌+◌, ◌-◌, ◌*◌, ◌/◌, ◌<◌}
use Rattle.std.specs.Prelude.{◌≡◌, refl, not, List, map, length, get_or, set, eqb}
use Rattle.std.proofs.Common.{sym, ap, ◌∙◌, length-set, get_or-set_same, get_or-set_other, eq-eqb, ne_eqb}
use native.Mathlib.Omega.{arith}
use Rattle.laws.specs.Tests.{pick, Same, Same.same, Same.other, same?}
use Rattle.laws.specs.Tables.{map_at}
use Rattle.laws.specs.Sums.{sum_to, sum-ext}
use Rattle.laws.specs.Loads.{sum-places}
use Rattle.quota.specs.Charges.{users, nothing, own, others_of, allows_all}
use Rattle.quota.specs.Share.{reach-length}
use Rattle.quota.specs.Step.{each}
use Rattle.model.specs.Numbers.{owner}
use Rattle.model.specs.Lists.{any}
use Rattle.model.specs.Resources.{Resource, Resource.messages, Resource.bytes, Resource.handles, limit, amount, resources}
use Rattle.model.specs.State.{State}
use Rattle.model.specs.Refusals.{places_at, adds, fits}
use Rattle.model.specs.Book.{Node, Book, queued, others_queued}
use Rattle.model.specs.Charged.{Charged}
use Rattle.model.specs.Charging.{is-resource, reached-at}
use Rattle.model.specs.Sim.{called, Sim}
use Rattle.model.specs.SimSend.{places_is}
use Rattle.model.specs.Demand.{queued-is}
use Rattle.model.specs.Rows.{over_half}
use Rattle.model.specs.RowsQuota.{three-at-most, every-not}

module _ {N : ℕ} (name : ℕ → ℕ) (b : State) (k : Book) (w : Sim N name b k) (h : Charged b) where
  -- What the user, and what the others, have queued.
  pub own-queued : (q u : ℕ) (r : Resource) → u < users → queued k q u r ≡ amount r (own (b.charges q) (record { 0 = u }))
  own-queued q u r l = queued-is name b k w q u r ∙ sym ((h.at q).sums r u l)

  pub others-queued : (q u : ℕ) (r : Resource) → u < users → others_queued k q u r ≡ others_of (amount r) (b.charges q) (record { 0 = u })
  others-queued q u r l =
      let c = b.charges q in
      let n : length (each (amount r) c) ≡ users = reach-length (reached-at c (h.at q).reached r) in
      let m : length (set (each (amount r) c) u 0) ≡ users = length-set (each (amount r) c) u 0 ∙ n in
      sum-ext (λ v. pick (eqb v u) 0 (queued k q v r)) (λ v. get_or (set (each (amount r) c) u 0) v 0) users (λ v lt. sym (at v lt n (same? u v)))
      ∙ ap (sum_to (λ v. get_or (set (each (amount r) c) u 0) v 0)) (sym m)
      ∙ sum-places (set (each (amount r) c) u 0)
    where
      at : (v : ℕ) → v < users → length (each (amount r) (b.charges q)) ≡ users → Same u v → get_or (set (each (amount r) (b.charges q)) u 0) v 0 ≡ pick (eqb v u) 0 (queued k q v r)
      at v lt n (same e) = rw (e, eq-eqb v v refl) (get_or-set_same (each (amount r) (b.charges q)) v 0 0 (rw n lt))
      at v lt n (other e) =
          rw (ne_eqb v u (λ z. e (sym z)))
          (get_or-set_other (each (amount r) (b.charges q)) u v 0 0 (λ z. e (sym z)) ∙ map_at (amount r) nothing (is-resource r).of-nothing (b.charges q).by v ∙ sym (own-queued q v r lt))

  allows-row : (u : ℕ) (ds : List ℕ) (nb nh q : ℕ) → u < users →
      allows_all (b.charges q) (record { 0 = u }) (adds q ds nb nh) ≡ not (any (over_half k u (map (called name) ds) nb nh q) resources)
  unfolding allows_all
  allows-row u ds nb nh q l =
      let one : places_at q ds ≡ places_at q ds * 1 = omega arith in
      let n = places_is name q ds in
      rw (others-queued q u messages l, others-queued q u bytes l, others-queued q u handles l, own-queued q u messages l, own-queued q u bytes l, own-queued q u handles l, n, ← one)
      (three-at-most (sent messages (places_at q ds)) (room messages) (sent bytes (places_at q ds * nb)) (room bytes) (sent handles (places_at q ds * nh)) (room handles))
    where
      sent : Resource → ℕ → ℕ
      sent r add = amount r (own (b.charges q) (record { 0 = u })) + add

      room : Resource → ℕ
      room r = (limit r - others_of (amount r) (b.charges q) (record { 0 = u })) / 2

  -- The quota test.
  pub fits-row : (u : ℕ) (ds : List ℕ) (nb nh : ℕ) → u < users →
      fits b u ds nb nh ≡ not (any (λ (n : Node). any (over_half k u (map (called name) ds) nb nh n.owner) resources) (map (called name) ds))
  unfolding fits
  fits-row u ds nb nh l =
      every-not (called name) (λ d. allows_all (b.charges (owner d)) (record { 0 = u }) (adds (owner d) ds nb nh))
      (λ n. any (over_half k u (map (called name) ds) nb nh n.owner) resources) ds (λ d. allows-row u ds nb nh (owner d) l)
