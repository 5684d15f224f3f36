-- The table of nodes seen as the model's column of lives.
-- Assumes nothing.
use Rattle.std.specs.Prelude.{ℕ, ◌+◌, ◌*◌, ◌<◌, ◌≡◌, refl, Bool, true, false, List, length, ltb}
use Rattle.std.proofs.Math.Path.{ap, fun_ext}
use Rattle.std.proofs.Common.{◌∙◌, arith}
use Rattle.std.proofs.Math.ListN.{set, length-set}
use Rattle.std.proofs.Math.Seq.{get_or-set_same, get_or-set_other}
use Rattle.laws.specs.Tests.{pick, clash, Same, Same.same, Same.other, same?}
use Rattle.laws.specs.Tables.{upd, upd_same, upd_other}
use Rattle.model.specs.Lists.{either}
use Rattle.model.specs.State.{Life, lived_at, is_live}
use Rattle.model.specs.State.Life.{live, dead}
use Rattle.laws.specs.Guards.{upto, upto-at, upto-upd}
use Rattle.tables.specs.Nodes.{live_at, died_at, set_live, set_dead}
use Rattle.ids.specs.Sizes.{node_fields, nodes_size}
use Rattle.model.specs.Numbers.{nodes}

unfoldable pub life_at : List ℕ → ℕ → Life
life_at ns s = pick (live_at ns s) live (dead (died_at ns s))

-- The accessor: past the last slot, a node that was never made.
unfoldable pub life_v : List ℕ → ℕ → Life
life_v ns = upto nodes (dead 0) (life_at ns)

module _ (ns : List ℕ) (size : length ns ≡ nodes_size) (s : ℕ) (l : s < nodes) where
  live_here : life_at (set_live ns s) s ≡ live
  unfolding life_at set_live
  live_here = rw (get_or-set_same ns (node_fields * s) 1 0 (omega arith))

  live-there : (t : ℕ) → (s ≡ t → ⊥) → life_at (set_live ns s) t ≡ life_at ns t
  unfolding life_at set_live
  live-there t e =
      rw (
        get_or-set_other ns (node_fields * s) (node_fields * t) 1 0 (λ x. absurd (e (omega arith))),
        get_or-set_other ns (node_fields * s) (node_fields * t + 1) 1 0 (λ x. absurd (omega arith)),
      )

  dead-here : (n : ℕ) → life_at (set_dead ns s n) s ≡ dead n
  unfolding life_at set_dead
  dead-here n =
      let old = set ns (node_fields * s) 0 in
      rw (
        get_or-set_other old (node_fields * s + 1) (node_fields * s) n 0 (λ x. absurd (omega arith)),
        get_or-set_same ns (node_fields * s) 0 0 (omega arith),
        get_or-set_same old (node_fields * s + 1) n 0 (omega (arith, length-set ns (node_fields * s) 0)),
      )

  dead-there : (n t : ℕ) → (s ≡ t → ⊥) → life_at (set_dead ns s n) t ≡ life_at ns t
  unfolding life_at set_dead
  dead-there n t e =
      let old = set ns (node_fields * s) 0 in
      rw (
        get_or-set_other old (node_fields * s + 1) (node_fields * t) n 0 (λ x. absurd (omega arith)),
        get_or-set_other ns (node_fields * s) (node_fields * t) 0 0 (λ x. absurd (e (omega arith))),
        get_or-set_other old (node_fields * s + 1) (node_fields * t + 1) n 0 (λ x. absurd (e (omega arith))),
        get_or-set_other ns (node_fields * s) (node_fields * t + 1) 0 0 (λ x. absurd (omega arith)),
      )

  pub life-live : life_v (set_live ns s) ≡ upd (life_v ns) s live
  unfolding life_v
  life-live = ap (upto nodes (dead 0)) (fun_ext (λ t. go t (same? s t))) ∙ upto-upd nodes (dead 0) (life_at ns) s live l
    where
      go : (t : ℕ) → Same s t → life_at (set_live ns s) t ≡ upd (life_at ns) s live t
      go t (same e) = rw (← e, upd_same) live_here
      go t (other e) = rw (upd_other (life_at ns) s t live e) (live-there t e)

  pub life-dead : (n : ℕ) → life_v (set_dead ns s n) ≡ upd (life_v ns) s (dead n)
  unfolding life_v
  life-dead n = ap (upto nodes (dead 0)) (fun_ext (λ t. go t (same? s t))) ∙ upto-upd nodes (dead 0) (life_at ns) s (dead n) l
    where
      go : (t : ℕ) → Same s t → life_at (set_dead ns s n) t ≡ upd (life_at ns) s (dead n) t
      go t (same e) = rw (← e, upd_same) (dead-here n)
      go t (other e) = rw (upd_other (life_at ns) s t (dead n) e) (dead-there n t e)

-- What is read.
pub live-is : (ns : List ℕ) (s : ℕ) → s < nodes → live_at ns s ≡ is_live (life_v ns s)
unfolding life_v life_at
live-is ns s l = rw (upto-at nodes (dead 0) (life_at ns) s l) (go (live_at ns s))
  where
    go : (b : Bool) → b ≡ is_live (pick b live (dead (died_at ns s)))
    go true = refl
    go false = refl

pub lived-is : (ns : List ℕ) (n s : ℕ) → s < nodes → either (live_at ns s) (ltb n (died_at ns s)) ≡ lived_at n (life_v ns s)
unfolding life_v life_at
lived-is ns n s l = rw (upto-at nodes (dead 0) (life_at ns) s l) (go (live_at ns s))
  where
    go : (b : Bool) → either b (ltb n (died_at ns s)) ≡ lived_at n (pick b live (dead (died_at ns s)))
    go true = refl
    go false = refl

-- The number of the command that destroyed a node.
pub died-is : (ns : List ℕ) (n s : ℕ) → s < nodes → life_v ns s ≡ dead n → died_at ns s ≡ n
unfolding life_v life_at
died-is ns n s l e = go (live_at ns s) (rw (upto-at nodes (dead 0) (life_at ns) s l) at e)
  where
    number : Life → ℕ
    number live = 0
    number (dead k) = k

    go : (b : Bool) → pick b live (dead (died_at ns s)) ≡ dead n → died_at ns s ≡ n
    go true z = clash (ap is_live z)
    go false z = ap number z

-- No store changes the table's length.
module _ (ns : List ℕ) where
  pub live-length : (s : ℕ) → length (set_live ns s) ≡ length ns
  unfolding set_live
  live-length s = simp length-set

  pub dead-length : (s n : ℕ) → length (set_dead ns s n) ≡ length ns
  unfolding set_dead
  dead-length s n = simp length-set
