-- The table of charges seen as the model's column of the users' charges at each peer.
-- Assumes nothing.
use Prim.Native.Nat.{ℕ, zero, suc, ◌+◌, ◌*◌, ◌≤◌, ◌<◌}
use Rattle.std.specs.Prelude.{◌≡◌, Bool, true, false, ltb}
use Rattle.std.proofs.Math.Path.{refl, ap, fun_ext}
use Rattle.std.proofs.Common.{sym, ◌∙◌, arith}
use mathlib.Core.List.{List}
use Rattle.std.proofs.Math.ListN.{length, get_or, set, length-set}
use Rattle.std.proofs.Math.Seq.{get_or-set_same, get_or-set_other}
use Rattle.laws.specs.Tests.{pick, Same, Same.same, Same.other, same?}
use Rattle.laws.specs.Tables.{upd, upd_same, upd_other}
use Rattle.laws.specs.Build.{build, build-ext, build-list, build-length}
use Rattle.quota.specs.declared.Charge.{Charge}
use Rattle.quota.specs.declared.Charges.{Charges}
use Rattle.quota.specs.Charges.{users, nothing, plus, less, fresh_charges, own, charged, discharged}
use Rattle.ids.specs.declared.User.{User}
use Rattle.laws.specs.Guards.{upto, upto-at, upto-upd}
use Rattle.tables.specs.Charges.{charges_size, charge_at, charges_at, put_charge, put_below, put_charges}
use Rattle.ids.specs.Sizes.{charge_fields, peers}

-- The accessor: past the last peer nothing is charged.
unfoldable pub charges_v : List ℕ → ℕ → Charges
charges_v t = upto peers fresh_charges (charges_at t)

pub charges-is : (t : List ℕ) (p : ℕ) → p < peers → charges_v t p ≡ charges_at t p
unfolding charges_v
charges-is t p l = upto-at peers fresh_charges (charges_at t) p l

-- There is one charge for each user, also once one of them is changed.
pub charges-four : (t : List ℕ) (p : ℕ) → length (charges_v t p).by ≡ users
unfolding charges_v upto charges_at
charges-four t p = go (ltb p peers)
  where
    go : (b : Bool) → length (pick b (charges_at t p) fresh_charges).by ≡ users
    go true = build-length (λ u. charge_at t (users * p + u)) users
    go false = refl

pub charged-length : (c : Charges) (u : User) (a : Charge) → length (charged c u a).by ≡ length c.by
charged-length c u a = length-set c.by u.0 (plus (own c u) a)

pub discharged-length : (c : Charges) (u : User) (a : Charge) → length (discharged c u a).by ≡ length c.by
discharged-length c u a = length-set c.by u.0 (less (own c u) a)

charge-length : (t : List ℕ) (k : ℕ) (c : Charge) → length (put_charge t k c) ≡ length t
unfolding put_charge
charge-length t k c = simp length-set

below_length : (t : List ℕ) (p : ℕ) (c : Charges) (n : ℕ) → length (put_below t p c n) ≡ length t
unfolding put_below
below_length t p c zero = refl
below_length t p c (suc n) = charge-length (put_below t p c n) (users * p + n) (get_or c.by n nothing) ∙ below_length t p c n

pub charges-length : (t : List ℕ) (p : ℕ) (c : Charges) → length (put_charges t p c) ≡ length t
unfolding put_charges
charges-length t p c = below_length t p c 4

-- One row written.
module _ (t : List ℕ) (k : ℕ) (c : Charge) where
  charge-here : charge_fields * k + 2 < length t → charge_at (put_charge t k c) k ≡ c
  unfolding put_charge
  charge-here l =
      let a = set t (charge_fields * k) c.messages in
      let b = set a (charge_fields * k + 1) c.bytes in
      let la : length a ≡ length t = length-set t (charge_fields * k) c.messages in
      let lb : length b ≡ length a = length-set a (charge_fields * k + 1) c.bytes in
      rw (
        get_or-set_other b (charge_fields * k + 2) (charge_fields * k) c.handles 0 (λ x. absurd (omega arith)),
        get_or-set_other a (charge_fields * k + 1) (charge_fields * k) c.bytes 0 (λ x. absurd (omega arith)),
        get_or-set_same t (charge_fields * k) c.messages 0 (omega arith),
        get_or-set_other b (charge_fields * k + 2) (charge_fields * k + 1) c.handles 0 (λ x. absurd (omega arith)),
        get_or-set_same a (charge_fields * k + 1) c.bytes 0 (omega arith),
        get_or-set_same b (charge_fields * k + 2) c.handles 0 (omega arith),
      )

  charge-cell : (j : ℕ) → (j ≡ charge_fields * k → ⊥) → (j ≡ charge_fields * k + 1 → ⊥) → (j ≡ charge_fields * k + 2 → ⊥) → get_or (put_charge t k c) j 0 ≡ get_or t j 0
  unfolding put_charge
  charge-cell j x y z =
      get_or-set_other (set (set t (charge_fields * k) c.messages) (charge_fields * k + 1) c.bytes) (charge_fields * k + 2) j c.handles 0 z
      ∙ get_or-set_other (set t (charge_fields * k) c.messages) (charge_fields * k + 1) j c.bytes 0 y
      ∙ get_or-set_other t (charge_fields * k) j c.messages 0 x

  charge-there : (j : ℕ) → (k ≡ j → ⊥) → charge_at (put_charge t k c) j ≡ charge_at t j
  charge-there j e =
      rw (
        charge-cell (charge_fields * j) (λ x. e (omega arith)) (λ x. absurd (omega arith)) (λ x. absurd (omega arith)),
        charge-cell (charge_fields * j + 1) (λ x. absurd (omega arith)) (λ x. e (omega arith)) (λ x. absurd (omega arith)),
        charge-cell (charge_fields * j + 2) (λ x. absurd (omega arith)) (λ x. absurd (omega arith)) (λ x. e (omega arith)),
      )

-- The rows of one peer written.
module _ (t : List ℕ) (p : ℕ) (c : Charges) where
  below-there : (n j : ℕ) → ((u : ℕ) → u < n → users * p + u ≡ j → ⊥) → charge_at (put_below t p c n) j ≡ charge_at t j
  unfolding put_below
  below-there zero j h = refl
  below-there (suc n) j h =
      charge-there (put_below t p c n) (users * p + n) (get_or c.by n nothing) j (h n (omega arith)) ∙ below-there n j (λ u l. h u (omega arith))

  below-here : (n u : ℕ) → charge_fields * (users * p + n) ≤ length t → u < n → charge_at (put_below t p c n) (users * p + u) ≡ get_or c.by u nothing
  unfolding put_below
  below-here zero u z l = absurd (omega arith)
  below-here (suc n) u z l = go (same? n u) (below-here n u (omega arith))
    where
      old : List ℕ
      old = put_below t p c n

      go : Same n u → (u < n → charge_at old (users * p + u) ≡ get_or c.by u nothing) → charge_at (put_charge old (users * p + n) (get_or c.by n nothing)) (users * p + u) ≡ get_or c.by u nothing
      go (same e) ih = rw (← e) (charge-here old (users * p + n) (get_or c.by n nothing) (omega (arith, below_length t p c n)))
      go (other e) ih = charge-there old (users * p + n) (get_or c.by n nothing) (users * p + u) (λ x. e (omega arith)) ∙ ih (omega arith)

  stored_here : p < peers → length t ≡ charges_size → length c.by ≡ users → charges_at (put_charges t p c) p ≡ c
  unfolding charges_at put_charges
  stored_here l size four =
      let e : build (λ u. charge_at (put_below t p c users) (users * p + u)) users ≡ build (λ u. get_or c.by u nothing) users =
      build-ext (λ u. charge_at (put_below t p c users) (users * p + u)) (λ u. get_or c.by u nothing) users (λ u lu. below-here users u (omega arith) lu) in
      let f : build (λ u. get_or c.by u nothing) users ≡ c.by = ap (build (λ u. get_or c.by u nothing)) (sym four) ∙ build-list nothing c.by in
      ap (λ (l : List Charge). record { by = l }) (e ∙ f)

  stored_there : (q : ℕ) → (p ≡ q → ⊥) → charges_at (put_charges t p c) q ≡ charges_at t q
  unfolding charges_at put_charges
  stored_there q e =
      ap (λ (l : List Charge). record { by = l })
      (build-ext (λ u. charge_at (put_below t p c users) (users * q + u)) (λ u. charge_at t (users * q + u)) users
      (λ u lu. below-there users (users * q + u) (λ v lv x. e (omega arith))))

  pub charges-stored : p < peers → length t ≡ charges_size → length c.by ≡ users → charges_v (put_charges t p c) ≡ upd (charges_v t) p c
  unfolding charges_v
  charges-stored l size four = ap (upto peers fresh_charges) (fun_ext (λ q. go q (same? p q))) ∙ upto-upd peers fresh_charges (charges_at t) p c l
    where
      go : (q : ℕ) → Same p q → charges_at (put_charges t p c) q ≡ upd (charges_at t) p c q
      go q (same e) = rw (← e, upd_same) (stored_here l size four)
      go q (other e) = rw (upd_other (charges_at t) p q c e) (stored_there q e)
