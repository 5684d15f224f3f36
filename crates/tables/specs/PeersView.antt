-- The table of peers seen as the model's columns: status, user, given IDs and accepted commands.
-- Assumes nothing.
use Prim.Native.Nat.{ℕ, suc, ◌+◌, ◌%◌, ◌<◌}
use Rattle.std.specs.Prelude.{◌≡◌, length, get_or, eqb}
use Rattle.std.proofs.Math.Path.{refl, ap, fun_ext}
use Rattle.std.proofs.Common.{◌∙◌}
use mathlib.Core.List.{List}
use native.Mathlib.Omega.{arith}
use Rattle.std.proofs.Math.ListN.{set, length-set}
use Rattle.std.proofs.Math.Seq.{get_or-set_same, get_or-set_other}
use Rattle.laws.specs.Tests.{pick, Same, Same.same, Same.other, same?}
use Rattle.laws.specs.Tables.{upd, upd_same, upd_other, upd-self, upd-map}
use Rattle.model.specs.State as model
use Rattle.model.specs.State.{no_user}
use Rattle.model.specs.State.Status.{unopened, opened, disconnected}
use Rattle.model.specs.Refusals.{present}
use Rattle.tables.specs.declared.Status.{Status}
use Rattle.tables.specs.declared.Status.TheVariants.{Unopened, Open, Disconnected}
use Rattle.laws.specs.Guards.{upto, upto-at, upto-upd}
use Rattle.tables.specs.Peers.{modulus, peer_row, accepted_at, state_at, status_of, status_at, refusal_of, standing_at, user_at, given_at, set_open, set_disconnected, set_given, next_number, count_command}
use Rattle.ids.specs.Sizes.{peers, peers_size}

-- The three numbers of a peer.
pub record PeerRow : Type 0 where
  pub state : ℕ
  pub user : ℕ
  pub given : ℕ

unfoldable pub row_at : List ℕ → ℕ → PeerRow
row_at ps p = record { state = state_at ps p; user = user_at ps p; given = get_or ps (peer_row p + 2) 0 }

-- The row of a peer that is opened, that disconnects, and to which n IDs are given.
abbrev open_row : List ℕ → ℕ → ℕ → PeerRow
open_row ps p u = record { state = 1; user = u; given = (row_at ps p).given }

abbrev disconnected_row : List ℕ → ℕ → PeerRow
disconnected_row ps p = record { state = 2; user = (row_at ps p).user; given = (row_at ps p).given }

abbrev given_row : List ℕ → ℕ → ℕ → PeerRow
given_row ps p n = record { state = (row_at ps p).state; user = (row_at ps p).user; given = n }

-- What the model has of each: a peer never opened has no user.
abbrev pub status_seen : Status → model.Status
status_seen Unopened = unopened
status_seen Open = opened
status_seen Disconnected = disconnected

abbrev pub user_seen : Status → ℕ → ℕ
user_seen Unopened u = no_user
user_seen Open u = u
user_seen Disconnected u = u

abbrev pub status_in : PeerRow → model.Status
status_in r = status_seen (status_of r.state)

abbrev pub user_in : PeerRow → ℕ
user_in r = user_seen (status_of r.state) r.user

abbrev pub given_in : PeerRow → ℕ
given_in r = r.given % modulus

-- A column of the eight peers, d past them.
unfoldable pub column : {A : Type 0} → (PeerRow → A) → A → List ℕ → ℕ → A
column g d ps = upto peers d (λ q. g (row_at ps q))

-- The accessors.
unfoldable pub status_v : List ℕ → ℕ → model.Status
status_v = column status_in unopened

unfoldable pub user_v : List ℕ → ℕ → ℕ
user_v = column user_in no_user

unfoldable pub given_v : List ℕ → ℕ → ℕ
given_v = column given_in 0

unfoldable pub accepted_v : List ℕ → ℕ
accepted_v ps = accepted_at ps

module _ {A : Type 0} (g : PeerRow → A) (d : A) where
  column-at : (ps : List ℕ) (p : ℕ) → p < peers → column g d ps p ≡ g (row_at ps p)
  unfolding column
  column-at ps p l = upto-at peers d (λ q. g (row_at ps q)) p l

  column-rows : (ps qs : List ℕ) → row_at qs ≡ row_at ps → column g d qs ≡ column g d ps
  unfolding column
  column-rows ps qs e = ap (λ (f : ℕ → PeerRow). upto peers d (λ q. g (f q))) e

  module _ (ps qs : List ℕ) (p : ℕ) (r : PeerRow) (e : row_at qs ≡ upd (row_at ps) p r) where
    column-row : column g d qs ≡ upto peers d (upd (λ q. g (row_at ps q)) p (g r))
    unfolding column
    column-row = ap (λ (f : ℕ → PeerRow). upto peers d (λ q. g (f q))) e ∙ ap (upto peers d) (upd-map g (row_at ps) p r)

    column-upd : p < peers → column g d qs ≡ upd (column g d ps) p (g r)
    unfolding column
    column-upd l = column-row ∙ upto-upd peers d (λ q. g (row_at ps q)) p (g r) l

    column-keep : g r ≡ g (row_at ps p) → column g d qs ≡ column g d ps
    unfolding column
    column-keep h = column-row ∙ ap (upto peers d) (upd-self (λ q. g (row_at ps q)) p (g r) h)

-- One row written.
module _ (ps : List ℕ) (size : length ps ≡ peers_size) (p : ℕ) (l : p < peers) where
  open_row_lem : (u : ℕ) → row_at (set_open ps p u) ≡ upd (row_at ps) p (open_row ps p u)
  unfolding row_at set_open
  open_row_lem u = fun_ext (λ q. go q (same? p q))
    where
      one : List ℕ
      one = set ps (peer_row p) 1

      go : (q : ℕ) → Same p q → row_at (set_open ps p u) q ≡ upd (row_at ps) p (open_row ps p u) q
      go q (same e) =
          rw (
            ← e,
            upd_same,
            get_or-set_other one (peer_row p + 1) (peer_row p) u 0 (λ x. absurd (omega arith)),
            get_or-set_same ps (peer_row p) 1 0 (omega arith),
            get_or-set_same one (peer_row p + 1) u 0 (omega (arith, length-set ps (peer_row p) 1)),
            get_or-set_other one (peer_row p + 1) (peer_row p + 2) u 0 (λ x. absurd (omega arith)),
            get_or-set_other ps (peer_row p) (peer_row p + 2) 1 0 (λ x. absurd (omega arith)),
          )
      go q (other e) =
          rw (
            upd_other (row_at ps) p q (open_row ps p u) e,
            get_or-set_other one (peer_row p + 1) (peer_row q) u 0 (λ x. absurd (omega arith)),
            get_or-set_other ps (peer_row p) (peer_row q) 1 0 (λ x. absurd (e (omega arith))),
            get_or-set_other one (peer_row p + 1) (peer_row q + 1) u 0 (λ x. absurd (e (omega arith))),
            get_or-set_other ps (peer_row p) (peer_row q + 1) 1 0 (λ x. absurd (omega arith)),
            get_or-set_other one (peer_row p + 1) (peer_row q + 2) u 0 (λ x. absurd (omega arith)),
            get_or-set_other ps (peer_row p) (peer_row q + 2) 1 0 (λ x. absurd (omega arith)),
          )

  disconnected-row : row_at (set_disconnected ps p) ≡ upd (row_at ps) p (disconnected_row ps p)
  unfolding row_at set_disconnected
  disconnected-row = fun_ext (λ q. go q (same? p q))
    where
      go : (q : ℕ) → Same p q → row_at (set_disconnected ps p) q ≡ upd (row_at ps) p (disconnected_row ps p) q
      go q (same e) =
          rw (
            ← e,
            upd_same,
            get_or-set_same ps (peer_row p) 2 0 (omega arith),
            get_or-set_other ps (peer_row p) (peer_row p + 1) 2 0 (λ x. absurd (omega arith)),
            get_or-set_other ps (peer_row p) (peer_row p + 2) 2 0 (λ x. absurd (omega arith)),
          )
      go q (other e) =
          rw (
            upd_other (row_at ps) p q (disconnected_row ps p) e,
            get_or-set_other ps (peer_row p) (peer_row q) 2 0 (λ x. absurd (e (omega arith))),
            get_or-set_other ps (peer_row p) (peer_row q + 1) 2 0 (λ x. absurd (omega arith)),
            get_or-set_other ps (peer_row p) (peer_row q + 2) 2 0 (λ x. absurd (omega arith)),
          )

  given-row : (n : ℕ) → row_at (set_given ps p n) ≡ upd (row_at ps) p (given_row ps p n)
  unfolding row_at set_given
  given-row n = fun_ext (λ q. go q (same? p q))
    where
      go : (q : ℕ) → Same p q → row_at (set_given ps p n) q ≡ upd (row_at ps) p (given_row ps p n) q
      go q (same e) =
          rw (
            ← e,
            upd_same,
            get_or-set_other ps (peer_row p + 2) (peer_row p) n 0 (λ x. absurd (omega arith)),
            get_or-set_other ps (peer_row p + 2) (peer_row p + 1) n 0 (λ x. absurd (omega arith)),
            get_or-set_same ps (peer_row p + 2) n 0 (omega arith),
          )
      go q (other e) =
          rw (
            upd_other (row_at ps) p q (given_row ps p n) e,
            get_or-set_other ps (peer_row p + 2) (peer_row q) n 0 (λ x. absurd (omega arith)),
            get_or-set_other ps (peer_row p + 2) (peer_row q + 1) n 0 (λ x. absurd (omega arith)),
            get_or-set_other ps (peer_row p + 2) (peer_row q + 2) n 0 (λ x. absurd (e (omega arith))),
          )

  -- The peer is opened for the user u.
  pub status-open : (u : ℕ) → status_v (set_open ps p u) ≡ upd (status_v ps) p opened
  unfolding status_v
  status-open u = column-upd status_in unopened ps (set_open ps p u) p (open_row ps p u) (open_row_lem u) l

  pub user-open : (u : ℕ) → user_v (set_open ps p u) ≡ upd (user_v ps) p u
  unfolding user_v
  user-open u = column-upd user_in no_user ps (set_open ps p u) p (open_row ps p u) (open_row_lem u) l

  pub given-open : (u : ℕ) → given_v (set_open ps p u) ≡ given_v ps
  unfolding given_v
  given-open u = column-keep given_in 0 ps (set_open ps p u) p (open_row ps p u) (open_row_lem u) refl

  pub accepted-open : (u : ℕ) → accepted_v (set_open ps p u) ≡ accepted_v ps
  unfolding accepted_v set_open
  accepted-open u =
      rw (
        get_or-set_other (set ps (peer_row p) 1) (peer_row p + 1) 0 u 0 (λ x. absurd (omega arith)),
        get_or-set_other ps (peer_row p) 0 1 0 (λ x. absurd (omega arith)),
      )

  -- The peer disconnects. It was opened, so it keeps its user.
  pub status-disconnected : status_v (set_disconnected ps p) ≡ upd (status_v ps) p disconnected
  unfolding status_v
  status-disconnected =
      column-upd status_in unopened ps (set_disconnected ps p) p (disconnected_row ps p) disconnected-row l

  pub given-disconnected : given_v (set_disconnected ps p) ≡ given_v ps
  unfolding given_v
  given-disconnected =
      column-keep given_in 0 ps (set_disconnected ps p) p (disconnected_row ps p) disconnected-row refl

  pub accepted-disconnected : accepted_v (set_disconnected ps p) ≡ accepted_v ps
  unfolding accepted_v set_disconnected
  accepted-disconnected = rw (get_or-set_other ps (peer_row p) 0 2 0 (λ x. absurd (omega arith)))

  -- The bus has given n IDs to the peer.
  pub status-given : (n : ℕ) → status_v (set_given ps p n) ≡ status_v ps
  unfolding status_v
  status-given n =
      column-keep status_in unopened ps (set_given ps p n) p (given_row ps p n) (given-row n) refl

  pub user-given : (n : ℕ) → user_v (set_given ps p n) ≡ user_v ps
  unfolding user_v
  user-given n = column-keep user_in no_user ps (set_given ps p n) p (given_row ps p n) (given-row n) refl

  pub given-given : (n : ℕ) → n < modulus → given_v (set_given ps p n) ≡ upd (given_v ps) p n
  unfolding given_v
  given-given n h =
      let m : n % modulus ≡ n = omega arith in
      column-upd given_in 0 ps (set_given ps p n) p (given_row ps p n) (given-row n) l
      ∙ ap (upd (column given_in 0 ps) p) m

  pub accepted-given : (n : ℕ) → accepted_v (set_given ps p n) ≡ accepted_v ps
  unfolding accepted_v set_given
  accepted-given n = rw (get_or-set_other ps (peer_row p + 2) 0 n 0 (λ x. absurd (omega arith)))

-- One more command is accepted.
module _ (ps : List ℕ) where
  counted-rows : row_at (count_command ps) ≡ row_at ps
  unfolding row_at count_command
  counted-rows =
      fun_ext
      (λ q.
      rw (
        get_or-set_other ps 0 (peer_row q) (next_number ps) 0 (λ x. absurd (omega arith)),
        get_or-set_other ps 0 (peer_row q + 1) (next_number ps) 0 (λ x. absurd (omega arith)),
        get_or-set_other ps 0 (peer_row q + 2) (next_number ps) 0 (λ x. absurd (omega arith)),
      ))

  pub status-counted : status_v (count_command ps) ≡ status_v ps
  unfolding status_v
  status-counted = column-rows status_in unopened ps (count_command ps) counted-rows

  pub user-counted : user_v (count_command ps) ≡ user_v ps
  unfolding user_v
  user-counted = column-rows user_in no_user ps (count_command ps) counted-rows

  pub given_counted : given_v (count_command ps) ≡ given_v ps
  unfolding given_v
  given_counted = column-rows given_in 0 ps (count_command ps) counted-rows

  pub accepted-counted : length ps ≡ peers_size → suc (accepted_v ps) < modulus → accepted_v (count_command ps) ≡ suc (accepted_v ps)
  unfolding accepted_v count_command
  accepted-counted size h =
      let m : next_number ps % modulus ≡ suc (accepted_at ps) = omega arith in
      rw (get_or-set_same ps 0 (next_number ps) 0 (omega arith)) m

-- What is read.
module _ (ps : List ℕ) (p : ℕ) (l : p < peers) where
  pub status-is : status_v ps p ≡ status_seen (status_at ps p)
  unfolding status_v status_at row_at
  status-is = column-at status_in unopened ps p l

  pub present-is : (r : ℕ) → present (status_v ps p) r ≡ pick (eqb (standing_at ps p) 0) r (standing_at ps p)
  unfolding standing_at
  present-is r = rw status-is (go (status_at ps p))
    where
      go : (x : Status) → present (status_seen x) r ≡ pick (eqb (refusal_of x) 0) r (refusal_of x)
      go Unopened = refl
      go Open = refl
      go Disconnected = refl

  pub open_is : standing_at ps p ≡ 0 → status_v ps p ≡ opened
  unfolding standing_at
  open_is h = rw status-is (go (status_at ps p) h)
    where
      go : (x : Status) → refusal_of x ≡ 0 → status_seen x ≡ opened
      go Unopened z = absurd (omega arith)
      go Open z = refl
      go Disconnected z = absurd (omega arith)

  pub user-is : (status_v ps p ≡ unopened → ⊥) → user_v ps p ≡ user_at ps p
  unfolding status_v user_v row_at
  user-is h = column-at user_in no_user ps p l ∙ go (status_of (state_at ps p)) (λ e. h (column-at status_in unopened ps p l ∙ e))
    where
      go : (x : Status) → (status_seen x ≡ unopened → ⊥) → user_seen x (user_at ps p) ≡ user_at ps p
      go Unopened k = absurd (k refl)
      go Open k = refl
      go Disconnected k = refl

  pub given_is : given_v ps p ≡ given_at ps p
  unfolding given_v row_at
  given_is = column-at given_in 0 ps p l

pub accepted-is : (ps : List ℕ) → accepted_v ps ≡ accepted_at ps
unfolding accepted_v
accepted-is ps = refl

pub user-disconnected : (ps : List ℕ) → length ps ≡ peers_size → (p : ℕ) → p < peers → (status_v ps p ≡ unopened → ⊥) → user_v (set_disconnected ps p) ≡ user_v ps
unfolding user_v status_v
user-disconnected ps size p l h =
    column-keep user_in no_user ps (set_disconnected ps p) p (disconnected_row ps p) (disconnected-row ps size p l)
    (go (status_of (row_at ps p).state) (λ e. h (column-at status_in unopened ps p l ∙ e)))
  where
    go : (x : Status) → (status_seen x ≡ unopened → ⊥) → (row_at ps p).user ≡ user_seen x (row_at ps p).user
    go Unopened k = absurd (k refl)
    go Open k = refl
    go Disconnected k = refl

-- No store changes the table's length.
module _ (ps : List ℕ) where
  pub open-length : (p u : ℕ) → length (set_open ps p u) ≡ length ps
  unfolding set_open
  open-length p u = simp length-set

  pub disconnected-length : (p : ℕ) → length (set_disconnected ps p) ≡ length ps
  unfolding set_disconnected
  disconnected-length p = simp length-set

  pub given-length : (p n : ℕ) → length (set_given ps p n) ≡ length ps
  unfolding set_given
  given-length p n = simp length-set

  pub counted-length : length (count_command ps) ≡ length ps
  unfolding count_command
  counted-length = simp length-set
