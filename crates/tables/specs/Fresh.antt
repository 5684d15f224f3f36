-- Tables of zeros, seen, are the model's start.
-- Assumes nothing.
use Rattle.std.specs.Prelude.{ℕ, ◌+◌, ◌*◌, ◌≡◌, replicate}
use Rattle.std.proofs.Math.Path.{refl, ap, fun_ext}
use Rattle.std.proofs.Common.{◌∙◌}
use Rattle.quota.specs.Charges.{users, nothing, fresh_charges}
use Rattle.laws.specs.Build.{build}
use Rattle.model.specs.State.{no_user, start}
use Rattle.model.specs.State.Status.{unopened}
use Rattle.model.specs.State.Life.{dead}
use Rattle.model.specs.State.Handle.{none}
use Rattle.laws.specs.Tables.{zeros-at}
use Rattle.laws.specs.Guards.{upto, upto-const}
use Rattle.tables.specs.Peers.{peer_row}
use Rattle.tables.specs.Charges.{charge_at, charges_at}
use Rattle.tables.specs.PeersView.{PeerRow, row_at, status_in, user_in, given_in, column, status_v, user_v, given_v, accepted_v}
use Rattle.tables.specs.NodesView.{life_at, life_v}
use Rattle.tables.specs.HandlesView.{handles_of, handle_v}
use Rattle.tables.specs.ChargesView.{charges_v}
use Rattle.ids.specs.Sizes.{charge_fields, peers}
use Rattle.tables.specs.Handles.{handle_row}
use Rattle.model.specs.Numbers.{nodes}

row_fresh : (n p : ℕ) → row_at (replicate n 0) p ≡ record { state = 0; user = 0; given = 0 }
unfolding row_at
row_fresh n p = rw (zeros-at n (peer_row p), zeros-at n (peer_row p + 1), zeros-at n (peer_row p + 2))

column-fresh : {A : Type 0} (g : PeerRow → A) (d : A) (n : ℕ) → g (record { state = 0; user = 0; given = 0 }) ≡ d → column g d (replicate n 0) ≡ (λ p. d)
unfolding column
column-fresh g d n e = ap (upto peers d) (fun_ext (λ q. ap g (row_fresh n q) ∙ e)) ∙ upto-const peers d

module _ (n : ℕ) where
  pub status-fresh : status_v (replicate n 0) ≡ start.status
  unfolding status_v start
  status-fresh = column-fresh status_in unopened n refl

  pub user-fresh : user_v (replicate n 0) ≡ start.user
  unfolding user_v start
  user-fresh = column-fresh user_in no_user n refl

  pub given-fresh : given_v (replicate n 0) ≡ start.given
  unfolding given_v start
  given-fresh = column-fresh given_in 0 n refl

  pub accepted-fresh : accepted_v (replicate n 0) ≡ start.accepted
  unfolding accepted_v start
  accepted-fresh = rw (zeros-at n 0)

  pub life-fresh : life_v (replicate n 0) ≡ start.life
  unfolding life_v life_at start
  life-fresh = ap (upto nodes (dead 0)) (fun_ext (λ s. rw (zeros-at n (2 * s), zeros-at n (2 * s + 1)))) ∙ upto-const nodes (dead 0)

  handles-fresh : (p : ℕ) → handles_of (replicate n 0) p ≡ (λ s. none)
  unfolding handles_of
  handles-fresh p = ap (upto nodes none) (fun_ext (λ s. rw (zeros-at n (handle_row p s + 1)))) ∙ upto-const nodes none

  pub handle-fresh : handle_v (replicate n 0) ≡ start.handle
  unfolding handle_v start
  handle-fresh = ap (upto peers (λ s. none)) (fun_ext handles-fresh) ∙ upto-const peers (λ s. none)

  charge-fresh : (k : ℕ) → charge_at (replicate n 0) k ≡ nothing
  charge-fresh k = rw (zeros-at n (charge_fields * k), zeros-at n (charge_fields * k + 1), zeros-at n (charge_fields * k + 2))

  fresh_at : (p : ℕ) → charges_at (replicate n 0) p ≡ fresh_charges
  unfolding charges_at build
  fresh_at p = rw (charge-fresh (users * p + 0), charge-fresh (users * p + 1), charge-fresh (users * p + 2), charge-fresh (users * p + 3))

  pub charges-fresh : charges_v (replicate n 0) ≡ start.charges
  unfolding charges_v start
  charges-fresh = ap (upto peers fresh_charges) (fun_ext fresh_at) ∙ upto-const peers fresh_charges
