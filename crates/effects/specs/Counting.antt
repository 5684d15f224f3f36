-- A command is counted: the state that the tables stand for then, and the command's number.
-- Assumes nothing.
use Rattle.std.specs.Prelude.{suc, ◌<◌, ◌≡◌}
use Rattle.std.proofs.Math.Path.{refl}
use Rattle.std.proofs.Common.{◌∙◌, arith}
use Rattle.tables.specs.Peers.{modulus, accepted_at, count_command}
use Rattle.tables.specs.PeersView.{accepted_v, status-counted, user-counted, given_counted, accepted-counted, counted-length}
use Rattle.model.specs.Tables.{accept}
use Rattle.view.specs.View.{Bus, set_peers, Shape, shape-peers, state_of}
use Rattle.effects.specs.Effects.{counted}
use Rattle.effects.specs.Good.{Good}

-- The bus with the command counted.
abbrev pub counting : Bus → Bus
counting b = set_peers b (count_command b.peers)

pub shape-counted : (b : Bus) → Shape b → Shape (counting b)
shape-counted b s = shape-peers s (counted-length b.peers ∙ s.peers)

module _ (b : Bus) (s : Shape b) (g : Good (state_of b)) where
  pub countable-more : suc (state_of b).accepted < modulus
  countable-more = omega (arith, g.bounded.few)

  pub accepted-more : accepted_v (count_command b.peers) ≡ suc (state_of b).accepted
  accepted-more = accepted-counted b.peers s.peers countable-more

  pub counted-view : state_of (counting b) ≡ accept (state_of b)
  unfolding accept
  counted-view = rw (status-counted b.peers, user-counted b.peers, given_counted b.peers, accepted-more)

  pub counted-number : accepted_at (count_command b.peers) ≡ (accept (state_of b)).accepted
  unfolding accept accepted_v
  counted-number = accepted-more

  pub number-counted : (counted b.peers).number ≡ (accept (state_of b)).accepted
  unfolding counted
  number-counted = counted-number

  pub number_more : (counted b.peers).number ≡ suc (state_of b).accepted
  unfolding counted accepted_v
  number_more = accepted-more

  pub peers-counted : (counted b.peers).peers ≡ count_command b.peers
  unfolding counted
  peers-counted = refl
