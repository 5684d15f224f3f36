-- Every order keeps the lists of given handles. Those not named here leave the table of handles as it is.
-- Assumes nothing.
use Rattle.std.specs.Prelude.{ℕ, ◌+◌, ◌*◌, ◌%◌, ◌<◌, ◌≡◌, refl, Bool, true, false, not}
use Rattle.std.proofs.Common.{sym, arith}
use Rattle.std.proofs.Math.Path.{ap}
use Rattle.laws.specs.Tests.{clash}
use Rattle.laws.specs.Search.{first_found}
use Rattle.tables.specs.HandlesView.{handle_v, count-is}
use Rattle.tables.specs.Listed.{is_given, AllListed, listed-cleared}
use Rattle.tables.proofs.Listed.{listed-made, listed-reduced}
use Rattle.model.specs.Numbers.{peers, slots, nodes}
use Rattle.model.specs.State.{State, Handle, Handle.none, Handle.some, held, count, is_live, held_by_any, named, seeded, counts, free_place}
use Rattle.model.specs.Lists.{either, any_below}
use Rattle.model.specs.Occurs.{either-false, any_below_lem}
use Rattle.tables.specs.PeersView.{given_counted}
use Rattle.view.specs.View.{Bus, Shape, state_of}
use Rattle.grants.specs.Listing.{listed-given}
use Rattle.effects.specs.Effects.{counted, created, dropped, releases, transfers, disconnects}
use Rattle.effects.specs.After.{after_create, after_release, after_transfer, after_disconnect}
use Rattle.effects.specs.Good.{Good}
use Rattle.effects.specs.Counting.{counting, shape-counted}
use Rattle.effects.specs.Receiving.{few}

-- A free place is held by nobody.
free-unheld : (b : State) (p : ℕ) → p < peers → free_place b p < slots → held (b.handle p (p * slots + free_place b p)) ≡ false
unfolding free_place counts held_by_any
free-unheld b p lp l =
    let k = free_place b p in
    let s = p * slots + k in
    let t : not (counts b s) ≡ true = first_found (λ j. not (counts b (p * slots + j))) slots l in
    let c = not-counts (counts b s) t in
    let x = either-false (is_live (b.life s)) (either (any_below (λ q. held (b.handle q s)) peers) (either (named b.queue s) (seeded b.seed s))) c in
    let y = either-false (any_below (λ q. held (b.handle q s)) peers) (either (named b.queue s) (seeded b.seed s)) x.1 in
    any_below_lem (λ q. held (b.handle q s)) peers p lp y.0
  where
    not-counts : (x : Bool) → not x ≡ true → x ≡ false
    not-counts true e = clash (sym e)
    not-counts false e = refl

unheld-none : (x : Handle) → held x ≡ false → is_given x ≡ 0
unheld-none none e = refl
unheld-none (some i c) e = clash e

module _ (b : Bus) (h : Shape b) (g : Good (state_of b)) (a : AllListed b.handles) where
  pub listed-create : (p i : ℕ) → p < peers → i % 4 ≡ 0 → free_place (state_of b) p < slots → AllListed (after_create b p i (p * slots + free_place (state_of b) p)).handles
  unfolding created
  listed-create p i lp e l =
      listed-made b.handles h.handles p (p * slots + free_place (state_of b) p) lp (omega arith) a i
      (unheld-none (handle_v b.handles p (p * slots + free_place (state_of b) p)) (free-unheld (state_of b) p lp l)) e

  pub listed-release : (p s i c : ℕ) → p < peers → s < nodes → (state_of b).handle p s ≡ some i c → AllListed (after_release b p s).handles
  unfolding releases dropped
  listed-release p s i c lp ls e =
      listed-reduced b.handles h.handles p s lp ls a (omega (arith, count-is b.handles p s lp ls, ap count e, (g.ids p).counted s i c e))

  pub listed-transfer : (q s : ℕ) → q < peers → s < nodes → AllListed (after_transfer b q s).handles
  unfolding transfers counted
  listed-transfer q s lq ls =
      listed-given (counting b) (shape-counted b h) q (counted b.peers).number s lq ls (rw (given_counted b.peers) (g.ids q)) (few b q s h g lq ls) a

  pub listed-disconnect : (p : ℕ) → p < peers → AllListed (after_disconnect b p).handles
  unfolding disconnects
  listed-disconnect p lp = listed-cleared b.handles h.handles p lp a
