-- One law for each return of the code that a definition does not say at once, over plain variables.
-- Assumes nothing.
use Rattle.std.specs.Prelude.{ℕ, ◌≡◌, List, []}
use Rattle.std.proofs.Common.{subst}
use Rattle.view.specs.View.{Bus, bus_of}
use Rattle.rings.specs.Rings.{rings_of}
use Rattle.queues.specs.Queues.{queues_of}
use Rattle.ids.specs.declared.Peer.{Peer}
use Rattle.ids.specs.declared.User.{User}
use Rattle.ids.specs.declared.HandleId.{HandleId}
use Rattle.frames.specs.declared.Sizes.{Sizes}
use Rattle.frames.specs.Frame.{payload_of}
use Rattle.quota.specs.declared.Charges.{Charges}
use Rattle.quota.specs.declared.Balance.{Balance}
use Rattle.quota.specs.Charges.{balance_of}
use Rattle.answers.specs.declared.Answer.{Answer}
use Rattle.answers.specs.declared.Answer.TheVariants.{Refused as is_refused, Done as is_done, Transferred as is_transferred, Quota as is_quota, Holders as is_holders}
use Rattle.answers.specs.declared.Outcome.{Outcome}
use Rattle.answers.specs.Answer.{answer_after, outcome_of}
use Rattle.tables.specs.Handles.{holders_at}
use Rattle.tables.specs.Charges.{charges_at}
use Rattle.seeds.specs.Seeds.{dropped as unseeded}
use Rattle.grants.specs.Grants.{given_of}
use Rattle.judges.specs.declared.Order.{Order}
use Rattle.judges.specs.declared.Order.TheVariants as order
use Rattle.judges.specs.declared.Places.{Places}
use Rattle.judges.specs.declared.Ruling.{Ruling}
use Rattle.effects.specs.Effects.{opened_peers, created_of, created, destroys_of, destroys, releases_of, releases, transfers, sends_of, sends, disconnects_of, disconnects, received_of, received, replaced, shown_of, shows}
use Rattle.bus_model.specs.Command.{done_of, carried, answered, reply_to, altered, changed_of, settled, changed, carried_out, Fair}

-- What an order in its bounds says of the variant that it is.
pub fair-as : {x y : Order} → x ≡ y → Fair x → Fair y
fair-as e h = subst Fair e h

-- An answer without a message, written.
abbrev pub Written : Answer → List ℕ → Outcome → List ℕ → Type 0
Written a out o out' = (o ≡ outcome_of a [] [] out) × (out' ≡ answer_after a [] [] out)

-- What is answered to an order, by the arm.
module _ (hs cs : List ℕ) {x : Order} where
  pub replies-refuse : {n : ℕ} → x ≡ order.Refuse n → is_refused n ≡ reply_to hs cs x
  unfolding reply_to
  replies-refuse e = rw e

  pub replies-quota : {p : Peer} {u : User} → x ≡ order.Quota p u → {c : Charges} {y : Balance} → c ≡ charges_at cs p.0 → y ≡ balance_of c u → is_quota y ≡ reply_to hs cs x
  unfolding reply_to
  replies-quota e ec ey = rw (e, ← ec, ← ey)

  pub replies-holders : {s : ℕ} → x ≡ order.Holders s → {y : ℕ} → y ≡ holders_at hs s → is_holders y ≡ reply_to hs cs x
  unfolding reply_to
  replies-holders e ey = rw (e, ← ey)

-- The bus after an order, by the arm.
module _ (ps ns hs cs ends entries carried numbers pool seeds : List ℕ) {x : Order} where
  pub alters-open : {p : Peer} {u : User} → x ≡ order.Open p u → {ps' : List ℕ} → ps' ≡ opened_peers ps p.0 u.0 →
      bus_of ps' ns hs cs ends entries carried numbers pool seeds ≡ altered (bus_of ps ns hs cs ends entries carried numbers pool seeds) x
  unfolding altered
  alters-open e t = rw (e, t)

  pub alters-disconnect : {p : Peer} → x ≡ order.Disconnect p → {ps' ns' hs' cs' ends' entries' carried' numbers' seeds' : List ℕ} →
      disconnects_of ps' ns' hs' cs' (rings_of ends' entries' carried' numbers') ≡ disconnects ps ns hs cs (rings_of ends entries carried numbers) p.0 → seeds' ≡ unseeded seeds p.0 →
      bus_of ps' ns' hs' cs' ends' entries' carried' numbers' pool seeds' ≡ altered (bus_of ps ns hs cs ends entries carried numbers pool seeds) x
  unfolding altered
  alters-disconnect e t d = rw (e, ← t, d)

  pub alters-create : {p : Peer} {i : HandleId} {s : ℕ} → x ≡ order.Create p i s → {ps' ns' hs' : List ℕ} →
      created_of ps' ns' hs' ≡ created ps ns hs p.0 i.0 s →
      bus_of ps' ns' hs' cs ends entries carried numbers pool seeds ≡ altered (bus_of ps ns hs cs ends entries carried numbers pool seeds) x
  unfolding altered
  alters-create e t = rw (e, ← t)

  pub alters-destroy : {p : Peer} {s : ℕ} → x ≡ order.Destroy p s → {ps' ns' ends' entries' carried' numbers' : List ℕ} →
      destroys_of ps' ns' (rings_of ends' entries' carried' numbers') ≡ destroys ps ns hs cs (rings_of ends entries carried numbers) p.0 s →
      bus_of ps' ns' hs cs ends' entries' carried' numbers' pool seeds ≡ altered (bus_of ps ns hs cs ends entries carried numbers pool seeds) x
  unfolding altered
  alters-destroy e t = rw (e, ← t)

  pub alters-release : {p : Peer} {s : ℕ} → x ≡ order.Release p s → {ps' hs' cs' ends' entries' carried' numbers' pool' : List ℕ} →
      releases_of ps' hs' (queues_of cs' ends' entries' carried' numbers' pool') ≡ releases ps ns hs (queues_of cs ends entries carried numbers pool) p.0 s →
      bus_of ps' ns hs' cs' ends' entries' carried' numbers' pool' seeds ≡ altered (bus_of ps ns hs cs ends entries carried numbers pool seeds) x
  unfolding altered
  alters-release e t = rw (e, ← t)

-- An order carried out, by the arm.
module _ (ps ns hs cs ends entries carried numbers pool seeds f : List ℕ) (r : Ruling) where
  pub did-transfer : {q : Peer} {s : ℕ} → r.order ≡ order.Transfer q s → {id : HandleId} {ps' hs' ends' entries' carried' numbers' : List ℕ} →
      given_of id.0 ps' hs' (rings_of ends' entries' carried' numbers') ≡ transfers ps ns hs (rings_of ends entries carried numbers) q.0 s →
      changed_of (is_transferred id) (bus_of ps' ns hs' cs ends' entries' carried' numbers' pool seeds) ≡ changed (bus_of ps ns hs cs ends entries carried numbers pool seeds) f r.order r.places
  unfolding changed
  did-transfer e t = rw (e, ← t)

  pub did-send : {p : Peer} {z : Sizes} → r.order ≡ order.Send p z → {bytes : List ℕ} → bytes ≡ payload_of f → {ps' cs' ends' entries' carried' numbers' pool' seeds' : List ℕ} →
      sends_of ps' (queues_of cs' ends' entries' carried' numbers' pool') ≡ sends ps (queues_of cs ends entries carried numbers pool) p.0 z r.places bytes →
      seeds' ≡ replaced seeds p.0 z r.places bytes →
      changed_of is_done (bus_of ps' ns hs cs' ends' entries' carried' numbers' pool' seeds') ≡ changed (bus_of ps ns hs cs ends entries carried numbers pool seeds) f r.order r.places
  unfolding changed
  did-send e b t d = rw (e, ← b, ← t, d)

  module _ (out : List ℕ) {o : Outcome} {out' : List ℕ} where
    pub did-receive : {p : Peer} → r.order ≡ order.Receive p → {ps' hs' cs' ends' entries' carried' numbers' pool' : List ℕ} →
        received_of o out' ps' hs' (queues_of cs' ends' entries' carried' numbers' pool') ≡ received ps ns hs (queues_of cs ends entries carried numbers pool) p.0 out →
        done_of o (bus_of ps' ns hs' cs' ends' entries' carried' numbers' pool' seeds) out' ≡ carried_out (bus_of ps ns hs cs ends entries carried numbers pool seeds) f out r
    unfolding carried_out
    did-receive e t = rw (e, ← t)

    pub did-show : {p : Peer} → r.order ≡ order.ShowSeed p → {ps' hs' ends' entries' carried' numbers' : List ℕ} →
        shown_of o out' ps' hs' (rings_of ends' entries' carried' numbers') ≡ shows ps ns hs (rings_of ends entries carried numbers) seeds p.0 out →
        done_of o (bus_of ps' ns hs' cs ends' entries' carried' numbers' pool seeds) out' ≡ carried_out (bus_of ps ns hs cs ends entries carried numbers pool seeds) f out r
    unfolding carried_out
    did-show e t = rw (e, ← t)

-- An order that is neither a transfer nor a send; one that is no receive.
module _ (b : Bus) (f : List ℕ) where
  pub did-settle : (x : Order) (w : Places) {a : Answer} {b' : Bus} → a ≡ reply_to b.handles b.charges x → b' ≡ altered b x → settled b x ≡ changed b f x w → changed_of a b' ≡ changed b f x w
  did-settle x w ea eb e = rw (ea, eb) e

  pub did-change : (out : List ℕ) (r : Ruling) {a : Answer} {b' : Bus} → changed_of a b' ≡ changed b f r.order r.places → {o : Outcome} {out' : List ℕ} → Written a out o out' →
      answered (changed b f r.order r.places).answer (changed b f r.order r.places).bus out ≡ carried b f out r.order r.places → done_of o b' out' ≡ carried_out b f out r
  unfolding carried_out
  did-change out r t w e = rw (← e, ← t, w.0, w.1)
