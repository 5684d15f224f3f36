-- The laws that the proofs of a send's judgement and of the whole ruling cite, one for each return, over plain variables.
-- Assumes nothing.
use Rattle.std.specs.Prelude.{ℕ, ◌+◌, ◌*◌, ◌/◌, ◌%◌, ◌<◌, ◌≡◌, refl, Bool, true, false, length, take, eqb, ltb, Result, Ok, Err}
use Rattle.std.proofs.Common.{sym, ap, ◌∙◌, arith, zero-add, ne_eqb, ltb-true}
use Rattle.std.proofs.Math.Path.{ap₂}
use mathlib.Core.List.{List, [], ◌∷◌, ◌++◌, map}
use Rattle.laws.specs.Tests.{pick, pick-then, Seen, Seen.is_true, Seen.is_false, look}
use Rattle.laws.specs.Weights.{All, all-imp}
use Rattle.laws.specs.Build.{build-ext, build-length}
use Rattle.ids.specs.Refusals.{EOVERFLOW, ENXIO, EHOSTUNREACH, EDQUOT, refusal_number}
use Rattle.ids.specs.declared.Refusal.{Refusal}
use Rattle.ids.specs.declared.Refusal.TheVariants as refusal
use Rattle.ids.specs.declared.Peer.{Peer}
use Rattle.ids.specs.declared.User.{User}
use Rattle.ids.specs.declared.HandleId.{HandleId}
use Rattle.frames.specs.declared.Command.{Command}
use Rattle.frames.specs.declared.Command.TheVariants.{Open, Disconnect, Create, Destroy, Release, Transfer, Send, Receive, Quota, Holders, ShowSeed}
use Rattle.frames.specs.declared.Sizes.{Sizes}
use Rattle.frames.specs.Frame.{send_id, payload_of}
use Rattle.frames.specs.Legal.{Legal, Sized as Sent, payload-length}
use Rattle.quota.specs.Charges.{allows_all}
use Rattle.rings.specs.Rings.{Rings}
use Rattle.tables.specs.Peers.{accepted_at, user_at}
use Rattle.tables.specs.PeersView.{status_v, user_v, open_is, user-is}
use Rattle.tables.specs.Nodes.{live_at}
use Rattle.tables.specs.Handles.{find_at}
use Rattle.tables.specs.NodesView.{life_v, live-is}
use Rattle.tables.specs.Charges.{charges_at}
use Rattle.tables.specs.ChargesView.{charges_v, charges-is}
use Rattle.model.specs.Numbers.{nodes, slots, most_commands}
use Rattle.model.specs.Lists.{every}
use Rattle.model.specs.State.{is_live, State}
use Rattle.model.specs.State.Status.{unopened, opened}
use Rattle.model.specs.Tested.{every-all}
use Rattle.model.specs.Requests.{destinations, attached}
use Rattle.model.specs.Refusals.{adds, fits, refuses_open, refuses_disconnect, create_by, destroy_by, release_by, transfer_by, send_by, refuses_receive, refuses_quota, holders_by, refuses_seed, refusal_by}
use Rattle.judges.specs.declared.Places.{Places}
use Rattle.judges.specs.declared.Order.{Order}
use Rattle.judges.specs.declared.Order.TheVariants as order
use Rattle.judges.specs.declared.Ruling.{Ruling}
use Rattle.judges.specs.Orders.{eight, no_places, places_of, ruling_of, placed, unless, unless_at, plainly, seen, seen_with, sight, free_at, no_rings, starts_at, ids_from, slots_at, living_at, allowed_at, affordable_at}
use Rattle.judges.specs.CodeOrders.{stop, pass, refusal-some}
use Rattle.judges.specs.CodeSends.{held_by, every_append, every-same, map-length, eight-take}
use Rattle.ids.specs.Sizes.{peers}

refused-at : {x n : ℕ} (o : Order) (w : Places) → x ≡ n → (n ≡ 0 → ⊥) → plainly (order.Refuse n) ≡ unless_at x o w
refused-at {x} {n} o w e ne = rw (e, ne_eqb n 0 ne)

granted-at : {x : ℕ} (o : Order) (w : Places) → x ≡ 0 → record { order = o; places = w } ≡ unless_at x o w
granted-at o w e = rw e

-- What a search for slots answered.
module _ (hs : List ℕ) (p : ℕ) (is : List ℕ) {d : Result (List ℕ) Refusal} (e : d ≡ slots_at hs p is) where
  lacking : {r : Refusal} → d ≡ Err r → (every (held_by hs p) is ≡ false) × (refusal_number r ≡ ENXIO)
  unfolding slots_at
  lacking {r} f = go (look (every (held_by hs p) is))
    where
      go : Seen (every (held_by hs p) is) → (every (held_by hs p) is ≡ false) × (refusal_number r ≡ ENXIO)
      go (is_true g) =
          let x : d ≡ Ok (eight (map (find_at hs p) is)) = e ∙ rw g in
          let y : Err r ≡ Ok (eight (map (find_at hs p) is)) = sym f ∙ x in
          let z : ◌≡◌ {A = ℕ} 0 1 = cc in
          absurd (omega arith)
      go (is_false g) =
          let x : d ≡ Err refusal.ENXIO = e ∙ rw g in
          let y : Err r ≡ Err refusal.ENXIO = sym f ∙ x in
          let z : r ≡ refusal.ENXIO = cc in
          (g, ap refusal_number z)

  holds : {at : List ℕ} → d ≡ Ok at → (every (held_by hs p) is ≡ true) × (at ≡ eight (map (find_at hs p) is))
  unfolding slots_at
  holds {at} f = go (look (every (held_by hs p) is))
    where
      go : Seen (every (held_by hs p) is) → (every (held_by hs p) is ≡ true) × (at ≡ eight (map (find_at hs p) is))
      go (is_true g) =
          let x : d ≡ Ok (eight (map (find_at hs p) is)) = e ∙ rw g in
          let y : Ok at ≡ Ok (eight (map (find_at hs p) is)) = sym f ∙ x in
          let z : at ≡ eight (map (find_at hs p) is) = cc in
          (g, z)
      go (is_false g) =
          let x : d ≡ Err refusal.ENXIO = e ∙ rw g in
          let y : Ok at ≡ Err refusal.ENXIO = sym f ∙ x in
          let z : ◌≡◌ {A = ℕ} 0 1 = cc in
          absurd (omega arith)

-- The slots of IDs that are held are slots.
slots-below : (hs : List ℕ) (p : ℕ) (is : List ℕ) → every (held_by hs p) is ≡ true → All (λ s. s < nodes) (map (find_at hs p) is)
slots-below hs p is e = go is (every-all (held_by hs p) is e)
  where
    go : (is : List ℕ) → All (λ i. held_by hs p i ≡ true) is → All (λ s. s < nodes) (map (find_at hs p) is)
    go [] h = tt
    go (i ∷ is) h = (ltb-true (find_at hs p i) nodes h.0, go is h.1)

living-same : (ns ss : List ℕ) → All (λ s. s < nodes) ss → living_at ns ss ≡ every (λ s. is_live (life_v ns s)) ss
unfolding living_at
living-same ns ss h =
    every-same (λ s. live_at ns (s % nodes)) (λ s. is_live (life_v ns s)) ss
    (all-imp (λ s. s < nodes) (λ s. live_at ns (s % nodes) ≡ is_live (life_v ns s)) (λ s l. let m : s % nodes ≡ s = omega arith in rw m (live-is ns s l)) ss h)

affordable-same : (b : State) (cs : List ℕ) → b.charges ≡ charges_v cs → (u : ℕ) (ds : List ℕ) (nb nh : ℕ) → All (λ s. s < nodes) ds →
    affordable_at cs (record { 0 = u }) ds nb nh ≡ fits b u ds nb nh
unfolding affordable_at allowed_at fits
affordable-same b cs e u ds nb nh h =
    every-same
    (λ d. allows_all (charges_at cs (d / slots % peers)) (record { 0 = u }) (adds (d / slots % peers) ds nb nh))
    (λ d. allows_all (b.charges (d / slots)) (record { 0 = u }) (adds (d / slots) ds nb nh))
    ds
    (all-imp (λ s. s < nodes)
    (λ d. allows_all (charges_at cs (d / slots % peers)) (record { 0 = u }) (adds (d / slots % peers) ds nb nh) ≡ allows_all (b.charges (d / slots)) (record { 0 = u }) (adds (d / slots) ds nb nh))
    (λ d l.
    let m : d / slots % peers ≡ d / slots = omega arith in
    let k : d / slots < peers = omega arith in
    rw (m, e, charges-is cs (d / slots) k))
    ds h)

-- The user of a peer that may send.
starts-user : (ps : List ℕ) (p : ℕ) → p < peers → starts_at ps p ≡ 0 → user_v ps p ≡ user_at ps p
unfolding starts_at
starts-user ps p l z =
    let s = pick-then {A = ℕ} (ltb (accepted_at ps) most_commands) EOVERFLOW 0 (λ x. absurd (omega arith)) z in
    let o : status_v ps p ≡ opened = open_is ps p l s.1 in
    user-is ps p l (λ x. let y : opened ≡ unopened = sym o ∙ x in let n : ◌≡◌ {A = ℕ} 0 1 = cc in absurd (omega arith))

-- judge_send
abbrev pub send_ruling : List ℕ → List ℕ → List ℕ → List ℕ → List ℕ → Peer → Sizes → Ruling
send_ruling ps ns hs cs f p z =
    unless_at (send_by (find_at hs p.0) (seen ps ns hs cs no_rings) p.0 (destinations f z) (attached f z) (length (payload_of f)))
    (order.Send p z)
    (places_of (find_at hs p.0) f z)

ids-front : (f : List ℕ) (z : Sizes) → ids_from f 0 z.nd ≡ destinations f z
ids-front f z = build-ext (λ k. (send_id f (0 + k)).0) (λ k. (send_id f k).0) z.nd (λ j l. ap (λ (k : ℕ). (send_id f k).0) (zero-add j))

module _ (ps ns hs cs f : List ℕ) (p : Peer) (z : Sizes) (l : p.0 < peers) (sent : Sent f z) {n : ℕ} (e : n ≡ starts_at ps p.0) where
  pub send-refused : (n ≡ 0 → ⊥) → plainly (order.Refuse n) ≡ send_ruling ps ns hs cs f p z
  send-refused ne = refused-at _ _ (stop ps p l e ne _) ne

  module _ (zn : n ≡ 0) {d : Result (List ℕ) Refusal} (ed : d ≡ slots_at hs p.0 (ids_from f 0 z.nd)) where
    front-slots : d ≡ slots_at hs p.0 (destinations f z)
    front-slots = ed ∙ ap (slots_at hs p.0) (ids-front f z)

    pub send-unheld : {r : Refusal} → d ≡ Err r → plainly (order.Refuse (refusal_number r)) ≡ send_ruling ps ns hs cs f p z
    send-unheld {r} er =
        let w = lacking hs p.0 (destinations f z) front-slots er in
        refused-at _ _ (pass ps p l e zn _ ∙ rw (every_append (held_by hs p.0) (destinations f z) (attached f z), w.0, w.1)) (refusal-some r)

    module _ {to : List ℕ} (dt : d ≡ Ok to) {h : Result (List ℕ) Refusal} (eh : h ≡ slots_at hs p.0 (ids_from f z.nd z.nh)) where
      pub send-unattached : {r : Refusal} → h ≡ Err r → plainly (order.Refuse (refusal_number r)) ≡ send_ruling ps ns hs cs f p z
      send-unattached {r} er =
          let v = holds hs p.0 (destinations f z) front-slots dt in
          let w = lacking hs p.0 (attached f z) eh er in
          refused-at _ _ (pass ps p l e zn _ ∙ rw (every_append (held_by hs p.0) (destinations f z) (attached f z), v.0, w.0, w.1)) (refusal-some r)

      module _ {carried : List ℕ} (hc : h ≡ Ok carried) {a : Bool} (ea : a ≡ living_at ns (take z.nd to)) where
        all : every (held_by hs p.0) (destinations f z ++ attached f z) ≡ true
        all =
            let v = holds hs p.0 (destinations f z) front-slots dt in
            let w = holds hs p.0 (attached f z) eh hc in
            every_append (held_by hs p.0) (destinations f z) (attached f z) ∙ rw (v.0, w.0)

        below : All (λ s. s < nodes) (map (find_at hs p.0) (destinations f z))
        below = slots-below hs p.0 (destinations f z) (holds hs p.0 (destinations f z) front-slots dt).0

        front-is : take z.nd to ≡ map (find_at hs p.0) (destinations f z)
        front-is =
            ap (take z.nd) (holds hs p.0 (destinations f z) front-slots dt).1
            ∙ eight-take (map (find_at hs p.0) (destinations f z)) z.nd
            (map-length (find_at hs p.0) (destinations f z) ∙ build-length (λ k. (send_id f k).0) z.nd) sent.few

        lives : a ≡ every (λ s. is_live (life_v ns s)) (map (find_at hs p.0) (destinations f z))
        lives = ea ∙ ap (living_at ns) front-is ∙ living-same ns (map (find_at hs p.0) (destinations f z)) below

        pub send-dead : a ≡ false → plainly (order.Refuse EHOSTUNREACH) ≡ send_ruling ps ns hs cs f p z
        send-dead g = refused-at _ _ (pass ps p l e zn _ ∙ rw (all, ← lives, g)) (λ y. absurd (omega arith))

        module _ (g : a ≡ true) {u : User} (eu : u ≡ record { 0 = user_at ps p.0 }) {b : Bool} (eb : b ≡ affordable_at cs u (take z.nd to) z.nb z.nh) where
          fit : b ≡ fits (seen ps ns hs cs no_rings) (user_v ps p.0) (map (find_at hs p.0) (destinations f z)) (length (payload_of f)) (length (attached f z))
          fit =
              let ub : u ≡ record { 0 = user_v ps p.0 } = eu ∙ ap (λ (x : ℕ). record { 0 = x }) (sym (starts-user ps p.0 l (sym e ∙ zn))) in
              let nh : length (attached f z) ≡ z.nh = build-length (λ k. (send_id f (z.nd + k)).0) z.nh in
              let nb : length (payload_of f) ≡ z.nb = payload-length f z sent in
              eb
              ∙ rw (ub, front-is, nh, nb)
              (affordable-same (seen ps ns hs cs no_rings) cs refl (user_v ps p.0) (map (find_at hs p.0) (destinations f z)) z.nb z.nh below)

          pub send-over : b ≡ false → plainly (order.Refuse EDQUOT) ≡ send_ruling ps ns hs cs f p z
          send-over k = refused-at _ _ (pass ps p l e zn _ ∙ rw (all, ← lives, g, ← fit, k)) (λ y. absurd (omega arith))

          pub send-granted : b ≡ true → record { order = order.Send p z; places = record { to = to; carried = carried } } ≡ send_ruling ps ns hs cs f p z
          unfolding places_of
          send-granted k =
              let v = holds hs p.0 (destinations f z) front-slots dt in
              let w = holds hs p.0 (attached f z) eh hc in
              ap₂ (λ (x y : List ℕ). record { order = order.Send p z; places = record { to = x; carried = y } }) v.1 w.1
              ∙ granted-at _ _ (pass ps p l e zn _ ∙ rw (all, ← lives, g, ← fit, k))

-- judge: an order that a judgement gave, of a state of which only a part was seen.
ruled-whole : (x : ℕ) (d : Order) {o : Order} {r : Ruling} → r ≡ plainly o → o ≡ unless x d → r ≡ unless_at x d no_places
ruled-whole x d er eo = er ∙ ap plainly eo ∙ go (eqb x 0)
  where
    go : (b : Bool) → plainly (pick b d (order.Refuse x)) ≡ pick b (plainly d) (plainly (order.Refuse x))
    go true = refl
    go false = refl

pub legal-as : (f : List ℕ) {c : Command} (d : Command) → Legal f c → c ≡ d → Legal f d
legal-as f d h e = rw (← e) h

module _ (ps ns hs cs f : List ℕ) (rs : Rings) (sd : List ℕ) {c : Command} where
  pub ruled-open : {p : Peer} {u : User} {o : Order} {r : Ruling} → c ≡ Open p u → o ≡ unless (refuses_open (seen ps [] [] [] no_rings) p.0) (order.Open p u) →
      r ≡ plainly o → r ≡ ruling_of (sight ps ns hs cs rs sd) f c
  unfolding ruling_of refusal_by refuses_open
  ruled-open {p} {u} ec eo er = rw ec (ruled-whole (refuses_open (seen ps [] [] [] no_rings) p.0) (order.Open p u) er eo)

  pub ruled-disconnect : {p : Peer} {o : Order} {r : Ruling} → c ≡ Disconnect p → o ≡ unless (refuses_disconnect (seen ps [] [] [] no_rings) p.0) (order.Disconnect p) →
      r ≡ plainly o → r ≡ ruling_of (sight ps ns hs cs rs sd) f c
  unfolding ruling_of refusal_by refuses_disconnect
  ruled-disconnect {p} ec eo er = rw ec (ruled-whole (refuses_disconnect (seen ps [] [] [] no_rings) p.0) (order.Disconnect p) er eo)

  pub ruled-create : {p : Peer} {i : HandleId} {o : Order} {r : Ruling} → c ≡ Create p i →
      o ≡ unless (create_by (find_at hs p.0) (free_at ns hs cs rs sd p.0) (seen ps [] [] [] no_rings) p.0 i.0) (order.Create p i (p.0 * slots + free_at ns hs cs rs sd p.0)) →
      r ≡ plainly o → r ≡ ruling_of (sight ps ns hs cs rs sd) f c
  unfolding ruling_of refusal_by
  ruled-create {p} {i} ec eo er = rw ec (ruled-whole (create_by (find_at hs p.0) (free_at ns hs cs rs sd p.0) (seen ps [] [] [] no_rings) p.0 i.0) (order.Create p i (p.0 * slots + free_at ns hs cs rs sd p.0)) er eo)

  pub ruled-destroy : {p : Peer} {i : HandleId} {o : Order} {r : Ruling} → c ≡ Destroy p i →
      o ≡ unless (destroy_by (find_at hs p.0) (seen ps ns hs [] no_rings) p.0 i.0) (order.Destroy p (find_at hs p.0 i.0)) →
      r ≡ plainly o → r ≡ ruling_of (sight ps ns hs cs rs sd) f c
  unfolding ruling_of refusal_by
  ruled-destroy {p} {i} ec eo er = rw ec (ruled-whole (destroy_by (find_at hs p.0) (seen ps ns hs [] no_rings) p.0 i.0) (order.Destroy p (find_at hs p.0 i.0)) er eo)

  pub ruled-release : {p : Peer} {i : HandleId} {o : Order} {r : Ruling} → c ≡ Release p i →
      o ≡ unless (release_by (find_at hs p.0) (seen ps ns hs [] no_rings) p.0 i.0) (order.Release p (find_at hs p.0 i.0)) →
      r ≡ plainly o → r ≡ ruling_of (sight ps ns hs cs rs sd) f c
  unfolding ruling_of refusal_by
  ruled-release {p} {i} ec eo er = rw ec (ruled-whole (release_by (find_at hs p.0) (seen ps ns hs [] no_rings) p.0 i.0) (order.Release p (find_at hs p.0 i.0)) er eo)

  pub ruled-transfer : {p : Peer} {i : HandleId} {q : Peer} {o : Order} {r : Ruling} → c ≡ Transfer p i q →
      o ≡ unless (transfer_by (find_at hs p.0) (seen ps ns hs [] no_rings) p.0 i.0 q.0) (order.Transfer q (find_at hs p.0 i.0)) →
      r ≡ plainly o → r ≡ ruling_of (sight ps ns hs cs rs sd) f c
  unfolding ruling_of refusal_by
  ruled-transfer {p} {i} {q} ec eo er = rw ec (ruled-whole (transfer_by (find_at hs p.0) (seen ps ns hs [] no_rings) p.0 i.0 q.0) (order.Transfer q (find_at hs p.0 i.0)) er eo)

  module _ {p : Peer} {z : Sizes} (ec : c ≡ Send p z) where
    sent-as : send_ruling ps ns hs cs f p z ≡ ruling_of (sight ps ns hs cs rs sd) f c
    unfolding ruling_of refusal_by places_of fits
    sent-as = rw ec

    module _ {x : Result Places Refusal} (ex : placed (order.Send p z) x ≡ send_ruling ps ns hs cs f p z) where
      pub ruled-sent : {w : Places} → x ≡ Ok w → record { order = order.Send p z; places = w } ≡ ruling_of (sight ps ns hs cs rs sd) f c
      ruled-sent g = sym (ap (placed (order.Send p z)) g) ∙ ex ∙ sent-as

      pub ruled-unsent : {e : Refusal} {r : Ruling} → x ≡ Err e → r ≡ plainly (order.Refuse (refusal_number e)) → r ≡ ruling_of (sight ps ns hs cs rs sd) f c
      ruled-unsent g er = er ∙ sym (ap (placed (order.Send p z)) g) ∙ ex ∙ sent-as

  pub ruled_send : {p : Peer} {z : Sizes} {r : Ruling} → c ≡ Send p z → r ≡ send_ruling ps ns hs cs f p z → r ≡ ruling_of (sight ps ns hs cs rs sd) f c
  unfolding ruling_of refusal_by places_of fits
  ruled_send ec er = rw ec er

  pub ruled-receive : {p : Peer} {room : ℕ} {o : Order} {r : Ruling} → c ≡ Receive p room → o ≡ unless (refuses_receive (seen ps [] [] [] rs) p.0 room) (order.Receive p) →
      r ≡ plainly o → r ≡ ruling_of (sight ps ns hs cs rs sd) f c
  unfolding ruling_of refusal_by refuses_receive
  ruled-receive {p} {room} ec eo er = rw ec (ruled-whole (refuses_receive (seen ps [] [] [] rs) p.0 room) (order.Receive p) er eo)

  pub ruled-quota : {p : Peer} {u : User} {o : Order} {r : Ruling} → c ≡ Quota p u → o ≡ unless (refuses_quota (seen ps [] [] [] no_rings) p.0) (order.Quota p u) →
      r ≡ plainly o → r ≡ ruling_of (sight ps ns hs cs rs sd) f c
  unfolding ruling_of refusal_by refuses_quota
  ruled-quota {p} {u} ec eo er = rw ec (ruled-whole (refuses_quota (seen ps [] [] [] no_rings) p.0) (order.Quota p u) er eo)

  pub ruled-holders : {p : Peer} {i : HandleId} {o : Order} {r : Ruling} → c ≡ Holders p i →
      o ≡ unless (holders_by (find_at hs p.0) (seen ps [] hs [] no_rings) p.0 i.0) (order.Holders (find_at hs p.0 i.0)) →
      r ≡ plainly o → r ≡ ruling_of (sight ps ns hs cs rs sd) f c
  unfolding ruling_of refusal_by
  ruled-holders {p} {i} ec eo er = rw ec (ruled-whole (holders_by (find_at hs p.0) (seen ps [] hs [] no_rings) p.0 i.0) (order.Holders (find_at hs p.0 i.0)) er eo)

  pub ruled-seed : {p : Peer} {room : ℕ} {o : Order} {r : Ruling} → c ≡ ShowSeed p room →
      o ≡ unless (refuses_seed (seen_with ps [] [] [] no_rings sd) p.0 room) (order.ShowSeed p) →
      r ≡ plainly o → r ≡ ruling_of (sight ps ns hs cs rs sd) f c
  unfolding ruling_of refusal_by refuses_seed
  ruled-seed {p} {room} ec eo er = rw ec (ruled-whole (refuses_seed (seen_with ps [] [] [] no_rings sd) p.0 room) (order.ShowSeed p) er eo)
