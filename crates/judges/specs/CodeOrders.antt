-- The laws that the proofs of the judgements cite, one for each return, over plain variables: each is shaped like what the callees ensure.
-- Assumes nothing.
use Prim.Native.Nat.{ℕ, ◌+◌, ◌*◌, ◌/◌, min, ◌≤◌, ◌<◌}
use Rattle.std.specs.Prelude.{◌≡◌, Bool, length, get_or, take, eqb, ltb, leb, Option, Some, None, Result, Err, ok_or}
use Rattle.std.proofs.Math.Path.{refl}
use Rattle.std.proofs.Common.{sym, ap, ◌∙◌, arith, length-take-le}
use Rattle.std.proofs.Math.Bool.{true, false}
use mathlib.Core.List.{List, []}
use borrow.Author.Tests.{ne_eqb, eq-eqb, lt-ltb, le-ltb, leb-true, leb-false, le-leb, lt-leb}
use Rattle.laws.specs.Tests.{pick, Seen, Seen.is_true, Seen.is_false, look}
use Rattle.laws.specs.Build.{build-length}
use Rattle.ids.specs.Refusals.{EOVERFLOW, ESHUTDOWN, EEXIST, ENXIO, EPERM, EHOSTUNREACH, EAGAIN, ERANGE, refusal_number}
use Rattle.ids.specs.declared.Refusal.{Refusal}
use Rattle.ids.specs.declared.Refusal.TheVariants as refusal
use Rattle.ids.specs.declared.Peer.{Peer}
use Rattle.ids.specs.declared.User.{User}
use Rattle.ids.specs.declared.HandleId.{HandleId}
use Rattle.rings.specs.declared.Entry.{Entry}
use Rattle.rings.specs.Rings.{Rings, ends_size, length_of, first_of}
use Rattle.tables.specs.declared.Status.{Status}
use Rattle.tables.specs.declared.Status.TheVariants.{Unopened, Open, Disconnected}
use Rattle.tables.specs.Peers.{accepted_at, status_at, standing_at}
use Rattle.tables.specs.PeersView.{status_v, accepted_v, status-is, present-is, accepted-is}
use Rattle.tables.specs.Nodes.{live_at}
use Rattle.tables.specs.NodesView.{live-is}
use Rattle.tables.specs.Handles.{count_at, lookup, find_at}
use Rattle.tables.specs.HandlesView.{count-is}
use Rattle.tables.proofs.HandlesView.{lookup-at, lookup-nothing}
use Rattle.seeds.specs.Seeds.{area_at, set_at, count_at as seed_count, bytes_at, slots_at, piece_at, seed_v}
use Rattle.seeds.specs.Code.{slots_length}
use Rattle.seeds.specs.SeedsView.{seed-set, seed-unset}
use Rattle.queues.specs.Queues.{is_message}
use Rattle.queues.specs.Asking.{takeable-view}
use Rattle.model.specs.Numbers.{nodes, most_commands}
use Rattle.model.specs.Refusals.{present, pinned, refuses_open, refuses_disconnect, destroy_by, release_by, transfer_by, refuses_receive, refuses_quota, holders_by, showable, refuses_seed}
use Rattle.judges.specs.declared.Order.{Order}
use Rattle.judges.specs.declared.Order.TheVariants as order
use Rattle.judges.specs.Orders.{unless, seen, seen_with, no_rings, starts_at, too_large}
use Rattle.ids.specs.Sizes.{peers, slots, most_ids}

-- A number that is a refusal, and one that is none.
pub refused : {x n : ℕ} (o : Order) → x ≡ n → (n ≡ 0 → ⊥) → order.Refuse n ≡ unless x o
refused {x} {n} o e ne = rw (e, ne_eqb n 0 ne)

pub granted : {x : ℕ} (o : Order) → x ≡ 0 → o ≡ unless x o
granted o e = rw e

-- A refusal is a number that is not 0.
pub refusal-some : (r : Refusal) → refusal_number r ≡ 0 → ⊥
refusal-some refusal.EPERM e = absurd (omega (arith, e))
refusal-some refusal.EIO e = absurd (omega (arith, e))
refusal-some refusal.ENXIO e = absurd (omega (arith, e))
refusal-some refusal.EBADF e = absurd (omega (arith, e))
refusal-some refusal.EAGAIN e = absurd (omega (arith, e))
refusal-some refusal.EEXIST e = absurd (omega (arith, e))
refusal-some refusal.EINVAL e = absurd (omega (arith, e))
refusal-some refusal.ENOTTY e = absurd (omega (arith, e))
refusal-some refusal.EFBIG e = absurd (omega (arith, e))
refusal-some refusal.ENOSPC e = absurd (omega (arith, e))
refusal-some refusal.ERANGE e = absurd (omega (arith, e))
refusal-some refusal.EOVERFLOW e = absurd (omega (arith, e))
refusal-some refusal.EMSGSIZE e = absurd (omega (arith, e))
refusal-some refusal.ESHUTDOWN e = absurd (omega (arith, e))
refusal-some refusal.EHOSTUNREACH e = absurd (omega (arith, e))
refusal-some refusal.EDQUOT e = absurd (omega (arith, e))

-- The refusal of what was looked for and is not there.
pub lost : {x : Option ℕ} {e d : Refusal} → Err e ≡ ok_or x d → x ≡ None → e ≡ d
lost {x} {e} {d} v n =
    let w : ◌≡◌ {A = Result ℕ Refusal} (Err e) (Err d) = v ∙ ap (λ (y : Option ℕ). ok_or y d) n in
    cc

-- The lengths of a seed's payload and of its slots.
piece-length : (t : List ℕ) (p n : ℕ) → length (piece_at t p n) ≡ n
unfolding piece_at
piece-length t p n = build-length (λ k. get_or t (area_at p + k) 0) n

carried-length : (t : List ℕ) (p : ℕ) → length (take (seed_count t p) (slots_at t p)) ≡ seed_count t p
carried-length t p = length-take-le (seed_count t p) (slots_at t p) (omega (arith, slots_length t p))

-- The front of a cascade.
module _ (ps : List ℕ) (p : ℕ) (l : p < peers) where
  pub front : (r : ℕ) → pick (ltb (accepted_v ps) most_commands) (present (status_v ps p) r) EOVERFLOW ≡ pick (eqb (starts_at ps p) 0) r (starts_at ps p)
  unfolding starts_at
  front r = rw (accepted-is ps, present-is ps p l r) (go (ltb (accepted_at ps) most_commands))
    where
      go : (b : Bool) → pick b (pick (eqb (standing_at ps p) 0) r (standing_at ps p)) EOVERFLOW ≡ pick (eqb (pick b (standing_at ps p) EOVERFLOW) 0) r (pick b (standing_at ps p) EOVERFLOW)
      go true = refl
      go false = refl

-- starts
module _ (ps : List ℕ) (p : ℕ) {a : ℕ} (e : a ≡ accepted_at ps) where
  pub starts-counted : {n : ℕ} → a < most_commands → n ≡ standing_at ps p → n ≡ starts_at ps p
  unfolding starts_at
  starts-counted l f = rw (← e, lt-ltb a most_commands l) f

  pub starts-over : most_commands ≤ a → EOVERFLOW ≡ starts_at ps p
  unfolding starts_at
  starts-over l = rw (← e, le-ltb a most_commands l)

-- judge_open
module _ (ps : List ℕ) (p : Peer) (u : User) (l : p.0 < peers) {a : ℕ} (e : a ≡ accepted_at ps) where
  pub open-over : most_commands ≤ a → order.Refuse EOVERFLOW ≡ unless (refuses_open (seen ps [] [] [] no_rings) p.0) (order.Open p u)
  unfolding refuses_open
  open-over h = rw (accepted-is ps, ← e, le-ltb a most_commands h)

  module _ (h : a < most_commands) {x : Status} (ex : x ≡ status_at ps p.0) where
    pub open-new : x ≡ Unopened → order.Open p u ≡ unless (refuses_open (seen ps [] [] [] no_rings) p.0) (order.Open p u)
    unfolding refuses_open
    open-new f = rw (accepted-is ps, ← e, lt-ltb a most_commands h, status-is ps p.0 l, ← ex, f)

    pub open-again : x ≡ Open → order.Refuse EEXIST ≡ unless (refuses_open (seen ps [] [] [] no_rings) p.0) (order.Open p u)
    unfolding refuses_open
    open-again f = rw (accepted-is ps, ← e, lt-ltb a most_commands h, status-is ps p.0 l, ← ex, f)

    pub open_gone : x ≡ Disconnected → order.Refuse ESHUTDOWN ≡ unless (refuses_open (seen ps [] [] [] no_rings) p.0) (order.Open p u)
    unfolding refuses_open
    open_gone f = rw (accepted-is ps, ← e, lt-ltb a most_commands h, status-is ps p.0 l, ← ex, f)

-- What a lookup found.
module _ (hs : List ℕ) (p : ℕ) (l : p < peers) (i : ℕ) {x : Option ℕ} (ex : x ≡ lookup hs p i) where
  pub missing : x ≡ None → find_at hs p i ≡ nodes
  missing f = lookup-nothing hs p i (sym ex ∙ f)

  pub found : (s : ℕ) → x ≡ Some s → (s ≡ find_at hs p i) × (s < nodes)
  found s f = lookup-at hs p i l s (sym ex ∙ f)

-- pinned
module _ (ns hs : List ℕ) (p s : ℕ) (l : p < peers) (ls : s < nodes) {b : Bool} (eb : b ≡ live_at ns s) where
  pub pinned-dead : b ≡ false → false ≡ pinned (seen [] ns hs [] no_rings) p s
  pinned-dead f = rw (← live-is ns s ls, ← eb, f)

  module _ (f : b ≡ true) where
    pub pinned-foreign : eqb (s / slots) p ≡ false → false ≡ pinned (seen [] ns hs [] no_rings) p s
    pinned-foreign g = rw (← live-is ns s ls, ← eb, f, g)

    pub pinned-own : eqb (s / slots) p ≡ true → {c : ℕ} → c ≡ count_at hs p s → eqb c 1 ≡ pinned (seen [] ns hs [] no_rings) p s
    pinned-own g ec = rw (← live-is ns s ls, ← eb, f, g, ← count-is hs p s l ls, ← ec)

-- The counted commands.
module _ (ps : List ℕ) (p : Peer) (l : p.0 < peers) {n : ℕ} (e : n ≡ starts_at ps p.0) where
  pub stop : (n ≡ 0 → ⊥) → (r : ℕ) → pick (ltb (accepted_v ps) most_commands) (present (status_v ps p.0) r) EOVERFLOW ≡ n
  stop ne r = front ps p.0 l r ∙ rw (← e, ne_eqb n 0 ne)

  pub pass : n ≡ 0 → (r : ℕ) → pick (ltb (accepted_v ps) most_commands) (present (status_v ps p.0) r) EOVERFLOW ≡ r
  pass z r = front ps p.0 l r ∙ rw (← e, z)

  -- judge_disconnect
  pub disconnect-refused : (n ≡ 0 → ⊥) → order.Refuse n ≡ unless (refuses_disconnect (seen ps [] [] [] no_rings) p.0) (order.Disconnect p)
  unfolding refuses_disconnect
  disconnect-refused ne = refused (order.Disconnect p) (stop ne 0) ne

  pub disconnect-granted : n ≡ 0 → order.Disconnect p ≡ unless (refuses_disconnect (seen ps [] [] [] no_rings) p.0) (order.Disconnect p)
  unfolding refuses_disconnect
  disconnect-granted z = granted (order.Disconnect p) (pass z 0)

  -- judge_destroy
  module _ (ns hs : List ℕ) (i : HandleId) where
    pub destroy-refused : (n ≡ 0 → ⊥) → order.Refuse n ≡ unless (destroy_by (find_at hs p.0) (seen ps ns hs [] no_rings) p.0 i.0) (order.Destroy p (find_at hs p.0 i.0))
    destroy-refused ne = refused _ (stop ne _) ne

    module _ (z : n ≡ 0) {x : Option ℕ} (ex : x ≡ lookup hs p.0 i.0) where
      pub destroy-missing : x ≡ None → order.Refuse ENXIO ≡ unless (destroy_by (find_at hs p.0) (seen ps ns hs [] no_rings) p.0 i.0) (order.Destroy p (find_at hs p.0 i.0))
      destroy-missing f = refused _ (pass z _ ∙ rw (missing hs p.0 l i.0 ex f)) (λ y. absurd (omega arith))

      module _ (s : ℕ) (f : x ≡ Some s) where
        pub destroy-foreign : (s / slots ≡ p.0 → ⊥) → order.Refuse EPERM ≡ unless (destroy_by (find_at hs p.0) (seen ps ns hs [] no_rings) p.0 i.0) (order.Destroy p (find_at hs p.0 i.0))
        destroy-foreign ne =
            let w = found hs p.0 l i.0 ex s f in
            refused _ (pass z _ ∙ rw (← w.0, lt-ltb s nodes w.1, ne_eqb (s / slots) p.0 ne)) (λ y. absurd (omega arith))

        module _ (o : s / slots ≡ p.0) {b : Bool} (eb : b ≡ live_at ns s) where
          pub destroy-dead : b ≡ false → order.Refuse EHOSTUNREACH ≡ unless (destroy_by (find_at hs p.0) (seen ps ns hs [] no_rings) p.0 i.0) (order.Destroy p (find_at hs p.0 i.0))
          destroy-dead g =
              let w = found hs p.0 l i.0 ex s f in
              refused _ (pass z _ ∙ rw (← w.0, lt-ltb s nodes w.1, eq-eqb (s / slots) p.0 o, ← live-is ns s w.1, ← eb, g)) (λ y. absurd (omega arith))

          pub destroy-granted : b ≡ true → order.Destroy p s ≡ unless (destroy_by (find_at hs p.0) (seen ps ns hs [] no_rings) p.0 i.0) (order.Destroy p (find_at hs p.0 i.0))
          destroy-granted g =
              let w = found hs p.0 l i.0 ex s f in
              ap (order.Destroy p) w.0
              ∙ granted _ (pass z _ ∙ rw (← w.0, lt-ltb s nodes w.1, eq-eqb (s / slots) p.0 o, ← live-is ns s w.1, ← eb, g))

    -- judge_release
    pub release-refused : (n ≡ 0 → ⊥) → order.Refuse n ≡ unless (release_by (find_at hs p.0) (seen ps ns hs [] no_rings) p.0 i.0) (order.Release p (find_at hs p.0 i.0))
    release-refused ne = refused _ (stop ne _) ne

    module _ (z : n ≡ 0) {x : Option ℕ} (ex : x ≡ lookup hs p.0 i.0) where
      pub release-missing : x ≡ None → order.Refuse ENXIO ≡ unless (release_by (find_at hs p.0) (seen ps ns hs [] no_rings) p.0 i.0) (order.Release p (find_at hs p.0 i.0))
      release-missing f = refused _ (pass z _ ∙ rw (missing hs p.0 l i.0 ex f)) (λ y. absurd (omega arith))

      module _ (s : ℕ) (f : x ≡ Some s) {b : Bool} (eb : b ≡ pinned (seen [] ns hs [] no_rings) p.0 s) where
        pub release-pinned : b ≡ true → order.Refuse EPERM ≡ unless (release_by (find_at hs p.0) (seen ps ns hs [] no_rings) p.0 i.0) (order.Release p (find_at hs p.0 i.0))
        release-pinned g =
            let w = found hs p.0 l i.0 ex s f in
            refused _ (pass z _ ∙ rw (← w.0, lt-ltb s nodes w.1, ← eb, g)) (λ y. absurd (omega arith))

        pub release-granted : b ≡ false → order.Release p s ≡ unless (release_by (find_at hs p.0) (seen ps ns hs [] no_rings) p.0 i.0) (order.Release p (find_at hs p.0 i.0))
        release-granted g =
            let w = found hs p.0 l i.0 ex s f in
            ap (order.Release p) w.0 ∙ granted _ (pass z _ ∙ rw (← w.0, lt-ltb s nodes w.1, ← eb, g))

    -- judge_transfer
    module _ (q : Peer) (lq : q.0 < peers) where
      pub transfer-refused : (n ≡ 0 → ⊥) → order.Refuse n ≡ unless (transfer_by (find_at hs p.0) (seen ps ns hs [] no_rings) p.0 i.0 q.0) (order.Transfer q (find_at hs p.0 i.0))
      transfer-refused ne = refused _ (stop ne _) ne

      module _ (z : n ≡ 0) {m : ℕ} (em : m ≡ standing_at ps q.0) where
        pub transfer-absent : (m ≡ 0 → ⊥) → order.Refuse m ≡ unless (transfer_by (find_at hs p.0) (seen ps ns hs [] no_rings) p.0 i.0 q.0) (order.Transfer q (find_at hs p.0 i.0))
        transfer-absent ne = refused _ (pass z _ ∙ present-is ps q.0 lq _ ∙ rw (← em, ne_eqb m 0 ne)) ne

        module _ (zm : m ≡ 0) {x : Option ℕ} (ex : x ≡ lookup hs p.0 i.0) where
          there : (r : ℕ) → present (status_v ps q.0) r ≡ r
          there r = present-is ps q.0 lq r ∙ rw (← em, zm)

          pub transfer-missing : x ≡ None → order.Refuse ENXIO ≡ unless (transfer_by (find_at hs p.0) (seen ps ns hs [] no_rings) p.0 i.0 q.0) (order.Transfer q (find_at hs p.0 i.0))
          transfer-missing f = refused _ (pass z _ ∙ there _ ∙ rw (missing hs p.0 l i.0 ex f)) (λ y. absurd (omega arith))

          module _ (s : ℕ) (f : x ≡ Some s) {b : Bool} (eb : b ≡ live_at ns s) where
            pub transfer-dead : b ≡ false → order.Refuse EHOSTUNREACH ≡ unless (transfer_by (find_at hs p.0) (seen ps ns hs [] no_rings) p.0 i.0 q.0) (order.Transfer q (find_at hs p.0 i.0))
            transfer-dead g =
                let w = found hs p.0 l i.0 ex s f in
                refused _ (pass z _ ∙ there _ ∙ rw (← w.0, lt-ltb s nodes w.1, ← live-is ns s w.1, ← eb, g)) (λ y. absurd (omega arith))

            pub transfer-granted : b ≡ true → order.Transfer q s ≡ unless (transfer_by (find_at hs p.0) (seen ps ns hs [] no_rings) p.0 i.0 q.0) (order.Transfer q (find_at hs p.0 i.0))
            transfer-granted g =
                let w = found hs p.0 l i.0 ex s f in
                ap (order.Transfer q) w.0 ∙ granted _ (pass z _ ∙ there _ ∙ rw (← w.0, lt-ltb s nodes w.1, ← live-is ns s w.1, ← eb, g))

  -- judge_receive
  module _ (rs : Rings) (size : length rs.ends ≡ ends_size) (room : ℕ) where
    pub receive-refused : (n ≡ 0 → ⊥) → order.Refuse n ≡ unless (refuses_receive (seen ps [] [] [] rs) p.0 room) (order.Receive p)
    unfolding refuses_receive
    receive-refused ne = refused _ (stop ne _) ne

    module _ (z : n ≡ 0) {k : ℕ} (ek : k ≡ length_of rs.ends p.0) where
      pub receive-empty : k ≡ 0 → order.Refuse EAGAIN ≡ unless (refuses_receive (seen ps [] [] [] rs) p.0 room) (order.Receive p)
      unfolding refuses_receive
      receive-empty f = refused _ (pass z _ ∙ takeable-view rs [] p.0 room size l ∙ rw (← ek, f)) (λ y. absurd (omega arith))

      module _ (some : k ≡ 0 → ⊥) {x : Entry} (ex : x ≡ first_of rs p.0) {b : Bool} (eb : b ≡ too_large x room) where
        -- the oldest entry fits, or does not
        large : pick (is_message x) (pick (leb (x.nb + 8 * min x.nh most_ids) room) 0 ERANGE) 0 ≡ pick b ERANGE 0
        unfolding too_large
        large = rw eb (go (is_message x) (look (leb (x.nb + 8 * min x.nh most_ids) room)))
          where
            go : (m : Bool) → Seen (leb (x.nb + 8 * min x.nh most_ids) room) →
                pick m (pick (leb (x.nb + 8 * min x.nh most_ids) room) 0 ERANGE) 0 ≡ pick (pick m (ltb room (x.nb + 8 * min x.nh most_ids)) false) ERANGE 0
            go true (is_true f) = rw (f, le-ltb room (x.nb + 8 * min x.nh most_ids) (leb-true _ _ f))
            go true (is_false f) = rw (f, lt-ltb room (x.nb + 8 * min x.nh most_ids) (leb-false _ _ f))
            go false f = refl

        pub receive-large : b ≡ true → order.Refuse ERANGE ≡ unless (refuses_receive (seen ps [] [] [] rs) p.0 room) (order.Receive p)
        unfolding refuses_receive
        receive-large f = refused _ (pass z _ ∙ takeable-view rs [] p.0 room size l ∙ rw (← ek, ne_eqb k 0 some, ← ex, large, f)) (λ y. absurd (omega arith))

        pub receive-granted : b ≡ false → order.Receive p ≡ unless (refuses_receive (seen ps [] [] [] rs) p.0 room) (order.Receive p)
        unfolding refuses_receive
        receive-granted f = granted _ (pass z _ ∙ takeable-view rs [] p.0 room size l ∙ rw (← ek, ne_eqb k 0 some, ← ex, large, f))

  -- judge_seed
  module _ (sd : List ℕ) (room : ℕ) where
    pub seed-refused : (n ≡ 0 → ⊥) → order.Refuse n ≡ unless (refuses_seed (seen_with ps [] [] [] no_rings sd) p.0 room) (order.ShowSeed p)
    unfolding refuses_seed
    seed-refused ne = refused _ (stop ne _) ne

    module _ (z : n ≡ 0) {b : Bool} (eb : b ≡ set_at sd p.0) where
      pub seed-none : b ≡ false → order.Refuse EAGAIN ≡ unless (refuses_seed (seen_with ps [] [] [] no_rings sd) p.0 room) (order.ShowSeed p)
      unfolding refuses_seed
      seed-none f = refused _ (pass z _ ∙ rw (seed-unset sd p.0 l (sym eb ∙ f))) (λ y. absurd (omega arith))

      module _ (f : b ≡ true) {x y : ℕ} (ex : x ≡ bytes_at sd p.0) (ey : y ≡ seed_count sd p.0) where
        -- the seed that is set fits, or does not
        shows : showable room (seed_v sd p.0) ≡ pick (leb (x + 8 * y) room) 0 ERANGE
        shows = rw (seed-set sd p.0 l (sym eb ∙ f), piece-length sd p.0 (bytes_at sd p.0), carried-length sd p.0, ex, ey)

        pub seed-large : room < x + 8 * y → order.Refuse ERANGE ≡ unless (refuses_seed (seen_with ps [] [] [] no_rings sd) p.0 room) (order.ShowSeed p)
        unfolding refuses_seed
        seed-large h = refused _ (pass z _ ∙ shows ∙ rw (lt-leb (x + 8 * y) room h)) (λ w. absurd (omega arith))

        pub seed-granted : x + 8 * y ≤ room → order.ShowSeed p ≡ unless (refuses_seed (seen_with ps [] [] [] no_rings sd) p.0 room) (order.ShowSeed p)
        unfolding refuses_seed
        seed-granted h = granted _ (pass z _ ∙ shows ∙ rw (le-leb (x + 8 * y) room h))

-- The questions.
module _ (ps : List ℕ) (p : Peer) (l : p.0 < peers) {n : ℕ} (e : n ≡ standing_at ps p.0) where
  absent : (n ≡ 0 → ⊥) → (r : ℕ) → present (status_v ps p.0) r ≡ n
  absent ne r = present-is ps p.0 l r ∙ rw (← e, ne_eqb n 0 ne)

  here : n ≡ 0 → (r : ℕ) → present (status_v ps p.0) r ≡ r
  here z r = present-is ps p.0 l r ∙ rw (← e, z)

  -- judge_quota
  pub quota-refused : (u : User) → (n ≡ 0 → ⊥) → order.Refuse n ≡ unless (refuses_quota (seen ps [] [] [] no_rings) p.0) (order.Quota p u)
  unfolding refuses_quota
  quota-refused u ne = refused (order.Quota p u) (absent ne 0) ne

  pub quota-granted : (u : User) → n ≡ 0 → order.Quota p u ≡ unless (refuses_quota (seen ps [] [] [] no_rings) p.0) (order.Quota p u)
  unfolding refuses_quota
  quota-granted u z = granted (order.Quota p u) (here z 0)

  -- judge_holders
  module _ (hs : List ℕ) (i : HandleId) where
    pub holders-refused : (n ≡ 0 → ⊥) → order.Refuse n ≡ unless (holders_by (find_at hs p.0) (seen ps [] hs [] no_rings) p.0 i.0) (order.Holders (find_at hs p.0 i.0))
    holders-refused ne = refused _ (absent ne _) ne

    module _ (z : n ≡ 0) {x : Option ℕ} (ex : x ≡ lookup hs p.0 i.0) where
      pub holders-missing : x ≡ None → order.Refuse ENXIO ≡ unless (holders_by (find_at hs p.0) (seen ps [] hs [] no_rings) p.0 i.0) (order.Holders (find_at hs p.0 i.0))
      holders-missing f = refused _ (here z _ ∙ rw (missing hs p.0 l i.0 ex f)) (λ y. absurd (omega arith))

      module _ (s : ℕ) (f : x ≡ Some s) where
        pub holders-foreign : (s / slots ≡ p.0 → ⊥) → order.Refuse EPERM ≡ unless (holders_by (find_at hs p.0) (seen ps [] hs [] no_rings) p.0 i.0) (order.Holders (find_at hs p.0 i.0))
        holders-foreign ne =
            let w = found hs p.0 l i.0 ex s f in
            refused _ (here z _ ∙ rw (← w.0, lt-ltb s nodes w.1, ne_eqb (s / slots) p.0 ne)) (λ y. absurd (omega arith))

        pub holders-granted : s / slots ≡ p.0 → order.Holders s ≡ unless (holders_by (find_at hs p.0) (seen ps [] hs [] no_rings) p.0 i.0) (order.Holders (find_at hs p.0 i.0))
        holders-granted o =
            let w = found hs p.0 l i.0 ex s f in
            ap order.Holders w.0 ∙ granted _ (here z _ ∙ rw (← w.0, lt-ltb s nodes w.1, eq-eqb (s / slots) p.0 o))

-- too_large
pub large-notice : (e : Entry) (room : ℕ) {b : Bool} → b ≡ is_message e → b ≡ false → false ≡ too_large e room
unfolding too_large
large-notice e room eb f = rw (← eb, f)

pub large-message : (e : Entry) (room : ℕ) {b : Bool} {x y m : ℕ} → b ≡ is_message e → b ≡ true → x ≡ e.nb → y ≡ e.nh → m ≡ min y most_ids → ltb room (x + 8 * m) ≡ too_large e room
unfolding too_large
large-message e room eb f ex ey em = rw (← eb, f, em, ex, ey)
