-- A judgement goes by searches of its own over some of the tables: on a bus of a run it is what the model says of the state that the whole bus stands for.
-- The search of handles finds the model's slot; the free places are the model's, since a slot that nobody holds is named only where it is attached; and no payload is read.
-- Assumes nothing.
use Prim.Native.Nat.{ℕ, zero, suc, ◌+◌, ◌*◌, ◌<◌}
use Rattle.std.specs.Prelude.{◌≡◌, Bool, true, false, List, [], ◌∷◌, length, get_or, eqb}
use Rattle.std.proofs.Math.Path.{refl, sym, ap, fun_ext}
use Rattle.std.proofs.Common.{◌∙◌, arith, eqb-true, eq-eqb, ne_eqb}
use Rattle.std.proofs.Math.Bool.{not}
use Rattle.laws.specs.Tests.{pick, Seen, Seen.is_true, Seen.is_false, look, clash}
use Rattle.laws.specs.Weights.{All}
use Rattle.laws.specs.Search.{first-ext}
use Rattle.frames.specs.declared.Command.{Command}
use Rattle.frames.specs.declared.Command.TheVariants.{Open, Disconnect, Create, Destroy, Release, Transfer, Send, Receive, Quota, Holders, ShowSeed}
use Rattle.frames.specs.Legal.{Legal}
use Rattle.quota.specs.declared.Charges.{Charges}
use Rattle.laws.specs.Sums.{sum_to}
use Rattle.quota.specs.Charges.{users, nothing}
use Rattle.tables.specs.NodesView.{live-is}
use Rattle.tables.specs.Handles.{find_at}
use Rattle.tables.specs.HandlesView.{handle_v, holders-any}
use Rattle.tables.specs.Listed.{AllListed}
use Rattle.tables.proofs.Listed.{find-is}
use Rattle.tables.specs.Charges.{charges_at}
use Rattle.tables.specs.ChargesView.{charges_v, charges-is}
use Rattle.model.specs.Numbers.{slots, nodes, peers}
use Rattle.model.specs.Lists.{either, any}
use Rattle.model.specs.State.{State, Handle, held, Life, is_live, Message, Entry, Entry.message, Entry.destroyed, Entry.released, messages_in, names, held_by_any, named, seeded, counts, slot, free_place}
use Rattle.model.specs.Resources.{Resource.handles}
use Rattle.model.specs.Charged.{queued_by, Fine}
use Rattle.model.specs.Notices.{Stands}
use Rattle.model.specs.Occurs.{any_below_lem}
use Rattle.model.specs.Refusals.{fits, takeable, countable, present, create_by, destroy_by, release_by, transfer_by, holders_by, refusal, refusal_by, refuses_open, refuses_disconnect, refuses_create, refuses_destroy, refuses_release, refuses_transfer, refuses_send, refuses_receive, refuses_seed, refuses_quota, refuses_holders}
use Rattle.seeds.specs.Seeds.{seed_v}
use Rattle.view.specs.View.{Bus, Shape, state_of, queue_v}
use Rattle.queues.specs.Queues.{attached_of, named_in}
use Rattle.queues.specs.Asking.{named-view, takeable-view}
use Rattle.judges.specs.declared.Order.{Order}
use Rattle.judges.specs.declared.Places.{Places}
use Rattle.judges.specs.declared.Ruling.{Ruling}
use Rattle.judges.specs.Orders.{Sight, plain_sight, resolved, places_in, places_of, unless_at, counts_at, free_at, sight, ruling_of}
use Rattle.effects.specs.Good.{Good}

-- What the model says to a command, as a ruling.
abbrev pub ruled : State → List ℕ → Command → Ruling
ruled st f c = unless_at (refusal st f c) (resolved (plain_sight st) c) (places_in (plain_sight st) f c)

-- Messages without attached handles.
no_length : (l : List ℕ) → length l ≡ 0 → l ≡ []
no_length [] e = refl
no_length (x ∷ l) e = absurd (omega arith)

none-carried : (ms : List Message) → All Fine ms → ((u : ℕ) → u < users → queued_by handles u ms ≡ 0) → All (λ m. m.carried ≡ []) ms
none-carried [] f h = tt
none-carried (m ∷ ms) f h =
    let e : pick (eqb m.user m.user) (length m.carried) 0 + queued_by handles m.user ms ≡ 0 = h m.user f.0.from in
    let t : eqb m.user m.user ≡ true = eq-eqb m.user m.user refl in
    let z : length m.carried + queued_by handles m.user ms ≡ 0 = rw t at e in
    (no_length m.carried (omega arith), none-carried ms f.1 (λ u l. omega (arith, h u l)))

attached-none : (c : Charges) → attached_of c ≡ 0 → (u : ℕ) → u < users → (get_or c.by u nothing).handles ≡ 0
unfolding attached_of sum_to
attached-none c e zero l = omega arith
attached-none c e (suc zero) l = omega arith
attached-none c e (suc (suc zero)) l = omega arith
attached-none c e (suc (suc (suc zero))) l = omega arith
attached-none c e (suc (suc (suc (suc u)))) l = absurd (omega arith)

-- A message for a node stands where its owner holds it.
nobody-names : (h : ℕ → ℕ → Handle) (l : ℕ → Life) (q s : ℕ) (es : List Entry) → All (Stands h l q) es → held (h q s) ≡ false → All (λ m. m.carried ≡ []) (messages_in es) →
    any (names s) (messages_in es) ≡ false
nobody-names h l q s [] a u c = refl
nobody-names h l q s (message n m ∷ es) a u c =
    rw (ne_eqb s m.to (λ e. clash (sym a.0.1 ∙ ap (λ (t : ℕ). held (h q t)) (sym e) ∙ u)), c.0) (nobody-names h l q s es a.1 u c.1)
nobody-names h l q s (destroyed n t ∷ es) a u c = nobody-names h l q s es a.1 u c
nobody-names h l q s (released n t ∷ es) a u c = nobody-names h l q s es a.1 u c

module _ (b : Bus) (shape : Shape b) (g : Good (state_of b)) (lists : AllListed b.handles) where
  abbrev part : Sight
  part = sight b.peers b.nodes b.handles b.charges b.rings b.seeds

  find-same : (p : ℕ) → p < peers → find_at b.handles p ≡ slot (state_of b) p
  find-same p l = fun_ext (λ i. find-is b.handles p ((state_of b).given p) l (g.ids p) (lists p l) i)

  quiet : (s q : ℕ) → q < peers → held_by_any (handle_v b.handles) s ≡ false → eqb (attached_of (charges_at b.charges q)) 0 ≡ true → any (names s) (messages_in (queue_v b.rings b.pool q)) ≡ false
  unfolding held_by_any
  quiet s q l u e =
      let z : attached_of (charges_v b.charges q) ≡ 0 = rw (charges-is b.charges q l) (eqb-true (attached_of (charges_at b.charges q)) 0 e) in
      let w = g.charged.at q in
      nobody-names (handle_v b.handles) (state_of b).life q s ((state_of b).queue q) (g.noted.stands q) (any_below_lem (λ p. held (handle_v b.handles p s)) peers q l u)
      (none-carried (messages_in ((state_of b).queue q)) w.fine (λ v m. sym (w.sums handles v m) ∙ attached-none (charges_v b.charges q) z v m))

  counts_same : (s : ℕ) → s < nodes → counts_at b.nodes b.handles b.charges b.rings b.seeds s ≡ counts (state_of b) s
  unfolding counts_at counts
  counts_same s l = rw (live-is b.nodes s l, ← holders-any b.handles s l) (go (look (held_by_any (handle_v b.handles) s)))
    where
      go : Seen (held_by_any (handle_v b.handles) s) →
          either (is_live ((state_of b).life s)) (either (held_by_any (handle_v b.handles) s) (either (named_in b.charges b.rings s) (seeded (seed_v b.seeds) s)))
          ≡ either (is_live ((state_of b).life s)) (either (held_by_any (handle_v b.handles) s) (either (named (queue_v b.rings b.pool) s) (seeded (seed_v b.seeds) s)))
      go (is_true e) = rw e
      go (is_false e) =
          ap (λ (x : Bool). either (is_live ((state_of b).life s)) (either (held_by_any (handle_v b.handles) s) (either x (seeded (seed_v b.seeds) s))))
          (named-view b.charges b.rings b.pool s (λ q l n. quiet s q l e n))

  free-same : (p : ℕ) → p < peers → free_at b.nodes b.handles b.charges b.rings b.seeds p ≡ free_place (state_of b) p
  unfolding free_at free_place
  free-same p l =
      first-ext (λ k. not (counts_at b.nodes b.handles b.charges b.rings b.seeds (p * slots + k))) (λ k. not (counts (state_of b) (p * slots + k))) slots
      (λ k m. ap not (counts_same (p * slots + k) (omega arith)))

  takeable-same : (p room : ℕ) → p < peers → takeable room (queue_v b.rings [] p) ≡ takeable room (queue_v b.rings b.pool p)
  takeable-same p room l = takeable-view b.rings [] p room shape.ends l ∙ sym (takeable-view b.rings b.pool p room shape.ends l)

  refusal-same : (f : List ℕ) (c : Command) → Legal f c → refusal_by part.find part.free part.state f c ≡ refusal (state_of b) f c
  unfolding refusal refusal_by refuses_open refuses_disconnect refuses_create refuses_destroy refuses_release refuses_transfer refuses_send refuses_receive refuses_seed refuses_quota refuses_holders fits
  refusal-same f (Open p u) l = refl
  refusal-same f (Disconnect p) l = refl
  refusal-same f (Create p i) l =
      ap (λ (find : ℕ → ℕ). create_by find (part.free p.0) (state_of b) p.0 i.0) (find-same p.0 (omega arith))
      ∙ ap (λ (k : ℕ). create_by (slot (state_of b) p.0) k (state_of b) p.0 i.0) (free-same p.0 (omega arith))
  refusal-same f (Destroy p i) l = ap (λ (find : ℕ → ℕ). destroy_by find (state_of b) p.0 i.0) (find-same p.0 (omega arith))
  refusal-same f (Release p i) l = ap (λ (find : ℕ → ℕ). release_by find (state_of b) p.0 i.0) (find-same p.0 (omega arith))
  refusal-same f (Transfer p i q) l = ap (λ (find : ℕ → ℕ). transfer_by find (state_of b) p.0 i.0 q.0) (find-same p.0 (omega arith))
  refusal-same f (Send p z) l = rw (find-same p.0 (omega arith))
  refusal-same f (Receive p room) l = ap (λ (n : ℕ). countable (state_of b) (present ((state_of b).status p.0) n)) (takeable-same p.0 room (omega arith))
  refusal-same f (ShowSeed p room) l = refl
  refusal-same f (Quota p u) l = refl
  refusal-same f (Holders p i) l = ap (λ (find : ℕ → ℕ). holders_by find (state_of b) p.0 i.0) (find-same p.0 (omega arith))

  resolved-same : (f : List ℕ) (c : Command) → Legal f c → resolved part c ≡ resolved (plain_sight (state_of b)) c
  resolved-same f (Open p u) l = refl
  resolved-same f (Disconnect p) l = refl
  resolved-same f (Create p i) l = rw (free-same p.0 (omega arith))
  resolved-same f (Destroy p i) l = rw (find-same p.0 (omega arith))
  resolved-same f (Release p i) l = rw (find-same p.0 (omega arith))
  resolved-same f (Transfer p i q) l = rw (find-same p.0 (omega arith))
  resolved-same f (Send p z) l = refl
  resolved-same f (Receive p room) l = refl
  resolved-same f (ShowSeed p room) l = refl
  resolved-same f (Quota p u) l = refl
  resolved-same f (Holders p i) l = rw (find-same p.0 (omega arith))

  places_same : (f : List ℕ) (c : Command) → Legal f c → places_in part f c ≡ places_in (plain_sight (state_of b)) f c
  places_same f (Open p u) l = refl
  places_same f (Disconnect p) l = refl
  places_same f (Create p i) l = refl
  places_same f (Destroy p i) l = refl
  places_same f (Release p i) l = refl
  places_same f (Transfer p i q) l = refl
  places_same f (Send p z) l = ap (λ (find : ℕ → ℕ). places_of find f z) (find-same p.0 (omega arith))
  places_same f (Receive p room) l = refl
  places_same f (ShowSeed p room) l = refl
  places_same f (Quota p u) l = refl
  places_same f (Holders p i) l = refl

  pub ruling-same : (f : List ℕ) (c : Command) → Legal f c → ruling_of part f c ≡ ruled (state_of b) f c
  unfolding ruling_of
  ruling-same f c l =
      ap (λ (n : ℕ). unless_at n (resolved part c) (places_in part f c)) (refusal-same f c l)
      ∙ ap (λ (o : Order). unless_at (refusal (state_of b) f c) o (places_in part f c)) (resolved-same f c l)
      ∙ ap (λ (w : Places). unless_at (refusal (state_of b) f c) (resolved (plain_sight (state_of b)) c) w) (places_same f c l)
