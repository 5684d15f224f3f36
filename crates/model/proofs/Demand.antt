-- The theorems that go with specs/Demand.antt and stand on others: each goes by the definitions and the theorems there.
-- Assumes nothing.
use Rattle.std.specs.Prelude.{true, ℕ, ◌+◌, ◌*◌, ◌≤◌, ◌<◌, ◌≡◌, refl, List, map, length, get_or, eqb, ltb, Ok, Err}
use Rattle.model.specs.Lists.{either}
use Rattle.std.proofs.Common.{sym, ◌∙◌, arith, eqb-true, lt-ltb}
use Rattle.laws.specs.Tests.{pick, pick_all}
use Rattle.laws.specs.Weights.{keep}
use Rattle.laws.specs.Build.{build-length}
use Rattle.frames.specs.declared.Command.{Command}
use Rattle.frames.specs.declared.Command.TheVariants.{Open, Disconnect, Create, Destroy, Release, Transfer, Send, Receive, Quota, Holders, ShowSeed}
use Rattle.frames.specs.Frame.{opcode, parse, send_id, payload_of, Parsed}
use Rattle.frames.specs.Legal.{payload-length}
use Rattle.frames.proofs.Legal.{legal-command}
use Rattle.frames.specs.Fields.{Fields}
use Rattle.frames.proofs.Fields.{fields-command}
use Rattle.quota.specs.Charges.{users, own}
use Rattle.model.specs.Resources.{Resource, weigh, amount, most, share}
use Rattle.model.specs.Requests.{destinations, attached}
use Rattle.model.specs.State.{State, slot}
use Rattle.model.specs.Step.{Call, step, run, answer_of}
use Rattle.model.specs.Book.{Book, queued, acting_peer, sizes_of, goes_to, would_leave, nodes_of, owned_by, Fed, note_parsed, feed, is_seed}
use Rattle.model.specs.Claim.{reported, book_after, ThirdDemand, fed}
use Rattle.model.specs.Accepted.{Accepted}
use Rattle.model.proofs.Accepted.{accepted-call}
use Rattle.model.proofs.Shown.{quota-reports}
use Rattle.model.specs.Charged.{Charged}
use Rattle.model.specs.ChargedProof.{known-open}
use Rattle.model.proofs.ChargedProof.{always-charged}
use Rattle.model.specs.ChargedBounds.{refused-122}
use Rattle.model.proofs.ChargedBounds.{at-most-half-queued, share-never-refused}
use Rattle.model.specs.Sim.{called, Sim}
use Rattle.model.specs.SimSend.{nodes-of-slots, places_is}
use Rattle.model.proofs.SimRun.{alike}
use Rattle.model.specs.Demand.{queued-is, RefusedSend, refused-send, seeds-command}

-- Within the share, by the book, no send is refused for quota.
assured : {N : ℕ} (name : ℕ → ℕ) (b : State) (k : Book) (f : List ℕ) → Sim N name b k → Charged b → RefusedSend b f →
    ((q : ℕ) (r : Resource) → 0 < goes_to k f q → would_leave k f q r ≤ share r) → ⊥
unfolding goes_to would_leave
assured name b k f s h x within =
    let p = x.peer.0 in
    let z = x.sizes in
    let sized = x.lawful.1 in
    let g = refused-122 b p (destinations f z) (attached f z) (length (payload_of f)) x.refused in
    let l : b.user p < users = known-open b p h g.is_open in
    let e : z ≡ sizes_of f = λ i. record { nd = sized.destinations i; nh = sized.attached i; nb = sized.bytes i } in
    let a : p ≡ acting_peer f = (fields-command f (Send x.peer z) x.read).peer in
    let n : nodes_of k p (destinations f z) ≡ map (called name) (map (slot b p) (destinations f z)) = nodes-of-slots name b k s p (destinations f z) g.holds in
    share-never-refused b h p (destinations f z) (attached f z) (length (payload_of f))
    (λ q r places.
    let w : 0 < length (keep (owned_by q) (nodes_of k p (destinations f z))) →
    pick (ltb (k.user p) users) (queued k q (k.user p) r) 0 + length (keep (owned_by q) (nodes_of k p (destinations f z))) * weigh r z.nb z.nh ≤ share r
    = rw (e, a) (within q r) in
    let v = rw (n, places_is name q (map (slot b p) (destinations f z)), s.users p, lt-ltb (b.user p) users l) at w in
    let nb : length (payload_of f) ≡ z.nb = payload-length f z sized in
    let nh : length (attached f z) ≡ z.nh = build-length (λ j. (send_id f (z.nd + j)).0) z.nh in
    rw (nb, nh) (omega (arith, v places, queued-is name b k s q (b.user p) r, (h.at q).sums r (b.user p) l)))
    x.refused

-- The quota question reports the book's numbers.
reports : {N : ℕ} (name : ℕ → ℕ) (b : State) (k : Book) (c : Call) (d : Command) → Sim N name b k → Charged b → ((q u : ℕ) (r : Resource) → u < users → queued k q u r ≤ most r) →
    Accepted b c d → Fields c.frame d → opcode c.frame ≡ 9 → (r : Resource) → reported r (answer_of (step b c)) ≡ queued k (acting_peer c.frame) (get_or c.frame 2 0) r
reports name b k c (Open p u) s h m a x o r = absurd (omega (arith, x.0.command))
reports name b k c (Disconnect p) s h m a x o r = absurd (omega (arith, x.command))
reports name b k c (Create p i) s h m a x o r = absurd (omega (arith, x.0.command))
reports name b k c (Destroy p i) s h m a x o r = absurd (omega (arith, x.0.command))
reports name b k c (Release p i) s h m a x o r = absurd (omega (arith, x.0.command))
reports name b k c (Transfer p i q) s h m a x o r = absurd (omega (arith, x.0.command))
reports name b k c (Send p z) s h m a x o r = absurd (omega (arith, x.command))
reports name b k c (Receive p room) s h m a x o r = absurd (omega (arith, x.command))
reports name b k c (Quota p u) s h m a x o r =
    let l : u.0 < users = omega (arith, a.legal.1) in
    let e : amount r (own (b.charges p.0) u) ≡ queued k p.0 u.0 r = (h.at p.0).sums r u.0 l ∙ sym (queued-is name b k s p.0 u.0 r) in
    rw (← x.0.peer, ← x.1) (quota-reports b c p u a r (omega (arith, m p.0 u.0 r l, half-small r)) ∙ e)
  where
    half-small : (r : Resource) → most r < 65536
    half-small Resource.messages = omega arith
    half-small Resource.bytes = omega arith
    half-small Resource.handles = omega arith
reports name b k c (Holders p i) s h m a x o r = absurd (omega (arith, x.0.command))
reports name b k c (ShowSeed p room) s h m a x o r = absurd (omega (arith, x.command))

seeds-left : (k : Book) (x : Fed) → either (is_seed x.frame) (eqb (opcode x.frame) 12) ≡ true → (q u : ℕ) (r : Resource) → queued (feed k x) q u r ≡ queued k q u r
unfolding feed
seeds-left k x e q u r =
    pick_all (λ (y : Book). queued y q u r ≡ queued k q u r) (eqb x.number 0) _ k (go (parse x.frame) refl) refl
  where
    go : (y : Parsed) → parse x.frame ≡ y → queued (note_parsed k x.frame x.answer y) q u r ≡ queued k q u r
    go (Err r) h = refl
    go (Ok c) h = seeds-command k x.frame x.answer c (legal-command x.frame c h) (fields-command x.frame c h) e q u r

-- The third demand.
pub third-demand : ThirdDemand
third-demand cs c =
    let x = alike cs in
    let name = x.world.name in
    let s = x.world.sim in
    let h = always-charged cs in
    let m : (q u : ℕ) (r : Resource) → u < users → queued (book_after cs) q u r ≤ most r
    = λ q u r l. rw (queued-is name (run cs) (book_after cs) s q u r) (at-most-half-queued cs q r u l) in
    record {
      bounded = m;
      assured = λ send within e. assured name (run cs) (book_after cs) c.frame s h (refused-send (run cs) c (eqb-true (opcode c.frame) 7 send) e) within;
      reports = λ nine z r.
          let y = accepted-call (run cs) c z in
          reports name (run cs) (book_after cs) c y.0 s h m y.1 (fields-command c.frame y.0 y.1.read) nine r;
      seeds = λ e q u r. seeds-left (book_after cs) (fed c (step (run cs) c)) e q u r;
      sums = λ q u r. omega (arith, s.sums q u r);
    }
