-- The theorems that go with specs/NoticesProof.antt and stand on others: each goes by the definitions and the theorems there.
-- Assumes nothing.
use Rattle.frames.specs.declared.Command.{Command}
use Rattle.model.specs.Founded.{Founded, founded-accept, founded-seed}
use Rattle.model.proofs.Founded.{founded-release, founded-disconnect, founded-create, founded-destroy_all, founded-give, founded-gives, founded-deliver, founded-receive}
use Rattle.std.specs.Prelude.{ℕ, suc, ◌+◌, ◌*◌, ◌<◌, zero, ◌≡◌, false, List, [], ◌∷◌, map, eqb}
use Rattle.std.proofs.Math.Path.{refl}
use Rattle.std.proofs.Common.{sym}
use Rattle.std.proofs.Math.Bool.{true}
use native.Mathlib.Omega.{arith}
use borrow.Author.Tests.{eqb-true, eqb-false, eq-eqb, ne_eqb}
use Rattle.laws.specs.Tests.{pick, pick_all, Seen, Seen.is_true, Seen.is_false, look}
use Rattle.laws.specs.Tables.{upd_same}
use Rattle.laws.specs.Weights.{All, all-imp}
use Rattle.frames.specs.declared.Command.TheVariants.{Open, Disconnect, Create, Destroy, Release, Transfer, Send, Receive, Quota, Holders, ShowSeed}
use Rattle.frames.specs.Frame.{payload_of}
use Rattle.frames.specs.Legal.{Legal}
use Rattle.model.specs.Numbers.{peers, slots, nodes, owner}
use Rattle.model.specs.Lists.{both}
use Rattle.model.specs.State.{Status.opened, Status.disconnected, Life, is_live, Handle, Handle.none, Handle.some, handle_of, held, count, Entry, Entry.message, Entry.destroyed, Entry.released, messages_in, Seed.unset, Seed.kept, seed_carries, State, slot, counts, free_place}
use Rattle.model.specs.Requests.{destinations, attached}
use Rattle.model.specs.Refusals.{refusal}
use Rattle.model.specs.Tables.{accept, with_status, with_handles, with_handle, with_queues, with_charges, with_lives, with_user}
use Rattle.model.specs.Changes.{take_out, withdraw, give, give_all, push_all, destroy_all}
use Rattle.model.specs.Effects.{opens, creates, destroys, releases_handle, disconnects, receives, effect}
use Rattle.model.specs.Step.{Call, run}
use Rattle.model.proofs.Tested.{tested}
use Rattle.model.specs.Accepted.{Kept}
use Rattle.model.proofs.Accepted.{induction}
use Rattle.model.specs.Notices.{notice_for, Stands, Noted, mentions, Unnamed}
use Rattle.model.specs.Occurs.{no}
use Rattle.model.specs.Counts.{put}
use Rattle.model.specs.NoticesQueues.{noted-accept, noted-out, noted-first, Lone, lone, noted-deliver, noted-settled}
use Rattle.model.proofs.NoticesQueues.{noted-notify_all}
use Rattle.model.specs.NoticesTables.{noted-put, unreleased, noted-give, noted-born}
use Rattle.model.specs.NoticesEnds.{lives-dead, noted-leave, noted-open}
use Rattle.model.proofs.NoticesEnds.{noted-destroy_all}
use Rattle.model.proofs.NoticesFree.{created-unnamed}
use Rattle.model.specs.NoticesProof.{noted-releases, give-status, carried-slots, noted-seed, sound-start}

-- Create.
pub noted-create : (b : State) (p i : ℕ) → Noted b → Founded b → b.status p ≡ opened → p < peers → free_place b p < slots → Noted (creates b p i)
unfolding creates with_handles with_lives
noted-create b p i n fd op l f = noted-born (with_handle b p s (handle_of i 1)) s set holds silent
  where
    s : ℕ
    s = p * slots + free_place b p

    u : Unnamed b s
    u = created-unnamed b p n fd f

    own : owner s ≡ p
    own = omega arith

    set : Noted (with_handle b p s (handle_of i 1))
    set = noted-put b p s i 0 n op (omega arith) (unreleased b s n (λ z e. no u.dead z))

    holds : held (put b.handle p s (handle_of i 1) (owner s) s) ≡ true
    holds = rw (own, upd_same, upd_same)

    silent : (q : ℕ) → All (λ e. notice_for s e ≡ false) (b.queue q)
    silent q = all-imp (λ e. mentions s e ≡ false) (λ e. notice_for s e ≡ false) one (b.queue q) (u.unqueued q)
      where
        one : (e : Entry) → mentions s e ≡ false → notice_for s e ≡ false
        one (message k m) z = refl
        one (destroyed k t) z = ne_eqb t s (λ y. eqb-false s t z (sym y))
        one (released k t) z = ne_eqb t s (λ y. eqb-false s t z (sym y))

-- Disconnect.
pub noted-disconnect : (b : State) (p : ℕ) → Noted b → b.status p ≡ opened → Noted (disconnects b p)
unfolding disconnects
noted-disconnect b p n op = noted-notify_all b (with_status (with_handles emptied p (λ s. none)) p disconnected) left old
  where
    died : State
    died = destroy_all b p (λ s. is_live (b.life s))

    emptied : State
    emptied = take_out died p (messages_in (b.queue p)) []

    nd : Noted died
    nd = noted-destroy_all b p (λ s. is_live (b.life s)) n (λ s o l. l)

    ne : Noted emptied
    ne = noted-out died p (messages_in (b.queue p)) [] nd tt (λ s. omega arith)

    left : Noted (with_status (with_handles emptied p (λ s. none)) p disconnected)
    left =
        noted-leave emptied p ne (unfold take_out with_charges with_queues destroy_all push_all with_lives withdraw in op) (unfold take_out with_charges with_queues in rw upd_same)
        (unfold take_out with_charges with_queues destroy_all push_all with_lives withdraw in (λ s l o. dead s l o (look (is_live (b.life s)))))
      where
        dead : (s : ℕ) → is_live (pick (both (eqb (owner s) p) (is_live (b.life s))) (Life.dead b.accepted) (b.life s)) ≡ true → owner s ≡ p → Seen (is_live (b.life s)) → ⊥
        dead s l o (is_true z) = no (lives-dead b p (λ s. is_live (b.life s)) b.accepted s o z) l
        dead s l o (is_false z) = no (rw (eq-eqb (owner s) p o, z, z)) l

    old : (q : ℕ) → All (Lone b.handle) ((with_status (with_handles emptied p (λ s. none)) p disconnected).queue q)
    old q = unfold with_status with_handles take_out with_charges with_queues destroy_all push_all with_lives withdraw in lone emptied ne q

pub noted-give_all : (b : State) (p as_of : ℕ) (ss : List ℕ) → Noted b → b.status p ≡ opened → All (λ s. s < nodes) ss → Noted (give_all b p as_of ss)
noted-give_all b p as_of [] n op a = n
noted-give_all b p as_of (s ∷ ss) n op a = noted-give_all (give b p as_of s) p as_of ss (noted-give b p as_of s n op a.0) (rw give-status op) a.1

pub noted-receive : (b : State) (p : ℕ) (q : List Entry) → Noted b → b.status p ≡ opened → b.queue p ≡ q → Noted (receives b p q)
noted-receive b p [] n op e = n
noted-receive b p (destroyed k s ∷ q) n op e = noted-first b p [] (destroyed k s) q n e
noted-receive b p (released k s ∷ q) n op e = noted-first b p [] (released k s) q n e
noted-receive b p (message k m ∷ q) n op e =
    let a : All (Stands b.handle b.life p) (message k m ∷ q) = rw e at (n.stands p) in
    noted-settled (give_all (take_out b p (m ∷ []) q) p k m.carried) p
    (noted-give_all (take_out b p (m ∷ []) q) p k m.carried (noted-first b p (m ∷ []) (message k m) q n e) (unfold take_out with_charges with_queues in op) a.0.2.1)

-- Every accepted command.
pub noted-kept : (b : State) (f : List ℕ) (k : Command) → Noted b → Founded b → Legal f k → refusal b f k ≡ 0 → Noted (effect b f k)
unfolding effect
noted-kept b f (Open p u) n d g e = unfold opens in noted-open (accept b) p.0 u.0 (noted-accept b n) (omega (arith, g.0)) (omega (arith, g.1))
noted-kept b f (Disconnect p) n d g e =
    noted-seed (disconnects (accept b) p.0) p.0 unset (noted-disconnect (accept b) p.0 (noted-accept b n) (unfold accept in (tested b f (Disconnect p) e).is_open)) (omega arith, tt)
noted-kept b f (Create p i) n d g e =
    let t = tested b f (Create p i) e in
    noted-create (accept b) p.0 i.0 (noted-accept b n) (founded-accept b d) (unfold accept in t.acting.is_open) (omega (arith, g.0)) (unfold free_place counts accept in t.free)
noted-kept b f (Destroy p i) n d g e =
    let t = tested b f (Destroy p i) e in
    unfold destroys in
    noted-destroy_all (accept b) p.0 (eqb (slot b p.0 i.0)) (noted-accept b n) (unfold accept in (λ s o z. rw (← eqb-true (slot b p.0 i.0) s z) t.lives))
noted-kept b f (Release p i) n d g e =
    let t = tested b f (Release p i) e in
    noted-releases (accept b) p.0 (slot b p.0 i.0) (b.handle p.0 (slot b p.0 i.0)) (noted-accept b n) (unfold accept in refl) (unfold accept in t.unpinned)
noted-kept b f (Transfer p i q) n d g e =
    let t = tested b f (Transfer p i q) e in
    noted-give (accept b) q.0 (suc b.accepted) (slot b p.0 i.0) (noted-accept b n) (unfold accept in t.destination) t.holds
noted-kept b f (Send p z) n d g e =
    let t = tested b f (Send p z) e in
    let c = carried-slots b f p.0 z g.1 t.holds-attached in
    let d = noted-deliver (accept b) (b.user p.0) (map (slot b p.0) (destinations f z)) (map (slot b p.0) (attached f z)) (payload_of f) (noted-accept b n)
    (unfold accept in t.lives) c in
    pick_all Noted (eqb z.nd 0) _ _ (noted-seed _ p.0 (kept (payload_of f) (map (slot b p.0) (attached f z))) d c) d
noted-kept b f (Receive p room) n d g e =
    let t = tested b f (Receive p room) e in
    noted-receive (accept b) p.0 (b.queue p.0) (noted-accept b n) (unfold accept in t.acting.is_open) (unfold accept in refl)
noted-kept b f (Quota p u) n d g e = n
noted-kept b f (Holders p i) n d g e = n
noted-kept b f (ShowSeed p room) n d g e =
    noted-give_all (accept b) p.0 (suc b.accepted) (seed_carries (b.seed p.0)) (noted-accept b n) (unfold accept in (tested b f (ShowSeed p room) e).acting.is_open) (n.seeds p.0).1

founded-handle : (b : State) (p s : ℕ) (x : Handle) → Noted b → Founded b → b.handle p s ≡ x → Founded (releases_handle b p s x)
founded-handle b p s none n d e = d
founded-handle b p s (some i zero) n d e = let z : 0 < count (b.handle p s) = (n.holders p s (rw e)).2 in absurd (omega (arith, rw e at z))
founded-handle b p s (some i (suc c)) n d e = founded-release b p s i c d

founded-kept : (b : State) (f : List ℕ) (k : Command) → Noted b → Founded b → Founded (effect b f k)
unfolding effect
founded-kept b f (Open p u) n d = unfold opens with_user with_status accept in d
founded-kept b f (Disconnect p) n d = founded-seed _ p.0 unset (founded-disconnect (accept b) p.0 (founded-accept b d))
founded-kept b f (Create p i) n d = founded-create (accept b) p.0 i.0 (founded-accept b d)
founded-kept b f (Destroy p i) n d = unfold destroys in founded-destroy_all (accept b) p.0 (eqb (slot b p.0 i.0)) (founded-accept b d)
founded-kept b f (Release p i) n d =
    let s = slot b p.0 i.0 in
    founded-handle (accept b) p.0 s (b.handle p.0 s) (noted-accept b n) (founded-accept b d) (unfold accept in refl)
founded-kept b f (Transfer p i q) n d = founded-give (accept b) q.0 (suc b.accepted) (slot b p.0 i.0) (founded-accept b d)
founded-kept b f (Send p z) n d =
    let e = founded-deliver (accept b) (b.user p.0) (map (slot b p.0) (destinations f z)) (map (slot b p.0) (attached f z)) (payload_of f) (founded-accept b d) in
    pick_all Founded (eqb z.nd 0) _ _ (founded-seed _ p.0 (kept (payload_of f) (map (slot b p.0) (attached f z))) e) e
founded-kept b f (Receive p room) n d = founded-receive (accept b) p.0 (b.queue p.0) (founded-accept b d) (unfold accept in refl)
founded-kept b f (Quota p u) n d = d
founded-kept b f (Holders p i) n d = d
founded-kept b f (ShowSeed p room) n d = founded-gives (accept b) p.0 (suc b.accepted) (seed_carries (b.seed p.0)) (founded-accept b d)

pub sound-kept : Kept (λ b. Noted b × Founded b)
sound-kept b f k x g e = (noted-kept b f k x.0 x.1 g e, founded-kept b f k x.0 x.1)

pub noted : (cs : List Call) → Noted (run cs)
noted cs = (induction (λ b. Noted b × Founded b) sound-start sound-kept cs).0

pub founded : (cs : List Call) → Founded (run cs)
founded cs = (induction (λ b. Noted b × Founded b) sound-start sound-kept cs).1
