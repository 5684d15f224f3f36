-- The theorems that go with specs/ChargedProof.antt and stand on others: each goes by the definitions and the theorems there.
-- Assumes nothing.
use Rattle.std.specs.Prelude.{ℕ, ◌-◌, ◌≤◌, ◌<◌, suc, ◌≡◌, refl, Bool, true, not, List, [], ◌∷◌, ◌++◌, map, length, eqb}
use Rattle.std.proofs.Common.{◌∙◌, arith}
use Rattle.std.proofs.lemmas.List.{length-map}
use Rattle.laws.specs.Tests.{pick, pick_all}
use Rattle.laws.specs.Tables.{upd-rel}
use Rattle.laws.specs.Weights.{keep, All, load-append, load_split, all_append, all_keep}
use Rattle.laws.specs.Loads.{all_map}
use Rattle.laws.specs.Build.{build-length}
use Rattle.frames.specs.declared.Command.TheVariants.{Open, Disconnect, Create, Destroy, Release, Transfer, Send, Receive, Quota, Holders, ShowSeed}
use Rattle.frames.specs.declared.Sizes.{Sizes}
use Rattle.frames.specs.Frame.{most_ids, most_bytes, payload_of}
use Rattle.frames.specs.Legal.{Sized, payload-length}
use Rattle.quota.specs.declared.Charge.{Charge}
use Rattle.quota.specs.declared.Charges.{Charges}
use Rattle.quota.specs.Charges.{users, charged}
use Rattle.model.specs.Numbers.{nodes}
use Rattle.model.specs.Resources.{Resource, amount}
use Rattle.model.specs.State.{Handle, Handle.none, Handle.some, handle_of, is_live, Message, Entry, Entry.message, Entry.destroyed, Entry.released, messages_in, State, slot, Seed.unset, Seed.kept, seed_carries}
use Rattle.model.specs.Requests.{destinations, attached}
use Rattle.model.specs.Tables.{accept, with_handles, with_handle, with_queues, with_charges}
use Rattle.model.specs.Refusals.{adds, fits}
use Rattle.model.specs.Changes.{push_all, discharged_all, take_out, dropped, remains, forget, destroy_all, arriving, deliver, settle}
use Rattle.model.specs.Effects.{creates, destroys, releases, releases_handle, disconnects, receives, effect}
use Rattle.model.specs.Tested.{Acting, TestedSend}
use Rattle.model.proofs.Tested.{tested}
use Rattle.model.specs.Step.{Call, run}
use Rattle.model.specs.Accepted.{Kept}
use Rattle.model.proofs.Accepted.{induction}
use Rattle.model.specs.Charged.{weight_of, from_user, queued_by, Fine, Sound, Charged}
use Rattle.model.specs.Quiet.{Quiet, quiet_then, quiet-accept, quiet-handles, quiet-lives, quiet-give, quiet-notify, messages-append, messages-keep, quiet-settled, settle-messages}
use Rattle.model.proofs.Quiet.{quiet-give_all, quiet-notify_all, quiet-destroy_all}
use Rattle.model.specs.Charging.{Room, reached-length, reached-discharged-all}
use Rattle.model.proofs.Charging.{discharged-all-at, charged-at}
use Rattle.model.specs.Sending.{fits-room, arriving-load, arriving-fine}
use Rattle.model.specs.ChargedProof.{charged-start, charged-quiet, Parts, charged-opens, known-open, charged-leaves, charged-seed}

pub sound-out : (ms out rest : List Message) (c : Charges) → Sound ms c → Parts ms out rest → All Fine rest → Sound rest (discharged_all c out)
sound-out ms out rest c h e f =
    record {
      sums =
          λ r u l.
          discharged-all-at r c out u (rw (reached-length c h.reached) l) ∙ omega (arith, h.sums r u l, e (from_user u) (weight_of r));
      reached = reached-discharged-all c out h.reached;
      fine = f;
    }

pub charged-take_out : (b : State) (p : ℕ) (out : List Message) (rest : List Entry) → Charged b → Parts (messages_in (b.queue p)) out (messages_in rest) →
    All Fine (messages_in rest) → Charged (take_out b p out rest)
unfolding take_out with_charges with_queues
charged-take_out b p out rest h e f =
    record {
      at =
          upd-rel (λ q x c. Sound (messages_in x) c) b.queue b.charges p rest (discharged_all (b.charges p) out) h.at
          (sound-out (messages_in (b.queue p)) out (messages_in rest) (b.charges p) (h.at p) e f);
      known = h.known;
    }

-- A handle is gone.
pub charged-forget : (b : State) (p s : ℕ) → Charged b → Charged (forget b p s)
unfolding forget
charged-forget b p s h =
    let ms = messages_in (b.queue p) in
    let rest = keep (remains p s) (b.queue p) in
    let k : messages_in (settle (b.handle p) rest) ≡ keep (λ m. not (dropped p s m)) ms =
    settle-messages (b.handle p) rest ∙ messages-keep (remains p s) (λ m. not (dropped p s m)) (λ n m. refl) (b.queue p) in
    charged-take_out b p (keep (dropped p s) ms) (settle (b.handle p) rest) h
    (λ t w. rw k (load_split t w (dropped p s) ms))
    (rw k (all_keep Fine (λ m. not (dropped p s m)) ms (h.at p).fine))

-- Messages are queued and charged.
pub sound-in : (ms new : List Message) (c : Charges) (u : ℕ) (a : Charge) → Sound ms c → Room c (record { 0 = u }) a →
    ((r : Resource) (v : ℕ) → queued_by r v new ≡ pick (eqb u v) (amount r a) 0) → All Fine new → Sound (ms ++ new) (charged c (record { 0 = u }) a)
sound-in ms new c u a h room e f =
    record {
      sums =
          λ r v l.
          charged-at r c u v a (rw (reached-length c h.reached) l) room
          ∙ omega (arith, h.sums r v l, e r v, load-append (from_user v) (weight_of r) ms new);
      reached = room.reached;
      fine = all_append Fine ms new h.fine f;
    }

pub charged-deliver : (b : State) (u : ℕ) (ds hs payload : List ℕ) → Charged b → u < users → All (λ s. s < nodes) ds → All (λ s. s < nodes) hs → length hs ≤ most_ids →
    length payload ≤ most_bytes → fits b u ds (length payload) (length hs) ≡ true → Charged (deliver b u ds hs payload)
unfolding deliver with_charges push_all with_queues
charged-deliver b u ds hs payload h l d a f s e =
    record {
      at =
          λ q.
          rw messages-append
          (sound-in (messages_in (b.queue q)) (messages_in (arriving b u ds hs payload q)) (b.charges q) u (adds q ds (length payload) (length hs)) (h.at q)
          (fits-room b u ds (length payload) (length hs) (λ q. (h.at q).reached) e q)
          (arriving-load b u ds hs payload q) (arriving-fine b u ds hs payload q l d a f s));
      known = h.known;
    }

charged-disconnects : (b : State) (p : ℕ) → Charged b → b.user p < users → Charged (disconnects b p)
unfolding disconnects with_handles take_out with_charges with_queues
charged-disconnects b p h l =
    let t : ℕ → Bool = λ s. is_live (b.life s) in
    let died = destroy_all b p t in
    let quiet : Quiet b died = quiet-destroy_all b p t in
    let emptied = take_out died p (messages_in (b.queue p)) [] in
    let out : Charged emptied = charged-take_out died p (messages_in (b.queue p)) [] (charged-quiet quiet h) (λ t w. rw (quiet.messages p) (omega arith)) tt in
    let bare : Charged (with_handles emptied p (λ s. none)) = charged-quiet (quiet-handles emptied p (λ s. none)) out in
    charged-quiet (quiet-notify_all b _) (charged-leaves _ p bare (rw quiet.user l))

charged-releases : (b : State) (p s i c : ℕ) → Charged b → Charged (releases b p s i c)
unfolding releases
charged-releases b p s i c h =
    let less = with_handle b p s (handle_of i (c - 1)) in
    let k : Charged less = charged-quiet (quiet-handles b p _) h in
    charged-quiet (quiet-notify b _ s) (pick_all Charged (eqb c 1) (forget less p s) less (charged-forget less p s k) k)

charged-releases-handle : (b : State) (p s : ℕ) (x : Handle) → Charged b → Charged (releases_handle b p s x)
charged-releases-handle b p s none h = h
charged-releases-handle b p s (some i c) h = charged-releases b p s i c h

charged-receives : (b : State) (p : ℕ) (q : List Entry) → b.queue p ≡ q → Charged b → Charged (receives b p q)
charged-receives b p [] e h = h
charged-receives b p (message n m ∷ q) e h =
    let f : All Fine (m ∷ messages_in q) = rw e at (h.at p).fine in
    charged-quiet (quiet_then (quiet-give_all _ p n m.carried) (quiet-settled _ p)) (charged-take_out b p (m ∷ []) q h (λ t w. rw e (omega arith)) f.1)
charged-receives b p (destroyed n s ∷ q) e h =
    let f : All Fine (messages_in q) = rw e at (h.at p).fine in
    charged-take_out b p [] q h (λ t w. rw e (omega arith)) f
charged-receives b p (released n s ∷ q) e h =
    let f : All Fine (messages_in q) = rw e at (h.at p).fine in
    charged-take_out b p [] q h (λ t w. rw e (omega arith)) f

charged-send : (b : State) (p : ℕ) (f : List ℕ) (z : Sizes) → Charged b → Sized f z → TestedSend b p (destinations f z) (attached f z) (length (payload_of f)) →
    Charged (deliver (accept b) (b.user p) (map (slot b p) (destinations f z)) (map (slot b p) (attached f z)) (payload_of f))
unfolding fits accept
charged-send b p f z h s t =
    charged-deliver (accept b) (b.user p) (map (slot b p) (destinations f z)) (map (slot b p) (attached f z)) (payload_of f)
    (charged-quiet (quiet-accept b) h)
    (known-open b p h t.acting.is_open)
    (all_map (λ s. s < nodes) (slot b p) (destinations f z) t.holds)
    (all_map (λ s. s < nodes) (slot b p) (attached f z) t.holds-attached)
    (rw (length-map, build-length) s.few-attached)
    (rw (payload-length f z s) s.small)
    (rw length-map t.fitting)

-- Every accepted command.
pub kept-charged : Kept Charged
unfolding effect creates destroys accept
kept-charged b f (Open p u) h l e = charged-opens (accept b) p.0 u.0 (charged-quiet (quiet-accept b) h) (omega (arith, l.1))
kept-charged b f (Disconnect p) h l e =
    let t : Acting b p.0 = tested b f (Disconnect p) e in
    charged-seed _ p.0 unset (charged-disconnects (accept b) p.0 (charged-quiet (quiet-accept b) h) (known-open b p.0 h t.is_open))
kept-charged b f (Create p i) h l e = charged-quiet (quiet_then (quiet_then (quiet-accept b) (quiet-lives _ _)) (quiet-handles _ _ _)) h
kept-charged b f (Destroy p i) h l e = charged-quiet (quiet_then (quiet-accept b) (quiet-destroy_all (accept b) p.0 _)) h
kept-charged b f (Release p i) h l e =
    let s = slot b p.0 i.0 in
    charged-releases-handle (accept b) p.0 s (b.handle p.0 s) (charged-quiet (quiet-accept b) h)
kept-charged b f (Transfer p i q) h l e = charged-quiet (quiet_then (quiet-accept b) (quiet-give (accept b) q.0 (suc b.accepted) _)) h
kept-charged b f (Send p z) h l e =
    let d = charged-send b p.0 f z h l.1 (tested b f (Send p z) e) in
    pick_all Charged (eqb z.nd 0) _ _ (charged-seed _ p.0 (kept (payload_of f) (map (slot b p.0) (attached f z))) d) d
kept-charged b f (Receive p room) h l e = charged-receives (accept b) p.0 (b.queue p.0) refl (charged-quiet (quiet-accept b) h)
kept-charged b f (Quota p u) h l e = h
kept-charged b f (Holders p i) h l e = h
kept-charged b f (ShowSeed p room) h l e = charged-quiet (quiet_then (quiet-accept b) (quiet-give_all (accept b) p.0 (suc b.accepted) (seed_carries (b.seed p.0)))) h

-- Every run.
pub always-charged : (cs : List Call) → Charged (run cs)
always-charged cs = induction Charged charged-start kept-charged cs
