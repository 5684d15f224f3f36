-- What the small changes leave alone, and how many commands are accepted after each command.
-- Assumes nothing.
use Rattle.frames.specs.Frame.{payload_of}
use Rattle.model.specs.Requests.{destinations, attached}
use Rattle.std.specs.Prelude.{ℕ, suc, ◌-◌, ◌≡◌, refl, List, [], ◌∷◌, map, eqb}
use Rattle.std.proofs.Common.{◌∙◌}
use Rattle.laws.specs.Tests.{pick, pick_all, Seen, Seen.is_true, Seen.is_false, look}
use Rattle.frames.specs.declared.Command.{Command}
use Rattle.frames.specs.declared.Command.TheVariants.{Open, Disconnect, Create, Destroy, Release, Transfer, Send, Receive, Quota, Holders, ShowSeed}
use Rattle.model.specs.Numbers.{owner}
use Rattle.model.specs.State.{Handle, Handle.none, Handle.some, handle_of, Entry, Entry.message, Entry.destroyed, Entry.released, State, slot, seed_carries, Seed.kept}
use Rattle.model.specs.Tables.{accept, with_status, with_user, with_given, with_handles, with_handle, with_queues, with_charges, with_lives, with_seed}
use Rattle.model.specs.Changes.{push, push_all, take_out, withdraw, give, give_all, forget, fell, notify, notify_all, destroy_all, deliver, valid, settled}
use Rattle.model.specs.Effects.{opens, creates, destroys, releases, releases_handle, disconnects, receives, effect}

-- A handle that is given leaves the number of commands.
pub give-accepted : (x : State) (p as_of s : ℕ) → (give x p as_of s).accepted ≡ x.accepted
unfolding give withdraw with_handles with_given with_queues
give-accepted x p as_of s = go (look (valid x p as_of s))
  where
    go : Seen (valid x p as_of s) → (give x p as_of s).accepted ≡ x.accepted
    go (is_true e) = rw e refl
    go (is_false e) = rw e refl

pub gives-accepted : (x : State) (p as_of : ℕ) (ss : List ℕ) → (give_all x p as_of ss).accepted ≡ x.accepted
gives-accepted x p as_of [] = refl
gives-accepted x p as_of (s ∷ ss) = gives-accepted (give x p as_of s) p as_of ss ∙ give-accepted x p as_of s

-- A release notice changes queues alone.
pub record Apart (x y : State) : Type 0 where
  pub handle : y.handle ≡ x.handle
  pub given : y.given ≡ x.given
  pub accepted : y.accepted ≡ x.accepted

pub notify-apart : (a x : State) (s : ℕ) → Apart x (notify a x s)
unfolding notify with_queues
notify-apart a x s =
    pick_all (Apart x) (fell a x s) (push x (owner s) (released x.accepted s ∷ [])) x (record { handle = refl; given = refl; accepted = refl })
    (record { handle = refl; given = refl; accepted = refl })

-- A command counts as one, or it is a question and changes nothing.
pub data Count (b a : State) : Type 0 where
  one_more : a.accepted ≡ suc b.accepted → Count b a
  nothing : a ≡ b → Count b a

pub release-count : (b : State) (p s : ℕ) (h : Handle) → (releases_handle (accept b) p s h).accepted ≡ suc b.accepted
unfolding releases accept
release-count b p s none = refl
release-count b p s (some i c) =
    let less = with_handle (accept b) p s (handle_of i (c - 1)) in
    let x = pick (eqb c 1) (forget less p s) less in
    (notify-apart (accept b) x s).accepted
    ∙ pick_all (λ y. y.accepted ≡ suc b.accepted) (eqb c 1) (forget less p s) less (unfold forget take_out with_charges with_queues with_handles in refl) (unfold with_handles in refl)

pub receive-count : (b : State) (p : ℕ) (q : List Entry) → (receives (accept b) p q).accepted ≡ suc b.accepted
unfolding settled accept take_out with_charges with_queues
receive-count b p [] = refl
receive-count b p (message n m ∷ q) = gives-accepted (take_out (accept b) p (m ∷ []) q) p n m.carried
receive-count b p (destroyed n s ∷ q) = refl
receive-count b p (released n s ∷ q) = refl

pub effect-count : (b : State) (f : List ℕ) (k : Command) → Count b (effect b f k)
unfolding effect
effect-count b f (Open p u) = one_more (unfold opens with_user with_status accept in refl)
effect-count b f (Disconnect p) =
    one_more (unfold with_seed disconnects notify_all push_all with_queues with_status with_handles take_out with_charges destroy_all with_lives withdraw accept in refl)
effect-count b f (Create p i) = one_more (unfold creates with_handles with_lives accept in refl)
effect-count b f (Destroy p i) = one_more (unfold destroys destroy_all push_all with_queues with_lives withdraw accept in refl)
effect-count b f (Release p i) = one_more (release-count b p.0 (slot b p.0 i.0) (b.handle p.0 (slot b p.0 i.0)))
effect-count b f (Transfer p i q) = one_more (unfold accept in give-accepted (accept b) q.0 (suc b.accepted) (slot b p.0 i.0))
effect-count b f (Send p z) =
    one_more (pick_all (λ y. y.accepted ≡ suc b.accepted) (eqb z.nd 0)
    (with_seed (deliver (accept b) (b.user p.0) (map (slot b p.0) (destinations f z)) (map (slot b p.0) (attached f z)) (payload_of f)) p.0 (kept (payload_of f) (map (slot b p.0) (attached f z)))) (deliver (accept b) (b.user p.0) (map (slot b p.0) (destinations f z)) (map (slot b p.0) (attached f z)) (payload_of f))
    (unfold with_seed deliver with_charges push_all with_queues accept in refl) (unfold deliver with_charges push_all with_queues accept in refl))
effect-count b f (Receive p room) = one_more (receive-count b p.0 (b.queue p.0))
effect-count b f (Quota p u) = nothing refl
effect-count b f (Holders p i) = nothing refl
effect-count b f (ShowSeed p room) = one_more (unfold accept in gives-accepted (accept b) p.0 (suc b.accepted) (seed_carries (b.seed p.0)))
