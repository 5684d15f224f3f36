-- The effect of each command that is not refused, as a composition of small changes. In `opens` to `receives` b is the state in which the command is counted already; `effect` takes the
-- state before and counts the command (`accept`), unless it is a question.
-- Assumes nothing.
use Rattle.std.specs.Prelude.{ℕ, suc, ◌+◌, ◌-◌, ◌*◌, List, [], ◌∷◌, map, eqb}
use Rattle.laws.specs.Tests.{pick}
use Rattle.laws.specs.Tables.{upd}
use Rattle.frames.specs.declared.Command.{Command}
use Rattle.frames.specs.declared.Command.TheVariants.{Open, Disconnect, Create, Destroy, Release, Transfer, Send, Receive, Quota, Holders, ShowSeed}
use Rattle.frames.specs.Frame.{payload_of}
use Rattle.model.specs.Numbers.{slots}
use Rattle.model.specs.State.{Status.opened, Status.disconnected, Life.live, is_live, Handle, Handle.none, Handle.some, handle_of, Entry, Entry.message, Entry.destroyed, Entry.released, messages_in, Seed.unset, Seed.kept, seed_carries, State, slot, free_place}
use Rattle.model.specs.Requests.{destinations, attached}
use Rattle.model.specs.Tables.{accept, with_status, with_user, with_handles, with_handle, with_seed, with_lives}
use Rattle.model.specs.Changes.{take_out, give, give_all, settled, forget, notify, notify_all, destroy_all, deliver, reseed}

-- "A peer belongs to one user".
unfoldable pub opens : State → ℕ → ℕ → State
opens b p u = with_user (with_status b p opened) p u

-- "Creation gives the owner count 1 (the pinned one)."
unfoldable pub creates : State → ℕ → ℕ → State
creates b p i = let s = p * slots + free_place b p in with_handle (with_lives b (upd b.life s live)) p s (handle_of i 1)

-- Destroy: one node.
unfoldable pub destroys : State → ℕ → ℕ → State
destroys b p s = destroy_all b p (eqb s)

-- Release: the count falls by 1; at 0 the handle is gone.
unfoldable pub releases : State → ℕ → ℕ → ℕ → ℕ → State
releases b p s i c =
    let less = with_handle b p s (handle_of i (c - 1)) in
    notify b (pick (eqb c 1) (forget less p s) less) s

-- No run reaches `none`: a release of an ID that the peer does not hold is refused with 6.
abbrev pub releases_handle : State → ℕ → ℕ → Handle → State
releases_handle b p s none = b
releases_handle b p s (some i c) = releases b p s i c

-- "Disconnect: drop the queue, destroy live nodes, release all handles." The notices at the peer itself go with its handles, so its queue is emptied when its nodes are destroyed.
unfoldable pub disconnects : State → ℕ → State
disconnects b p =
    let died = destroy_all b p (λ s. is_live (b.life s)) in
    let emptied = take_out died p (messages_in (b.queue p)) [] in
    notify_all b (with_status (with_handles emptied p (λ s. none)) p disconnected)

-- Receive: the first entry is taken out; of a message each attached handle is given. No run reaches `[]`: a receive with nothing queued is refused with 11.
abbrev pub receives : State → ℕ → List Entry → State
receives b p [] = b
receives b p (message n m ∷ q) = settled (give_all (take_out b p (m ∷ []) q) p n m.carried) p
receives b p (destroyed n s ∷ q) = take_out b p [] q
receives b p (released n s ∷ q) = take_out b p [] q

-- "disconnect drops the seed". "Questions change nothing and are not counted."
unfoldable pub effect : State → List ℕ → Command → State
effect b f (Open p u) = opens (accept b) p.0 u.0
effect b f (Disconnect p) = with_seed (disconnects (accept b) p.0) p.0 unset
effect b f (Create p i) = creates (accept b) p.0 i.0
effect b f (Destroy p i) = destroys (accept b) p.0 (slot b p.0 i.0)
effect b f (Release p i) = let s = slot b p.0 i.0 in releases_handle (accept b) p.0 s (b.handle p.0 s)
effect b f (Transfer p i q) = give (accept b) q.0 (suc b.accepted) (slot b p.0 i.0)
effect b f (Send p z) =
    let ds = map (slot b p.0) (destinations f z) in
    let hs = map (slot b p.0) (attached f z) in
    reseed (deliver (accept b) (b.user p.0) ds hs (payload_of f)) (eqb z.nd 0) p.0 (kept (payload_of f) hs)
effect b f (Receive p room) = receives (accept b) p.0 (b.queue p.0)
effect b f (Quota p u) = b
effect b f (Holders p i) = b
effect b f (ShowSeed p room) = give_all (accept b) p.0 (suc b.accepted) (seed_carries (b.seed p.0))
