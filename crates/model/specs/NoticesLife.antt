-- A slot stays with its node while anything names it: a dead slot lives again only by a create, and only where nothing named it.
-- "Reusing a dead node's record while a queued message names it" is an error of others that document 01 lists.
-- Assumes nothing.
use Rattle.std.specs.Prelude.{ℕ, ◌≡◌, Bool, true, List, [], ◌∷◌, eqb}
use Rattle.laws.specs.Tests.{pick_all}
use Rattle.model.specs.State.{is_live, Handle, Handle.none, Handle.some, Entry, Entry.message, Entry.destroyed, Entry.released, State}
use Rattle.model.specs.Tables.{with_status, with_handles, with_given, with_queues, with_charges, with_lives}
use Rattle.model.specs.Changes.{push, push_all, take_out, withdraw, give, give_all, forget, fell, notify, notify_all, destroy_all, valid, settled}
use Rattle.model.specs.Effects.{releases, releases_handle, disconnects, receives}
use Rattle.model.specs.NoticesEnds.{lives-live}

-- What lives afterwards lived before.
abbrev pub Ages : State → State → Type 0
Ages b c = (s : ℕ) → is_live (c.life s) ≡ true → is_live (b.life s) ≡ true

pub ages-give : (b : State) (p as_of s : ℕ) → Ages b (give b p as_of s)
unfolding give withdraw with_queues with_handles with_given
ages-give b p as_of s = pick_all (Ages b) (valid b p as_of s) _ b (λ t e. e) (λ t e. e)

pub ages-give_all : (b : State) (p as_of : ℕ) (ss : List ℕ) → Ages b (give_all b p as_of ss)
ages-give_all b p as_of [] = λ t e. e
ages-give_all b p as_of (s ∷ ss) = λ t e. ages-give b p as_of s t (ages-give_all (give b p as_of s) p as_of ss t e)

pub ages-receive : (b : State) (p : ℕ) (q : List Entry) → Ages b (receives b p q)
unfolding settled take_out with_charges with_queues
ages-receive b p [] = λ t e. e
ages-receive b p (message n m ∷ q) = λ t e. ages-give_all (take_out b p (m ∷ []) q) p n m.carried t e
ages-receive b p (destroyed n s ∷ q) = λ t e. e
ages-receive b p (released n s ∷ q) = λ t e. e

ages-notify : (a b : State) (s : ℕ) → Ages b (notify a b s)
unfolding notify with_queues
ages-notify a b s = pick_all (Ages b) (fell a b s) (push b _ _) b (λ t e. e) (λ t e. e)

pub ages-release : (b : State) (p s : ℕ) (x : Handle) → Ages b (releases_handle b p s x)
unfolding releases forget take_out with_charges with_queues with_handles
ages-release b p s none = λ t e. e
ages-release b p s (some i c) = λ t e. pick_all (Ages b) (eqb c 1) _ _ (λ t e. e) (λ t e. e) t (ages-notify b _ s t e)

pub ages-destroy_all : (b : State) (p : ℕ) (u : ℕ → Bool) → Ages b (destroy_all b p u)
unfolding destroy_all push_all with_queues with_lives withdraw
ages-destroy_all b p u = lives-live b p u b.accepted

pub ages-disconnect : (b : State) (p : ℕ) → Ages b (disconnects b p)
unfolding disconnects notify_all push_all with_status with_handles take_out with_charges with_queues
ages-disconnect b p = ages-destroy_all b p (λ s. is_live (b.life s))
