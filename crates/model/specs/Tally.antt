-- "2^40 - 1 commands accepted already; not for questions", "Questions change nothing and are not counted": the state's count of accepted commands is the number of frames that came back
-- with 0 and are no questions.
-- Assumes nothing.
use Rattle.std.specs.Prelude.{ℕ, suc, ◌≡◌, Bool, not, List, [], ◌∷◌, eqb}
use Rattle.std.proofs.Math.Path.{refl}
use Rattle.laws.specs.Tests.{pick, pick_all}
use Rattle.frames.specs.declared.Command.{Command}
use Rattle.frames.specs.declared.Command.TheVariants.{Open, Disconnect, Create, Destroy, Release, Transfer, Send, Receive, Quota, Holders, ShowSeed}
use Rattle.frames.specs.Frame.{opcode}
use Rattle.model.specs.Lists.{both, either}
use Rattle.model.specs.State.{State, slot, seed_carries}
use Rattle.model.specs.Tables.{accept, with_status, with_user, with_handles, with_queues, with_charges, with_lives, with_seed}
use Rattle.model.specs.Changes.{push_all, take_out, withdraw, notify_all, destroy_all, deliver}
use Rattle.model.specs.Effects.{opens, creates, destroys, disconnects, effect}
use Rattle.model.specs.Book.{Fed}
use Rattle.model.specs.Coded.{code}
use Rattle.model.specs.Unchanged.{give-accepted, release-count, receive-count, gives-accepted}

-- A command that came back with 0 and is no question: 09 and 0a are; 0c changes counts and is none.
abbrev pub is_counted : Fed → Bool
is_counted x = both (eqb x.number 0) (not (either (eqb (opcode x.frame) 9) (eqb (opcode x.frame) 10)))

abbrev pub tally : List Fed → ℕ
tally [] = 0
tally (x ∷ xs) = pick (is_counted x) (suc (tally xs)) (tally xs)

abbrev pub asks : ℕ → Bool
asks n = either (eqb n 9) (eqb n 10)

pub counted-effect : (b : State) (f : List ℕ) (k : Command) → (effect b f k).accepted ≡ pick (not (asks (code k))) (suc b.accepted) b.accepted
unfolding effect
counted-effect b f (Open p u) = unfold opens with_user with_status accept in refl
counted-effect b f (Disconnect p) = unfold with_seed disconnects notify_all push_all with_queues with_status with_handles take_out with_charges destroy_all with_lives withdraw accept in refl
counted-effect b f (Create p i) = unfold creates with_handles with_lives accept in refl
counted-effect b f (Destroy p i) = unfold destroys destroy_all push_all with_queues with_lives withdraw accept in refl
counted-effect b f (Release p i) = release-count b p.0 (slot b p.0 i.0) (b.handle p.0 (slot b p.0 i.0))
counted-effect b f (Transfer p i q) = unfold accept in give-accepted (accept b) q.0 (suc b.accepted) (slot b p.0 i.0)
counted-effect b f (Send p z) =
    pick_all (λ (y : State). y.accepted ≡ suc b.accepted) (eqb z.nd 0) _ _ (unfold with_seed deliver with_charges push_all with_queues accept in refl)
    (unfold deliver with_charges push_all with_queues accept in refl)
counted-effect b f (Receive p room) = receive-count b p.0 (b.queue p.0)
counted-effect b f (Quota p u) = refl
counted-effect b f (Holders p i) = refl
counted-effect b f (ShowSeed p room) = unfold accept in gives-accepted (accept b) p.0 (suc b.accepted) (seed_carries (b.seed p.0))
