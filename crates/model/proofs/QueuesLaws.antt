-- The theorems that go with specs/QueuesLaws.antt and stand on others: each goes by the definitions and the theorems there.
-- Assumes nothing.
use Rattle.std.specs.Prelude.{ℕ, ◌≡◌, Bool, true, List, [], ◌++◌, ltb}
use Rattle.std.proofs.Common.{sym, ap, ◌∙◌}
use Rattle.std.proofs.Math.Bool.{false, not}
use Rattle.laws.specs.Tests.{pick_all, Seen, Seen.is_true, Seen.is_false, look, clash}
use Rattle.laws.specs.Tables.{upd, upd-all}
use Rattle.laws.specs.Weights.{keep, All}
use Rattle.model.specs.Numbers.{peers}
use Rattle.model.specs.State.{Message, Entry, Entry.message, Entry.destroyed, Entry.released, State}
use Rattle.model.specs.Tables.{with_queues, with_charges}
use Rattle.model.specs.Changes.{push, push_all, at_peers, take_out, not_released, withdraw}
use Rattle.model.specs.Queues.{Later}
use Rattle.model.specs.QueuesLaws.{later_refl, later-append, later-keep, Each}

module _ (gone : ℕ → Entry → Type 0) (new : Entry → Type 0) (x : State) where
  pub each_set : (p : ℕ) (r : List Entry) → Later (gone p) new (x.queue p) r → (q : ℕ) → Later (gone q) new (x.queue q) (upd x.queue p r q)
  each_set p r h = upd-all (λ q r. Later (gone q) new (x.queue q) r) x.queue p r (λ q. later_refl (x.queue q)) h

  pub each-push : (p : ℕ) (xs : List Entry) → All new xs → Each gone new x (push x p xs)
  unfolding with_queues
  each-push p xs a = each_set p (x.queue p ++ xs) (later-append (x.queue p) xs a)

  pub each-push_all : (f : ℕ → List Entry) → ((q : ℕ) → All new (f q)) → Each gone new x (push_all x f)
  unfolding push_all with_queues
  each-push_all f h q = later-append (x.queue q) (f q) (h q)

  pub each-at_peers : (f : ℕ → List Entry) → ((q : ℕ) → All new (f q)) → Each gone new x (push_all x (at_peers f))
  each-at_peers f h = each-push_all (at_peers f) (λ q. pick_all (All new) (ltb q peers) (f q) [] (h q) tt)

  pub each-take_out : (p : ℕ) (out : List Message) (rest : List Entry) → Later (gone p) new (x.queue p) rest → Each gone new x (take_out x p out rest)
  unfolding take_out with_charges with_queues
  each-take_out p out rest h = each_set p rest h

  pub each-withdraw : (p : ℕ) (t : ℕ → Bool) → ((n s : ℕ) → t s ≡ true → gone p (released n s)) → Each gone new x (withdraw x p t)
  unfolding withdraw with_queues
  each-withdraw p t h = each_set p (keep (not_released t) (x.queue p)) (later-keep (not_released t) go (x.queue p))
    where
      go : (e : Entry) → not_released t e ≡ false → gone p e
      go (message n m) z = clash z
      go (destroyed n s) z = clash z
      go (released n s) z = on (look (t s))
        where
          on : Seen (t s) → gone p (released n s)
          on (is_true y) = h n s y
          on (is_false y) = clash (sym (ap not y) ∙ z)
