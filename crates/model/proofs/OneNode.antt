-- The theorems that go with specs/OneNode.antt and stand on others: each goes by the definitions and the theorems there.
-- Assumes nothing.
use Rattle.std.specs.Prelude.{ℕ, suc, ◌+◌, ◌*◌, ◌%◌, ◌≤◌, ◌≡◌, refl, ◌⊎◌, List, [], ◌∷◌, ◌++◌, length, eqb}
use Rattle.std.proofs.Common.{sym, ap, ◌∙◌, append_assoc, append-nil}
use Rattle.std.proofs.Math.Logic.◌⊎◌.{inl, inr}
use native.Mathlib.Omega.{arith}
use Rattle.laws.specs.Tests.{pick_all, Seen, Seen.is_true, Seen.is_false, look, Same, Same.same, Same.other, same?}
use Rattle.laws.specs.Tables.{upd_same, upd_other, upd-rel}
use Rattle.laws.specs.Weights.{All}
use Rattle.frames.specs.declared.Command.{Command}
use Rattle.frames.specs.declared.Command.TheVariants.{Open, Disconnect, Create, Destroy, Release, Transfer, Send, Receive, Quota, Holders, ShowSeed}
use Rattle.frames.proofs.Fields.{fields-command}
use Rattle.model.specs.Numbers.{next_id}
use Rattle.model.specs.State.{count, id_or, Entry, Entry.message, Entry.destroyed, Entry.released, State, slot, seed_carries}
use Rattle.model.specs.Tables.{accept, with_status, with_user, with_given, with_handles, with_queues, with_charges, with_lives, with_seed}
use Rattle.model.specs.Changes.{push_all, take_out, withdraw, valid, shown, given_after, give, give_all, settled, deliver}
use Rattle.model.specs.Effects.{opens, creates, receives, effect}
use Rattle.model.specs.Step.{Call, step, run, answer_of}
use Rattle.model.specs.Book.{Node, Noted.noted, Book, note_create, note}
use Rattle.model.specs.Claim.{fed, history_from, book_after}
use Rattle.model.specs.Accepted.{Accepted, Came, Came.left, Came.done}
use Rattle.model.proofs.Accepted.{came, accepted-call}
use Rattle.model.proofs.Tested.{tested}
use Rattle.model.specs.Coded.{coded}
use Rattle.model.specs.Sim.{called, Sim}
use Rattle.model.specs.SimStep.{renamed}
use Rattle.model.proofs.SimStep.{sim-command}
use Rattle.model.proofs.SimRun.{ready, shows}
use Rattle.model.specs.Sources.{book-next, run-next, book-left, book-noted}
use Rattle.model.proofs.Sources.{story}
use Rattle.model.specs.OneNode.{Creates, OneNode, GivenOneNode, Old, From, Grown, grown-same, from-set, given-le, given-old, grown-release, grown-disconnect, grown-destroy, Named, noted-node}

grown-give : (b a : State) (p k s : ℕ) → Grown b a → Grown b (give a p k s)
unfolding give shown withdraw with_given with_handles with_queues
grown-give b a p k s g = go (look (valid a p k s))
  where
    go : Seen (valid a p k s) → Grown b (give a p k s)
    go (is_false e) = rw e g
    go (is_true e) =
        rw e
        (upd-rel (λ q h n. From b q h n) a.handle a.given p _ _ g
        (from-set b p (a.handle p) (a.given p) (given_after (a.handle p s) (a.given p)) s (id_or (next_id (a.given p)) (a.handle p s)) (suc (count (a.handle p s))) (g p)
        (given-le (a.handle p s) (a.given p)) (given-old b p s (a.handle p) (a.given p) (g p))))

grown-gives : (b a : State) (p k : ℕ) (ss : List ℕ) → Grown b a → Grown b (give_all a p k ss)
grown-gives b a p k [] g = g
grown-gives b a p k (s ∷ ss) g = grown-gives b (give a p k s) p k ss (grown-give b a p k s g)

grown-receive : (b a : State) (p : ℕ) (q : List Entry) → Grown b a → Grown b (receives a p q)
unfolding settled take_out with_charges with_queues
grown-receive b a p [] g = g
grown-receive b a p (message n m ∷ q) g = grown-gives b (take_out a p (m ∷ []) q) p n m.carried g
grown-receive b a p (destroyed n s ∷ q) g = g
grown-receive b a p (released n s ∷ q) g = g

-- What an ID names after a command, it named before, or the bus had not given it, or it is created by this command.
abbrev Makes : ℕ → ℕ → Command → Type 0
Makes p i (Create q j) = (q.0 ≡ p) × (j.0 ≡ i)
Makes p i (Open q u) = ⊥
Makes p i (Disconnect q) = ⊥
Makes p i (Destroy q j) = ⊥
Makes p i (Release q j) = ⊥
Makes p i (Transfer q j t) = ⊥
Makes p i (Send q z) = ⊥
Makes p i (Receive q room) = ⊥
Makes p i (Quota q u) = ⊥
Makes p i (Holders q j) = ⊥
Makes p i (ShowSeed q room) = ⊥

named_by : {N : ℕ} (name : ℕ → ℕ) (b a : State) (k k' : Book) → Sim N name b k → Sim N name a k' → Grown b a → (p i : ℕ) (m : Node) (d : ℕ) → k'.handle p i ≡ noted m d → Named b k p i m
named_by name b a k k' s t g p i m d e = let x = (t.handles p).held_at i m d e in go x.0 x.3 ((g p).1 x.0 i d x.2)
  where
    go : (u : ℕ) → m ≡ called name u → Old b p u i → Named b k p i m
    go u f (inl y) = inl (y.0, (s.handles p).noted-at u i y.0 y.1 ∙ ap (λ (n : Node). noted n y.0) (sym f))
    go u f (inr y) = inr y

named-create : (b : State) (k : Book) (q j p i : ℕ) (m : Node) (d : ℕ) → (note_create k q j).handle p i ≡ noted m d → Named b k p i m ⊎ ((q ≡ p) × (j ≡ i))
unfolding note_create
named-create b k q j p i m d e = go (same? q p) (same? j i)
  where
    go : Same q p → Same j i → Named b k p i m ⊎ ((q ≡ p) × (j ≡ i))
    go (same x) (same y) = inr (x, y)
    go (other x) y = inl (inl (d, rw (upd_other k.handle q p _ x) at e))
    go (same x) (other y) = inl (inl (d, ap (λ (r : ℕ). k.handle r i) (sym x) ∙ rw (← x, upd_same, upd_other (k.handle q) j i _ y) at e))

-- Every command but create.
grown-effect : (b : State) (f : List ℕ) (k : Command) → ((p i : ℕ) → Makes p i k → ⊥) → Grown b (effect b f k)
unfolding effect accept
grown-effect b f (Open p u) n = unfold opens with_status with_user in grown-same b
grown-effect b f (Disconnect p) n = unfold with_seed in grown-disconnect b (accept b) p.0 (grown-same b)
grown-effect b f (Create p i) n = absurd (n p.0 i.0 (refl, refl))
grown-effect b f (Destroy p i) n = grown-destroy b (accept b) p.0 (slot b p.0 i.0) (grown-same b)
grown-effect b f (Release p i) n = grown-release b (accept b) p.0 (slot b p.0 i.0) (b.handle p.0 (slot b p.0 i.0)) refl (grown-same b)
grown-effect b f (Transfer p i q) n = grown-give b (accept b) q.0 (suc b.accepted) (slot b p.0 i.0) (grown-same b)
grown-effect b f (Send p z) n =
    pick_all (Grown b) (eqb z.nd 0) _ _ (unfold with_seed deliver push_all with_charges with_queues in grown-same b) (unfold deliver push_all with_charges with_queues in grown-same b)
grown-effect b f (Receive p room) n = grown-receive b (accept b) p.0 (b.queue p.0) (grown-same b)
grown-effect b f (Quota p u) n = grown-same b
grown-effect b f (Holders p i) n = grown-same b
grown-effect b f (ShowSeed p room) n = grown-gives b (accept b) p.0 (suc b.accepted) (seed_carries (b.seed p.0)) (grown-same b)

given-effect : (b : State) (f : List ℕ) (k : Command) (q : ℕ) → b.given q ≤ (effect b f k).given q
unfolding effect accept
given-effect b f (Open p u) q = (grown-effect b f (Open p u) (λ p i z. z) q).0
given-effect b f (Disconnect p) q = (grown-effect b f (Disconnect p) (λ p i z. z) q).0
given-effect b f (Create p i) q = unfold creates with_handles with_lives in omega arith
given-effect b f (Destroy p i) q = (grown-effect b f (Destroy p i) (λ p i z. z) q).0
given-effect b f (Release p i) q = (grown-effect b f (Release p i) (λ p i z. z) q).0
given-effect b f (Transfer p i t) q = (grown-effect b f (Transfer p i t) (λ p i z. z) q).0
given-effect b f (Send p z) q = (grown-effect b f (Send p z) (λ p i z. z) q).0
given-effect b f (Receive p room) q = (grown-effect b f (Receive p room) (λ p i z. z) q).0
given-effect b f (Quota p u) q = omega arith
given-effect b f (Holders p i) q = omega arith
given-effect b f (ShowSeed p room) q = (grown-effect b f (ShowSeed p room) (λ p i z. z) q).0

-- One call.
module _ (cs : List Call) (c : Call) (p i : ℕ) where
  abbrev k : Book
  k = book_after cs

  abbrev told : List ℕ
  told = answer_of (step (run cs) c)

  same_names : (d : Command) → Accepted (run cs) c d → ((name : ℕ → ℕ) → renamed name (run cs) k d ≡ name) → ((p i : ℕ) → Makes p i d → ⊥) → (m : Node) (e : ℕ) →
      (note k c.frame told d).handle p i ≡ noted m e → Named (run cs) k p i m
  same_names d a keeps n m e h =
      let w = story (suc (length cs)) cs (omega arith) in
      let r = ready cs w.ids in
      let t = tested (run cs) c.frame d a.unrefused in
      let s = sim-command w.name (run cs) c.frame d k told w.sim r a.legal t (shows (run cs) c d a r) (omega (arith, w.entered)) in
      named_by w.name (run cs) (effect (run cs) c.frame d) k (note k c.frame told d) w.sim (rw (keeps w.name) at s) (grown-effect (run cs) c.frame d n) p i m e h

  named-command : (d : Command) → Accepted (run cs) c d → (m : Node) (e : ℕ) → (note k c.frame told d).handle p i ≡ noted m e → Named (run cs) k p i m ⊎ Makes p i d
  named-command (Open q u) a m e h = inl (same_names (Open q u) a (λ n. refl) (λ p i z. z) m e h)
  named-command (Disconnect q) a m e h = inl (same_names (Disconnect q) a (λ n. refl) (λ p i z. z) m e h)
  named-command (Create q j) a m e h = named-create (run cs) k q.0 j.0 p i m e (unfold note in h)
  named-command (Destroy q j) a m e h = inl (same_names (Destroy q j) a (λ n. refl) (λ p i z. z) m e h)
  named-command (Release q j) a m e h = inl (same_names (Release q j) a (λ n. refl) (λ p i z. z) m e h)
  named-command (Transfer q j t) a m e h = inl (same_names (Transfer q j t) a (λ n. refl) (λ p i z. z) m e h)
  named-command (Send q z) a m e h = inl (same_names (Send q z) a (λ n. refl) (λ p i z. z) m e h)
  named-command (Receive q room) a m e h = inl (same_names (Receive q room) a (λ n. refl) (λ p i z. z) m e h)
  named-command (Quota q u) a m e h = inl (same_names (Quota q u) a (λ n. refl) (λ p i z. z) m e h)
  named-command (Holders q j) a m e h = inl (same_names (Holders q j) a (λ n. refl) (λ p i z. z) m e h)
  named-command (ShowSeed q room) a m e h = inl (same_names (ShowSeed q room) a (λ n. refl) (λ p i z. z) m e h)

  makes-creates : (d : Command) → Accepted (run cs) c d → Makes p i d → Creates p i (fed c (step (run cs) c))
  makes-creates (Create q j) a z =
      let f = fields-command c.frame (Create q j) a.read in
      record { number = a.number; byte = f.0.command; peer = sym f.0.peer ∙ z.0; id = sym (ap (λ (x : Rattle.ids.specs.declared.HandleId.HandleId). x.0) f.1) ∙ z.1 }
  makes-creates (Open q u) a z = absurd z
  makes-creates (Disconnect q) a z = absurd z
  makes-creates (Destroy q j) a z = absurd z
  makes-creates (Release q j) a z = absurd z
  makes-creates (Transfer q j t) a z = absurd z
  makes-creates (Send q y) a z = absurd z
  makes-creates (Receive q room) a z = absurd z
  makes-creates (Quota q u) a z = absurd z
  makes-creates (Holders q j) a z = absurd z
  makes-creates (ShowSeed q room) a z = absurd z

  pub named-call : (Creates p i (fed c (step (run cs) c)) → ⊥) → (m : Node) (e : ℕ) → (book_after (cs ++ (c ∷ []))).handle p i ≡ noted m e → Named (run cs) k p i m
  named-call uncreated m e h = go (came (run cs) c)
    where
      go : Came (run cs) c → Named (run cs) k p i m
      go (left z n) = inl (e, rw (book-next cs c ∙ book-left k (fed c (step (run cs) c)) n) at h)
      go (done d a) = on (named-command d a m e (rw (book-noted cs c d a) at h))
        where
          on : Named (run cs) k p i m ⊎ Makes p i d → Named (run cs) k p i m
          on (inl x) = x
          on (inr x) = absurd (uncreated (makes-creates d a x))

  given-call : (run cs).given p ≤ (run (cs ++ (c ∷ []))).given p
  given-call = rw (run-next cs c) (go (came (run cs) c))
    where
      go : Came (run cs) c → (run cs).given p ≤ (step (run cs) c).state.given p
      go (left z n) = rw z (omega arith)
      go (done d a) = rw a.after (given-effect (run cs) c.frame d p)

-- An ID i of p that named the node n: whatever it names, it names n; and if the bus gives such IDs, it gives it no more.
record Stays (cs : List Call) (p i : ℕ) (n : Node) : Type 0 where
  spent : (j : ℕ) → i ≡ 4 * j + 3 → j ≤ (run cs).given p
  node : (m : Node) (d : ℕ) → (book_after cs).handle p i ≡ noted m d → n ≡ m

stays-now : (cs : List Call) (p i : ℕ) (n : Node) (c : ℕ) → (book_after cs).handle p i ≡ noted n c → Stays cs p i n
stays-now cs p i n c e =
    let w = story (suc (length cs)) cs (omega arith) in
    let x = (w.sim.handles p).held_at i n c e in
    record { spent = (w.ids p x.0 i c x.2).0; node = λ m d f. noted-node n m c d (sym e ∙ f) }

stays-next : (cs : List Call) (c : Call) (p i : ℕ) (n : Node) → (Creates p i (fed c (step (run cs) c)) → ⊥) → Stays cs p i n → Stays (cs ++ (c ∷ [])) p i n
stays-next cs c p i n uncreated s =
    record { spent = λ j e. omega (arith, s.spent j e, given-call cs c p i); node = λ m d e. go m (named-call cs c p i uncreated m d e) }
  where
    go : (m : Node) → Named (run cs) (book_after cs) p i m → n ≡ m
    go m (inl x) = s.node m x.0 x.1
    go m (inr x) = absurd (omega (arith, x.2, s.spent x.0 x.1))

stays-run : (cs ds : List Call) (p i : ℕ) (n : Node) → All (λ x. Creates p i x → ⊥) (history_from (run cs) ds) → Stays cs p i n → Stays (cs ++ ds) p i n
unfolding history_from
stays-run cs [] p i n a s = rw (append-nil cs) s
stays-run cs (c ∷ ds) p i n a s =
    let e = append_assoc cs (c ∷ []) ds in
    let r = run-next cs c in
    rw e at
    (stays-run (cs ++ (c ∷ [])) ds p i n (rw r a.1) (stays-next cs c p i n a.0 s))

pub one-node : OneNode
one-node before after p i n m c d e f uncreated = (stays-run before after p i n uncreated (stays-now before p i n c e)).node m d f

-- No create is accepted under an ID that the bus gives.
given-never : (p i : ℕ) → i % 4 ≡ 3 → (b : State) (c : Call) → Creates p i (fed c (step b c)) → ⊥
given-never p i e b c x = let y = accepted-call b c x.number in go y.0 y.1
  where
    go : (k : Command) → Accepted b c k → ⊥
    go (Open q u) a = omega (arith, x.byte, (coded c.frame (Open q u) a.read).byte)
    go (Disconnect q) a = omega (arith, x.byte, (coded c.frame (Disconnect q) a.read).byte)
    go (Create q j) a =
        let f = fields-command c.frame (Create q j) a.read in
        let z : j.0 ≡ i = ap (λ (x : Rattle.ids.specs.declared.HandleId.HandleId). x.0) f.1 ∙ x.id in
        omega (arith, e, z, a.legal.1)
    go (Destroy q j) a = omega (arith, x.byte, (coded c.frame (Destroy q j) a.read).byte)
    go (Release q j) a = omega (arith, x.byte, (coded c.frame (Release q j) a.read).byte)
    go (Transfer q j t) a = omega (arith, x.byte, (coded c.frame (Transfer q j t) a.read).byte)
    go (Send q z) a = omega (arith, x.byte, (coded c.frame (Send q z) a.read).byte)
    go (Receive q room) a = omega (arith, x.byte, (coded c.frame (Receive q room) a.read).byte)
    go (Quota q u) a = omega (arith, x.byte, (coded c.frame (Quota q u) a.read).byte)
    go (Holders q j) a = omega (arith, x.byte, (coded c.frame (Holders q j) a.read).byte)
    go (ShowSeed q room) a = omega (arith, x.byte, (coded c.frame (ShowSeed q room) a.read).byte)

never-created : (p i : ℕ) → i % 4 ≡ 3 → (b : State) (cs : List Call) → All (λ x. Creates p i x → ⊥) (history_from b cs)
unfolding history_from
never-created p i e b [] = tt
never-created p i e b (c ∷ cs) = (given-never p i e b c, never-created p i e (step b c).state cs)

pub given-one-node : GivenOneNode
given-one-node before after p i n m c d g e f = one-node before after p i n m c d e f (never-created p i g (run before) after)
