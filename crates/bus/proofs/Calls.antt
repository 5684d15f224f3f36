-- Runs of calls of the code: of each call nothing is known but what the function's own contract ensures, and the buffers go from call to call. Such a run is a run of the
-- definitions (Ran), so everything that holds of those holds of the calls: each number and each answer buffer is the model's, byte for byte.
-- Assumes nothing.
use mathlib.Core.Path.{◌≡◌, refl, sym, ap, ap₂, ◌∙◌}
use mathlib.Core.Bool.{Bool, true}
use mathlib.Core.List.{List, [], ◌∷◌, ◌++◌, map, append_assoc, append-nil}
use denote.Bor.{Bor}
use denote.Ref.{MutBor, at_last}
use contract.Lifetimes
use borrow.Fn.World
use borrow.Fn.Kinds as Kinds'
use denote.Triple.Clauses
use Rattle.laws.specs.Tests.{pick}
use Rattle.model.specs.Step.{Call}
use Rattle.view.specs.View.{Bus, bus_of}
use Rattle.bus_model.specs.Command.{sized_ok, Done, done_of, command_of, fresh_of, fresh_number, fresh_bus}
use Rattle.bus_model.specs.Ran.{Exchange, Ran, exchange_of}
use Rattle.bus_model.specs.Ran.Ran.{begins, goes}
use Rattle.bus.specs.contracts.command as command
use Rattle.bus.proofs.command.Kinds as command-kinds
use Rattle.bus.proofs.command.Reads as command-reads
use Rattle.bus.specs.contracts.fresh as fresh
use Rattle.bus.proofs.fresh.Kinds as fresh-kinds
use Rattle.bus.proofs.fresh.Reads as fresh-reads

-- A call of `command`: its arguments, its result, and the buffers when it returns.
module _ (κs : Lifetimes.Lfts 12) where
  abbrev pub Arguments : Type 0
  Arguments = World.ArgsD command.signature κs

  abbrev pub Returned : Type 0
  Returned = World.ResD command.signature κs

  abbrev pub Left : Type 0
  Left = Clauses.AtExit (Kinds'.ended_of 12 command-kinds.ps command-kinds.r) κs

  abbrev pub bus_in : Arguments → Bus
  bus_in a = bus_of a.0.now a.1.0.now a.1.1.0.now a.1.1.1.0.now a.1.1.1.1.0.now a.1.1.1.1.1.0.now a.1.1.1.1.1.1.0.now a.1.1.1.1.1.1.1.0.now a.1.1.1.1.1.1.1.1.0.now a.1.1.1.1.1.1.1.1.1.0.now

  abbrev pub bus_out : Left → Bus
  bus_out s = bus_of s.0.now s.1.0.now s.1.1.0.now s.1.1.1.0.now s.1.1.1.1.0.now s.1.1.1.1.1.0.now s.1.1.1.1.1.1.0.now s.1.1.1.1.1.1.1.0.now s.1.1.1.1.1.1.1.1.0.now s.1.1.1.1.1.1.1.1.1.0.now

  abbrev pub call_in : Arguments → Call
  call_in a = record { frame = a.1.1.1.1.1.1.1.1.1.1.0.now; buffer = a.1.1.1.1.1.1.1.1.1.1.1.0.now }

  abbrev pub exchanged : Arguments → Returned → Left → Exchange
  exchanged a r s = record { before = bus_in a; call = call_in a; outcome = r; after = s.1.1.1.1.1.1.1.1.1.1.1.0.now }

  -- What the contract of `command` says of it.
  pub said : (a : Arguments) (r : Returned) (s : Left) → command-reads.Learnt κs a r s →
      done_of r (bus_out s) s.1.1.1.1.1.1.1.1.1.1.1.0.now ≡ command_of (bus_in a) (call_in a).frame (call_in a).buffer
  said a r s l = l

  -- It asks for nothing.
  pub free : (a : Arguments) → command-reads.Asked κs a
  free a = tt

-- A call of `fresh`, over buffers of any contents.
module _ (κs : Lifetimes.Lfts 10) where
  abbrev pub FreshArguments : Type 0
  FreshArguments = World.ArgsD fresh.signature κs

  abbrev pub FreshReturned : Type 0
  FreshReturned = World.ResD fresh.signature κs

  abbrev pub FreshLeft : Type 0
  FreshLeft = Clauses.AtExit (Kinds'.ended_of 10 fresh-kinds.ps fresh-kinds.r) κs

  abbrev pub old_in : FreshArguments → Bus
  old_in a = bus_of a.0.now a.1.0.now a.1.1.0.now a.1.1.1.0.now a.1.1.1.1.0.now a.1.1.1.1.1.0.now a.1.1.1.1.1.1.0.now a.1.1.1.1.1.1.1.0.now a.1.1.1.1.1.1.1.1.0.now a.1.1.1.1.1.1.1.1.1.0.now

  abbrev pub made_out : FreshLeft → Bus
  made_out s = bus_of s.0.now s.1.0.now s.1.1.0.now s.1.1.1.0.now s.1.1.1.1.0.now s.1.1.1.1.1.0.now s.1.1.1.1.1.1.0.now s.1.1.1.1.1.1.1.0.now s.1.1.1.1.1.1.1.1.0.now s.1.1.1.1.1.1.1.1.1.0.now

  -- What the contract of `fresh` says of it.
  pub made-said : (a : FreshArguments) (r : FreshReturned) (s : FreshLeft) → fresh-reads.Learnt κs a r s → (r ≡ fresh_number (old_in a)) × (made_out s ≡ fresh_of (old_in a))
  made-said a r s l = l

  pub made-free : (a : FreshArguments) → fresh-reads.Asked κs a
  made-free a = tt

-- A run: a fresh bus in buffers of exact length, then calls of `command`, each with the bus buffers as the one before left them, any frame and any answer buffer.
pub data Calls : List Exchange → Bus → Type 0 where
  made : (κs : Lifetimes.Lfts 10) (a : FreshArguments κs) (r : FreshReturned κs) (s : FreshLeft κs) → sized_ok (old_in κs a) ≡ true → fresh-reads.Learnt κs a r s →
      Calls [] (made_out κs s)
  call : {xs : List Exchange} {b : Bus} (κs : Lifetimes.Lfts 12) (a : Arguments κs) (r : Returned κs) (s : Left κs) → Calls xs b → bus_in κs a ≡ b →
      command-reads.Learnt κs a r s → Calls (xs ++ (exchanged κs a r s ∷ [])) (bus_out κs s)

-- What a call leaves is what the definition says.
pub left_is : (κs : Lifetimes.Lfts 12) (a : Arguments κs) (r : Returned κs) (s : Left κs) (b : Bus) → bus_in κs a ≡ b → command-reads.Learnt κs a r s →
    (exchanged κs a r s ≡ exchange_of b (call_in κs a)) × (bus_out κs s ≡ (command_of b (call_in κs a).frame (call_in κs a).buffer).bus)
left_is κs a r s b e l =
    let d : done_of r (bus_out κs s) s.1.1.1.1.1.1.1.1.1.1.1.0.now ≡ command_of b (call_in κs a).frame (call_in κs a).buffer = said κs a r s l ∙ ap (λ (x : Bus). command_of x (call_in κs a).frame (call_in κs a).buffer) e in
    (ap₂ (λ (x : Bus) (y : Done). record { before = x; call = call_in κs a; outcome = y.outcome; after = y.out }) e d, ap (λ (y : Done). y.bus) d)

pub calls-ran : {xs : List Exchange} {b : Bus} → Calls xs b → Ran xs b
unfolding fresh_of
calls-ran (made κs a r s z l) = let e : made_out κs s ≡ fresh_bus = (made-said κs a r s l).1 ∙ ap (λ (t : Bool). pick t fresh_bus (old_in κs a)) z in rw e begins
calls-ran (call {xs = xs} {b = b} κs a r s t e l) =
    let x = left_is κs a r s b e l in
    rw (x.0, x.1) (goes (call_in κs a) (calls-ran t))

-- Such calls exist: of `fresh` over any buffers of exact length, and of `command` with any frame and any answer buffer on the bus that a run left. The arguments x of some call and
-- what it left, y, say only where the references lie.
pub made-exists : (κs : Lifetimes.Lfts 10) (x : FreshArguments κs) (y : FreshLeft κs) (old : Bus) → sized_ok old ≡ true → Calls [] (fresh_of old)
made-exists κs x y old z = made κs (at_last x.0 old.peers, (at_last x.1.0 old.nodes, (at_last x.1.1.0 old.handles, (at_last x.1.1.1.0 old.charges, (at_last x.1.1.1.1.0 old.rings.ends, (at_last x.1.1.1.1.1.0 old.rings.rows.entries, (at_last x.1.1.1.1.1.1.0 old.rings.rows.carried, (at_last x.1.1.1.1.1.1.1.0 old.rings.rows.numbers, (at_last x.1.1.1.1.1.1.1.1.0 old.pool, (at_last x.1.1.1.1.1.1.1.1.1.0 old.seeds, tt)))))))))) (fresh_number old) (at_last y.0 (fresh_of old).peers, (at_last y.1.0 (fresh_of old).nodes, (at_last y.1.1.0 (fresh_of old).handles, (at_last y.1.1.1.0 (fresh_of old).charges, (at_last y.1.1.1.1.0 (fresh_of old).rings.ends, (at_last y.1.1.1.1.1.0 (fresh_of old).rings.rows.entries, (at_last y.1.1.1.1.1.1.0 (fresh_of old).rings.rows.carried, (at_last y.1.1.1.1.1.1.1.0 (fresh_of old).rings.rows.numbers, (at_last y.1.1.1.1.1.1.1.1.0 (fresh_of old).pool, (at_last y.1.1.1.1.1.1.1.1.1.0 (fresh_of old).seeds, tt)))))))))) z (refl, refl)

pub call-exists : {xs : List Exchange} {b : Bus} (κs : Lifetimes.Lfts 12) (x : Arguments κs) (y : Left κs) → Calls xs b → (c : Call) →
    Calls (xs ++ (exchange_of b c ∷ [])) (command_of b c.frame c.buffer).bus
call-exists {b = b} κs x y t c =
    let d = command_of b c.frame c.buffer in
    call κs (at_last x.0 b.peers, (at_last x.1.0 b.nodes, (at_last x.1.1.0 b.handles, (at_last x.1.1.1.0 b.charges, (at_last x.1.1.1.1.0 b.rings.ends, (at_last x.1.1.1.1.1.0 b.rings.rows.entries, (at_last x.1.1.1.1.1.1.0 b.rings.rows.carried, (at_last x.1.1.1.1.1.1.1.0 b.rings.rows.numbers, (at_last x.1.1.1.1.1.1.1.1.0 b.pool, (at_last x.1.1.1.1.1.1.1.1.1.0 b.seeds, (record { ref_ptr = x.1.1.1.1.1.1.1.1.1.1.0.ref_ptr; now = c.frame }, (at_last x.1.1.1.1.1.1.1.1.1.1.1.0 c.buffer, tt)))))))))))) d.outcome
    (at_last y.0 d.bus.peers, (at_last y.1.0 d.bus.nodes, (at_last y.1.1.0 d.bus.handles, (at_last y.1.1.1.0 d.bus.charges, (at_last y.1.1.1.1.0 d.bus.rings.ends, (at_last y.1.1.1.1.1.0 d.bus.rings.rows.entries, (at_last y.1.1.1.1.1.1.0 d.bus.rings.rows.carried, (at_last y.1.1.1.1.1.1.1.0 d.bus.rings.rows.numbers, (at_last y.1.1.1.1.1.1.1.1.0 d.bus.pool, (at_last y.1.1.1.1.1.1.1.1.1.0 d.bus.seeds, (y.1.1.1.1.1.1.1.1.1.1.0, (at_last y.1.1.1.1.1.1.1.1.1.1.1.0 d.out, tt)))))))))))) t refl refl

-- There is such a run for every list of calls and any old contents of exact length, with no condition. A reference is where it lies, a name, and its value; no contract says
-- anything of the first two.
lent : {X : Type 0} → X → MutBor X
lent v = record { ref_ptr = (0, 0); ghost_name = 0; now = v }

shown : {X : Type 0} → X → Bor X
shown v = record { ref_ptr = (0, 0); now = v }

ten : Lifetimes.Lfts 10
ten = ([], ([], ([], ([], ([], ([], ([], ([], ([], ([], tt))))))))))

twelve : Lifetimes.Lfts 12
twelve = ([], ([], ten))

lent_bus : Bus → FreshArguments ten
lent_bus b = (lent b.peers, (lent b.nodes, (lent b.handles, (lent b.charges, (lent b.rings.ends, (lent b.rings.rows.entries, (lent b.rings.rows.carried, (lent b.rings.rows.numbers, (lent b.pool, (lent b.seeds, tt))))))))))

left_bus : Bus → FreshLeft ten
left_bus b = (lent b.peers, (lent b.nodes, (lent b.handles, (lent b.charges, (lent b.rings.ends, (lent b.rings.rows.entries, (lent b.rings.rows.carried, (lent b.rings.rows.numbers, (lent b.pool, (lent b.seeds, tt))))))))))

lent_call : Bus → Call → Arguments twelve
lent_call b c = (lent b.peers, (lent b.nodes, (lent b.handles, (lent b.charges, (lent b.rings.ends, (lent b.rings.rows.entries, (lent b.rings.rows.carried, (lent b.rings.rows.numbers, (lent b.pool, (lent b.seeds, (shown c.frame, (lent c.buffer, tt))))))))))))

left_call : Bus → Call → Left twelve
left_call b c = (lent b.peers, (lent b.nodes, (lent b.handles, (lent b.charges, (lent b.rings.ends, (lent b.rings.rows.entries, (lent b.rings.rows.carried, (lent b.rings.rows.numbers, (lent b.pool, (lent b.seeds, (shown c.frame, (lent c.buffer, tt))))))))))))

calls-go-on : {xs : List Exchange} {b : Bus} → Calls xs b → (cs : List Call) → (ys : List Exchange) × (d : Bus) × Calls (xs ++ ys) d × (map (λ x. x.call) ys ≡ cs)
calls-go-on {xs = xs} {b = b} t [] = ([], b, rw (append-nil xs) t, refl)
calls-go-on {xs = xs} {b = b} t (c ∷ cs) =
    let z = calls-go-on {xs = xs ++ (exchange_of b c ∷ [])} (call-exists twelve (lent_call b c) (left_call b c) t c) cs in
    (exchange_of b c ∷ z.0, z.1, rw (sym (append_assoc xs (exchange_of b c ∷ []) z.0)) z.2, ap (◌∷◌ c) z.3)

pub calls-exist : (old : Bus) → sized_ok old ≡ true → (cs : List Call) → (xs : List Exchange) × (b : Bus) × Calls xs b × (map (λ x. x.call) xs ≡ cs)
calls-exist old s cs = calls-go-on (made-exists ten (lent_bus old) (left_bus old) old s) cs
