-- Runs that go on: the bus that a call leaves, more exchanges from a bus on, and a run cut anywhere.
-- Assumes nothing.
use Rattle.std.specs.Prelude.{◌≡◌, refl, List, [], ◌∷◌, ◌++◌}
use Rattle.std.proofs.Common.{sym, ap, append_assoc, append-nil}
use Rattle.model.specs.Step.{Call}
use Rattle.view.specs.View.{Bus}
use Rattle.bus_model.specs.Command.{command_of, fresh_bus}
use Rattle.bus_model.specs.Ran.{Exchange, calls_of, exchange_of, Ran, Ran.begins, Ran.goes}

-- The bus that a call leaves.
abbrev pub bus_after : Bus → Call → Bus
bus_after b c = (command_of b c.frame c.buffer).bus

-- More exchanges from a bus on, each on the bus that the one before left, and the bus that they leave.
pub data GoesOn : Bus → List Exchange → Bus → Type 0 where
  rests : {b : Bus} → GoesOn b [] b
  next : {b d : Bus} {ys : List Exchange} (c : Call) → GoesOn (bus_after b c) ys d → GoesOn b (exchange_of b c ∷ ys) d

-- They make a run longer, and every run is made so, wherever it is cut.
pub ran_on : {xs ys : List Exchange} {b d : Bus} → Ran xs b → GoesOn b ys d → Ran (xs ++ ys) d
ran_on {xs = xs} r rests = rw (append-nil xs) r
ran_on {xs = xs} {b = b} r (next {ys = ys} c g) = rw (sym (append_assoc xs (exchange_of b c ∷ []) ys)) (ran_on {xs = xs ++ (exchange_of b c ∷ [])} (goes c r) g)

one_more : {b d : Bus} {xs : List Exchange} (c : Call) → GoesOn b xs d → GoesOn b (xs ++ (exchange_of d c ∷ [])) (bus_after d c)
one_more c rests = next c rests
one_more c (next a g) = next a (one_more c g)

pub ran-from : {xs : List Exchange} {b : Bus} → Ran xs b → GoesOn fresh_bus xs b
ran-from begins = rests
ran-from (goes c r) = one_more c (ran-from r)

cut : (xs ys : List Exchange) {b d : Bus} → GoesOn b (xs ++ ys) d → (a : Bus) × GoesOn b xs a × GoesOn a ys d
cut [] ys {b = b} g = (b, rests, g)
cut (x ∷ xs) ys (next c g) = let z = cut xs ys g in (z.0, next c z.1, z.2)

pub ran-cut : (xs ys : List Exchange) {d : Bus} → Ran (xs ++ ys) d → (b : Bus) × Ran xs b × GoesOn b ys d
ran-cut xs ys r = let z = cut xs ys (ran-from r) in (z.0, ran_on begins z.1, z.2)

-- Any calls can be made on any bus: there is a run for every list of calls.
pub calls-on : (cs : List Call) (b : Bus) → (ys : List Exchange) × (d : Bus) × GoesOn b ys d × (calls_of ys ≡ cs)
calls-on [] b = ([], b, rests, refl)
calls-on (c ∷ cs) b = let z = calls-on cs (bus_after b c) in (exchange_of b c ∷ z.0, z.1, next c z.2, ap (◌∷◌ c) z.3)

pub calls-run : (cs : List Call) → (xs : List Exchange) × (b : Bus) × Ran xs b × (calls_of xs ≡ cs)
calls-run cs = let z = calls-on cs fresh_bus in (z.0, z.1, ran_on begins z.2, z.3)
