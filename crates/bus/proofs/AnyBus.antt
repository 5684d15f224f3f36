-- What holds of a call on any bus, of a run or not, of which nothing is known but what the function's own contract ensures: when the number is 5, and that a long enough answer
-- buffer's old contents matter to nothing.
-- Assumes nothing.
use Prim.Native.Nat.{ℕ, ◌≤◌}
use mathlib.Core.Path.{◌≡◌, refl, sym, ap, subst, ◌∙◌}
use mathlib.Core.List.{List}
use lib.ListN.{length, take}
use contract.Lifetimes
use Rattle.answers.specs.Answer.{answer_size}
use Rattle.view.specs.View.{Bus}
use Rattle.bus_model.specs.Command.{Done, command_of}
use Rattle.bus_model.specs.Ran.{Exchange, answer_in, exchange_of}
use Rattle.bus_model.specs.Apart.{any-buffer}
use Rattle.bus_model.specs.Ranges.{Lengths, InRange, FiveUnless, fresh-five}
use Rattle.bus_model.proofs.Ranges.{code-five}
use Rattle.bus.proofs.Calls.{Arguments, Returned, Left, bus_in, bus_out, call_in, exchanged, FreshArguments, FreshReturned, FreshLeft, old_in, made-said, left_is}
use Rattle.bus.proofs.command.Reads as command-reads
use Rattle.bus.proofs.fresh.Reads as fresh-reads

-- `command`, with an answer buffer of at least 591 bytes, returns 5 exactly where a buffer lacks its length or a number is beyond its range (docs/BUFFERS.md).
pub five-of-calls : (κs : Lifetimes.Lfts 12) (a : Arguments κs) (r : Returned κs) (s : Left κs) → command-reads.Learnt κs a r s → 591 ≤ length (call_in κs a).buffer →
    FiveUnless (InRange (bus_in κs a)) r.number
five-of-calls κs a r s l h =
    let e : r.number ≡ (exchange_of (bus_in κs a) (call_in κs a)).outcome.number = ap (λ (x : Exchange). x.outcome.number) (left_is κs a r s (bus_in κs a) refl l).0 in
    subst (λ (n : ℕ). FiveUnless (InRange (bus_in κs a)) n) (sym e) (code-five (bus_in κs a) (call_in κs a).frame (call_in κs a).buffer h)

-- `fresh` returns 5 exactly where a buffer lacks its length.
pub fresh-five-of-calls : (κs : Lifetimes.Lfts 10) (a : FreshArguments κs) (r : FreshReturned κs) (s : FreshLeft κs) → fresh-reads.Learnt κs a r s →
    FiveUnless (Lengths (old_in κs a)) r
fresh-five-of-calls κs a r s l = subst (λ (n : ℕ). FiveUnless (Lengths (old_in κs a)) n) (sym (made-said κs a r s l).0) (fresh-five (old_in κs a))

-- Two calls with the same bus and the same frame, each with an answer buffer of at least 591 bytes, come back with the same number and length, leave the same bus, and have
-- written the same answer.
pub record SameAnswer (x y : Exchange) (b d : Bus) : Type 0 where
  pub outcome : x.outcome ≡ y.outcome
  pub bus : b ≡ d
  pub answer : answer_in x ≡ answer_in y

pub any-buffer-of-calls : (κs : Lifetimes.Lfts 12) (a : Arguments κs) (r : Returned κs) (s : Left κs) → command-reads.Learnt κs a r s →
    (κs' : Lifetimes.Lfts 12) (a' : Arguments κs') (r' : Returned κs') (s' : Left κs') → command-reads.Learnt κs' a' r' s' →
    bus_in κs a ≡ bus_in κs' a' → (call_in κs a).frame ≡ (call_in κs' a').frame →
    answer_size ≤ length (call_in κs a).buffer → answer_size ≤ length (call_in κs' a').buffer →
    SameAnswer (exchanged κs a r s) (exchanged κs' a' r' s') (bus_out κs s) (bus_out κs' s')
any-buffer-of-calls κs a r s l κs' a' r' s' l' e f h h' =
    let b = bus_in κs' a' in
    let x = left_is κs a r s b e l in
    let y = left_is κs' a' r' s' b refl l' in
    let k = any-buffer b (call_in κs' a').frame (call_in κs a).buffer (call_in κs' a').buffer h h' in
    let z : command_of b (call_in κs a).frame (call_in κs a).buffer ≡ command_of b (call_in κs' a').frame (call_in κs a).buffer =
    ap (λ (g : List ℕ). command_of b g (call_in κs a).buffer) f in
    record {
      outcome = ap (λ (w : Exchange). w.outcome) x.0 ∙ ap (λ (d : Done). d.outcome) z ∙ k.outcome ∙ sym (ap (λ (w : Exchange). w.outcome) y.0);
      bus = x.1 ∙ ap (λ (d : Done). d.bus) z ∙ k.bus ∙ sym y.1;
      answer = ap answer_in x.0 ∙ ap (λ (d : Done). take d.outcome.len d.out) z ∙ k.answer ∙ sym (ap answer_in y.0);
    }
