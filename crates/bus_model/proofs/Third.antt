-- The theorems that go with specs/Third.antt and stand on others: each goes by the definitions and the theorems there.
-- Assumes nothing.
use Rattle.std.specs.Prelude.{◌+◌, ◌≤◌, List, []}
use Rattle.std.proofs.Common.{sym, subst}
use Rattle.ids.specs.Refusals.{EDQUOT}
use Rattle.model.specs.Resources.{most}
use Rattle.model.specs.Step.{Call}
use Rattle.model.specs.Book.{Book, queued}
use Rattle.model.proofs.After.{after_any}
use Rattle.view.specs.View.{Bus}
use Rattle.bus_model.specs.Ran.{Exchange, calls_of, exchange_of, Ran}
use Rattle.bus_model.proofs.Ran.{ran-modelled}
use Rattle.bus_model.proofs.Demands.{exchange-as, code-third-demand}
use Rattle.bus_model.specs.Untouched.{code-tail}
use Rattle.bus_model.proofs.Histories.{next-answered, ran-answered, book-ran}
use Rattle.bus_model.specs.Third.{Next, Demanded}

pub code-demanded : (xs : List Exchange) (b : Bus) → Ran xs b → Demanded xs b
code-demanded xs b r =
    let a = after_any (calls_of xs) in
    let e = book-ran r in
    record {
      modelled = ran-modelled r;
      answered = λ before after x cut. ran-answered before after x (subst (λ (ys : List Exchange). Ran ys b) cut r);
      bounded = λ q u s. subst (λ (k : Book). queued k q u s ≤ most s) (sym e) (a.bounded q u s);
      sums = λ q u s. subst (λ (k : Book). k.received q u s + k.dropped q u s ≤ k.sent q u s) (sym e) (a.sums q u s);
    }

pub code-next : (xs : List Exchange) (b : Bus) → Ran xs b → (c : Call) → Next xs (exchange_of b c)
code-next xs b r c =
    let k = code-third-demand xs b r c in
    record {
      modelled = exchange-as r c;
      answered = next-answered r c;
      assured = λ s h. (k.assured s h, λ e. k.assured s h ((code-tail b c).byte EDQUOT [] e));
      reports = k.reports;
      seeds = k.seeds;
    }
