-- The theorems that go with specs/Marked.antt and stand on others: each goes by the definitions and the theorems there.
-- Assumes nothing.
use Rattle.std.specs.Prelude.{ℕ, ◌≡◌, List, [], map, length, get_or}
use Rattle.std.proofs.Common.{sym, ap, ◌∙◌}
use Rattle.laws.specs.Weights.{All, all-imp}
use Rattle.model.specs.State.{start}
use Rattle.model.specs.Step.{answers_from}
use Rattle.model.specs.Scripts.{Row, Row.played, Row.ruled, calls, last_of, computed, expected}
use Rattle.model.specs.Table.{table, marks}
use Rattle.model.specs.Examples.{examples, shown-by-examples}
use Rattle.view.specs.View.{Bus}
use Rattle.bus_model.specs.Ran.{Exchange, answer_in, calls_of, Ran}
use Rattle.bus_model.proofs.Ran.{ran-modelled}
use Rattle.bus_model.specs.Marked.{as-answers, Large, answers-large, Holds, frames-of, large-calls, CodeMarks, CodeExamples, BytesSame}

pub ran-answers : {xs : List Exchange} {b : Bus} → Ran xs b → map answer_in xs ≡ answers_from start (calls_of xs)
ran-answers {xs = xs} r = as-answers start xs (ran-modelled r).each

-- The answers of a run, from its frames alone.
frame-answers : (xs : List Exchange) (b : Bus) → Ran xs b → All (λ x. Large x.call) xs → map answer_in xs ≡ answers_from start (calls (map (λ x. x.call.frame) xs))
frame-answers xs b r a =
    ran-answers r ∙ answers-large (calls_of xs) start (large-calls xs a) ∙ ap (λ (l : List (List ℕ)). answers_from start (calls l)) (frames-of xs)

played-holds : (fs rs : List (List ℕ)) → computed (played fs rs) ≡ rs → Holds (played fs rs)
played-holds fs rs h xs b r e a =
    let z : map answer_in xs ≡ answers_from start (calls fs) = frame-answers xs b r a ∙ ap (λ (l : List (List ℕ)). answers_from start (calls l)) e in
    ap (last_of (length rs)) z ∙ h

row-holds : (r : Row) → computed r ≡ expected r → Holds r
row-holds (played fs rs) h = played-holds fs rs h
row-holds (ruled limit others own rest) h = ap (λ (l : List (List ℕ)). get_or (get_or l 0 []) 0 0) h

-- What rows compute to in the model, they say of the commands.
pub rows-hold : (rows : List Row) → All (λ r. computed r ≡ expected r) rows → All Holds rows
rows-hold rows a = all-imp (λ r. computed r ≡ expected r) Holds row-holds rows a

pub code-marks : CodeMarks
code-marks = rows-hold table marks

pub code-examples : CodeExamples
code-examples = rows-hold examples shown-by-examples

pub bytes_same : BytesSame
bytes_same xs ys b d r s e h k =
    frame-answers xs b r h ∙ ap (λ (l : List (List ℕ)). answers_from start (calls l)) e ∙ sym (frame-answers ys d s k)
