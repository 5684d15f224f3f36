-- The theorems that go with specs/Exact.antt and stand on others: each goes by the definitions and the theorems there.
-- Assumes nothing.
use Rattle.std.specs.Prelude.{ℕ, zero, suc, ◌+◌, ◌*◌, ◌≤◌, ◌≡◌, true}
use Rattle.std.proofs.Math.Path.{refl, ap}
use Rattle.std.proofs.Common.{sym, ◌∙◌, arith, take-take, ltb-false, leb-true}
use mathlib.Core.List.{List, ◌∷◌, ◌++◌, map, flatten, append_assoc, append-nil}
use Rattle.std.proofs.Math.ListN.{length, take}
use Rattle.std.proofs.Math.Seq.{sets, length-sets}
use Rattle.lines.specs.Line.{lines_after, answer_line}
use Rattle.lines.specs.Chunks.{Found.frame}
use Rattle.lines.specs.Cuts.{text_of, lfs}
use Rattle.lines.proofs.Cuts.{cut-before}
use Rattle.answers.specs.Answer.{answer_size}
use Rattle.view.specs.View.{Bus}
use Rattle.bus_model.specs.Command.{command_of}
use Rattle.bus_model.specs.Ran.{Exchange}
use Rattle.bus_model.specs.Apart.{any-buffer}
use Rattle.journal_model.specs.Journal.{counted, WithJournal, command_with, spare, Replayed.whole, replay}
use Rattle.journal_model.specs.Exact.{counted-any, exchange_with, JournalRun, JournalRun.none, JournalRun.next, frames_of, bus_after_counted, Appends, Appends.appended, Appends.unchanged, appends, spare-large, Text, line_taken, RecoveryExact}

-- A replay of the first n frames finds the bus after the first n counted commands.
pub replayed : {b d : Bus} {j i : List ℕ} {u v : ℕ} {xs : List Exchange} → JournalRun b j u xs d i v → (m n : ℕ) → n ≤ length (frames_of xs) →
    replay m b (map frame (take n (frames_of xs))) ≡ whole (bus_after_counted xs n d) (m + n)
unfolding frames_of bus_after_counted replay
replayed (none {b = b}) m zero l = let e : m ≡ m + 0 = omega arith in ap (whole b) e
replayed none m (suc n) l = absurd (omega arith)
replayed (next {b = b} c r) m zero l = let e : m ≡ m + 0 = omega arith in ap (whole b) e
replayed (next {b = b} {d = d} {j = j} {u = u} {xs = xs} c r) m (suc n) l = go (appends b c j u) (λ k x h. replayed r k x h)
  where
    go : Appends b c j u → ((k n : ℕ) → n ≤ length (frames_of xs) → replay k (command_with b c.frame c.buffer j u).done.bus (map frame (take n (frames_of xs))) ≡ whole (bus_after_counted xs n d) (k + n)) →
        replay m b (map frame (take (suc n) (frames_of (exchange_with b j u c ∷ xs)))) ≡ whole (bus_after_counted (exchange_with b j u c ∷ xs) (suc n) d) (m + suc n)
    go (unchanged x y z w) ih = rw x (rw y at (ih m (suc n) (rw x at l)))
    go (appended x y large z w) ih =
        let long : answer_size ≤ length c.buffer = ltb-false (length c.buffer) answer_size large in
        let same = any-buffer b c.frame c.buffer spare long spare-large in
        let k : counted b c.frame spare ≡ true = sym (counted-any b c.frame c.buffer spare long spare-large) ∙ y in
        let s : (command_with b c.frame c.buffer j u).done.bus ≡ (command_of b c.frame spare).bus = ap (λ (q : WithJournal). q.done.bus) w ∙ same.bus in
        let t : suc m + n ≡ m + suc n = omega arith in
        rw (x, k) (rw s at (ih (suc m) n (omega (arith, rw x at l))) ∙ ap (whole (bus_after_counted xs n d)) t)

pub kept-text : {b d : Bus} {j i : List ℕ} {u v : ℕ} {xs : List Exchange} → JournalRun b j u xs d i v → u ≤ length j → Text i v (take u j) xs
unfolding frames_of flatten
kept-text {j = j} {u = u} none l = record { text = sym (append-nil (take u j)); within = l }
kept-text (next {b = b} {j = j} {i = i} {u = u} {v = v} {xs = xs} c r) l = go (appends b c j u) (λ h. kept-text r h)
  where
    f : List ℕ
    f = c.frame

    go : Appends b c j u → ((command_with b f c.buffer j u).used ≤ length (command_with b f c.buffer j u).journal → Text i v (take (command_with b f c.buffer j u).used (command_with b f c.buffer j u).journal) xs) →
        Text i v (take u j) (exchange_with b j u c ∷ xs)
    go (unchanged x y z w) ih = let t = ih (rw (z, w) l) in record { text = rw x (rw (z, w) at t.text); within = t.within }
    go (appended x k large room w) ih =
        let h : u + (2 * length f + 1) ≤ length j = leb-true (u + (2 * length f + 1)) (length j) room in
        let y : lines_after j u f ≡ sets j u (answer_line f) = unfold lines_after in rw room refl in
        let z : (command_with b f c.buffer j u).journal ≡ sets j u (answer_line f) = ap (λ (q : WithJournal). q.journal) w ∙ y in
        let v : (command_with b f c.buffer j u).used ≡ u + (2 * length f + 1) = ap (λ (q : WithJournal). q.used) w in
        let t = ih (rw (z, v, length-sets) h) in
        let q : take (command_with b f c.buffer j u).used (command_with b f c.buffer j u).journal ≡ take u j ++ answer_line f = rw (z, v) (line_taken j f u h) in
        record { text = rw x (t.text ∙ ap (λ (s : List ℕ). s ++ text_of (frames_of xs)) q ∙ append_assoc (take u j) (answer_line f) (text_of (frames_of xs))); within = t.within }

pub recovery-exact : RecoveryExact
recovery-exact j xs d i v r s k t l n =
    let x = kept-text r (omega arith) in
    let e : take k i ≡ take k (text_of (frames_of xs)) = sym (take-take k v i l) ∙ ap (take k) x.text in
    let c = cut-before (frames_of xs) k t s n in
    let m : ℕ = lfs (take k (text_of (frames_of xs))) in
    let z : 0 + m ≡ m = omega arith in
    rw e (rw c.lines (replayed r 0 m c.few ∙ ap (whole (bus_after_counted xs m d)) z))
