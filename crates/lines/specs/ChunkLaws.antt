-- The proofs of Chunks' statements: the split of an append, the characters that a cap leaves out, and the code's readings by the first line.
-- Assumes nothing.
use Rattle.std.specs.Prelude.{ℕ, zero, suc, ◌+◌, ◌*◌, ◌/◌, ◌≤◌, ◌<◌, ◌≡◌, refl, true, false, length, get_or, take, drop, eqb, ltb}
use Rattle.std.proofs.Common.{sym, ap, ap₂, ◌∙◌, add-one, arith, length-append, length-take, drop_of_length-le, take_all, take_at, take-take, get_or-take, drop-drop, ltb-true, ltb-false, eqb-true, ne_eqb, lt-ltb, le-ltb}
use mathlib.Core.List.{List, [], ◌∷◌, ◌++◌, map, flatten, append_assoc, append-nil, map-append}
use Rattle.std.proofs.Math.Seq.{take-length, split_at}
use Rattle.std.proofs.lemmas.List.{take-append-le}
use Rattle.std.proofs.lemmas.Bool.{not-true}
use Rattle.laws.specs.Tests.{pick, Seen, Seen.is_true, Seen.is_false, look}
use Rattle.laws.specs.Weights.{all_take, all-at, all_of}
use Rattle.laws.specs.Search.{first_found, first-before, first-is}
use Rattle.laws.specs.Build.{build, build-length, build-ext}
use Rattle.lines.specs.Line.{lf, most_digits, most_carried, is_digit, digit_value, fault_place, line_length, well_formed, pair_at, bytes_of, line_read, read_line, frame_after, carried_of}
use Rattle.lines.specs.LineLaws.{lf_at, fault-le, fault-found, fault-cut, line-le}
use Rattle.lines.specs.Chunks.{Split, parts, longer, split, Found, Found.frame, Found.bad, found, found_at_end, lines_of, cap, run, reading, NoLf, RunIsWhole, AnyChunks, OneLine, OverlongIsBad, ReadsAll, RunStep}
use Rattle.lines.specs.declared.LineRead.{LineRead}
use Rattle.lines.specs.declared.LineRead.TheVariants.{Frame, Bad, Piece}

-- SPLITS

split-lf : (c : ℕ) (s : List ℕ) → eqb c lf ≡ true → split (c ∷ s) ≡ parts ([] ∷ (split s).whole) (split s).rest
unfolding split
split-lf c s e = rw e

split-char : (c : ℕ) (s : List ℕ) → eqb c lf ≡ false → split (c ∷ s) ≡ longer c (split s).whole (split s).rest
unfolding split
split-char c s e = rw e

-- a list of characters in front of the first line
abbrev behind : List ℕ → List (List ℕ) → List ℕ → Split
behind p [] r = parts [] (p ++ r)
behind p (l ∷ ls) r = parts ((p ++ l) ∷ ls) r

longer-behind : (c : ℕ) (p : List ℕ) (ls : List (List ℕ)) (r : List ℕ) → longer c (behind p ls r).whole (behind p ls r).rest ≡ behind (c ∷ p) ls r
longer-behind c p [] r = refl
longer-behind c p (l ∷ ls) r = refl

-- without an LF in p, what is in front of x is in front of its first line
split-behind : (p x : List ℕ) → NoLf p → split (p ++ x) ≡ behind p (split x).whole (split x).rest
split-behind [] x h = go (split x).whole (split x).rest
  where
    go : (ls : List (List ℕ)) (r : List ℕ) → parts ls r ≡ behind [] ls r
    go [] r = refl
    go (l ∷ ls) r = refl
split-behind (c ∷ p) x h =
    split-char c (p ++ x) h.0
    ∙ ap (λ (d : Split). longer c d.whole d.rest) (split-behind p x h.1)
    ∙ longer-behind c p (split x).whole (split x).rest

pub split-piece : (p : List ℕ) → NoLf p → split p ≡ parts [] p
unfolding split
split-piece p h = ap split (sym (append-nil p)) ∙ split-behind p [] h ∙ ap (parts []) (append-nil p)

-- the piece behind the last LF has none
pub rest_plain : (s : List ℕ) → NoLf (split s).rest
unfolding split
rest_plain [] = tt
rest_plain (c ∷ s) = go (look (eqb c lf)) (split s).whole (split s).rest (rest_plain s)
  where
    go : Seen (eqb c lf) → (ls : List (List ℕ)) (r : List ℕ) → NoLf r → NoLf (pick (eqb c lf) (parts ([] ∷ ls) r) (longer c ls r)).rest
    go (is_true e) ls r h = rw e h
    go (is_false e) [] r h = rw e (e, h)
    go (is_false e) (l ∷ ls) r h = rw e h

-- the lines of a, then those of what is behind its last LF
split-append : (a b : List ℕ) → split (a ++ b) ≡ parts ((split a).whole ++ (split ((split a).rest ++ b)).whole) (split ((split a).rest ++ b)).rest
unfolding split
split-append [] b = refl
split-append (c ∷ a) b = go (look (eqb c lf)) (split a).whole (split a).rest (split-append a b)
  where
    go : Seen (eqb c lf) → (ls : List (List ℕ)) (r : List ℕ) →
        split (a ++ b) ≡ parts (ls ++ (split (r ++ b)).whole) (split (r ++ b)).rest →
        split (c ∷ (a ++ b)) ≡ (let d = pick (eqb c lf) (parts ([] ∷ ls) r) (longer c ls r) in
        parts (d.whole ++ (split (d.rest ++ b)).whole) (split (d.rest ++ b)).rest)
    go (is_true e) ls r ih = rw (e, ih)
    go (is_false e) [] r ih = rw (e, ih, e)
    go (is_false e) (l ∷ ls) r ih = rw (e, ih)

pub one_line : OneLine
unfolding split
one_line l r h = split-behind l (lf ∷ r) h ∙ ap (λ (x : List ℕ). parts (x ∷ (split r).whole) (split r).rest) (append-nil l)

-- WHAT A CAP LEAVES OUT

take-front : (n : ℕ) (a b : List ℕ) → take n (take n a ++ b) ≡ take n (a ++ b)
take-front n a b = go (look (ltb n (length a)))
  where
    go : Seen (ltb n (length a)) → take n (take n a ++ b) ≡ take n (a ++ b)
    go (is_true e) =
        let h : n < length a = ltb-true n (length a) e in
        take-append-le n (take n a) b (rw length-take (omega arith)) ∙ take-take n n a (omega arith) ∙ sym (take-append-le n a b (omega arith))
    go (is_false e) = ap (λ (x : List ℕ). take n (x ++ b)) (take_all n a (ltb-false n (length a) e))

fault-cap : (a b : List ℕ) → fault_place (cap a ++ b) ≡ fault_place (a ++ b)
fault-cap a b =
    sym (fault-cut (cap a ++ b) most_carried (omega (arith, fault-le (cap a ++ b))))
    ∙ ap fault_place (take-front most_carried a b)
    ∙ fault-cut (a ++ b) most_carried (omega (arith, fault-le (a ++ b)))

found-long : (l : List ℕ) → most_digits < length l → found l ≡ bad (fault_place l)
unfolding found
found-long l h = rw (ne_eqb (fault_place l) (length l) (λ e. absurd (omega (arith, fault-le l))))

pub overlong-is-bad : OverlongIsBad
overlong-is-bad l h = record {
  one = found-long l h;
  place = omega (arith, fault-le l);
  earlier = λ k. not-true (is_digit (get_or l (fault_place l) 0)) (fault-found l (omega arith));
}

found-cap : (a b : List ℕ) → found (cap a ++ b) ≡ found (a ++ b)
found-cap a b = go (look (ltb most_carried (length a)))
  where
    go : Seen (ltb most_carried (length a)) → found (cap a ++ b) ≡ found (a ++ b)
    go (is_true e) =
        let h : most_carried < length a = ltb-true most_carried (length a) e in
        found-long (cap a ++ b) (simp (length-append, length-take) (omega arith))
        ∙ ap bad (fault-cap a b)
        ∙ sym (found-long (a ++ b) (rw length-append (omega arith)))
    go (is_false e) = ap (λ (x : List ℕ). found (x ++ b)) (take_all most_carried a (ltb-false most_carried (length a) e))

end-cap : (p : List ℕ) → found_at_end (cap p) ≡ found_at_end p
end-cap [] = refl
end-cap (c ∷ p) = ap (λ (n : ℕ). bad n ∷ []) (fault-cut (c ∷ p) most_carried (omega (arith, fault-le (c ∷ p))))

-- a chunk behind a piece and behind its cap
record Alike (d e : Split) : Type 0 where
  lines : map found d.whole ≡ map found e.whole
  carried : cap d.rest ≡ cap e.rest

behind-cap : (p : List ℕ) (ls : List (List ℕ)) (r : List ℕ) → Alike (behind (cap p) ls r) (behind p ls r)
behind-cap p [] r = record { lines = refl; carried = take-front most_carried p r }
behind-cap p (l ∷ ls) r = record { lines = ap (λ (f : Found). f ∷ map found ls) (found-cap p l); carried = refl }

chunk-cap : (p x : List ℕ) → NoLf p → Alike (split (cap p ++ x)) (split (p ++ x))
chunk-cap p x h =
    rw (split-behind (cap p) x (all_take (λ c. eqb c lf ≡ false) most_carried p h), split-behind p x h) (behind-cap p (split x).whole (split x).rest)

-- ANY CHUNKING

lines-append : (a b : List ℕ) → lines_of (a ++ b) ≡ map found (split a).whole ++ lines_of ((split a).rest ++ b)
lines-append a b =
    rw (split-append a b, map-append found (split a).whole (split ((split a).rest ++ b)).whole) (append_assoc (map found (split a).whole) _ _)

run-from : (cs : List (List ℕ)) (p : List ℕ) → NoLf p → run (cap p) cs ≡ lines_of (p ++ flatten cs)
unfolding run flatten
run-from [] p h = end-cap p ∙ sym (ap lines_of (append-nil p) ∙ ap (λ (d : Split). map found d.whole ++ found_at_end d.rest) (split-piece p h))
run-from (x ∷ xs) p h =
    let a = chunk-cap p x h in
    ap₂ (λ (f : List Found) (c : List ℕ). f ++ run c xs) a.lines a.carried
    ∙ ap (λ (f : List Found). map found (split (p ++ x)).whole ++ f) (run-from xs (split (p ++ x)).rest (rest_plain (p ++ x)))
    ∙ sym (lines-append (p ++ x) (flatten xs))
    ∙ ap lines_of (append_assoc p x (flatten xs))

pub run-is-whole : RunIsWhole
run-is-whole cs = run-from cs [] tt

pub any-chunks : AnyChunks
any-chunks cs ds e = run-is-whole cs ∙ ap lines_of e ∙ sym (run-is-whole ds)

-- THE CODE'S READINGS

-- the first line of s, where it has its LF
line_plain : (s : List ℕ) → NoLf (take (line_length s) s)
unfolding line_length
line_plain s = all_of (λ c. eqb c lf ≡ false) s (line_length s) 0 (first-before (lf_at s) (length s))

pub first-line : (s : List ℕ) → line_length s < length s →
    split s ≡ parts (take (line_length s) s ∷ (split (drop (line_length s + 1) s)).whole) (split (drop (line_length s + 1) s)).rest
first-line s h =
    ap split (split_at s n 0 h ∙ ap₂ (λ (c : ℕ) (k : ℕ). take n s ++ c ∷ drop k s) ends (sym (add-one n)))
    ∙ one_line (take n s) (drop (n + 1) s) (line_plain s)
  where
    n : ℕ
    n = line_length s

    ends : get_or s n 0 ≡ lf
    ends = eqb-true (get_or s n 0) lf (unfold line_length in first_found (lf_at s) (length s) h)

pub read_whole : (s : List ℕ) → line_length s < length s →
    read_line s ≡ pick (well_formed (take (line_length s) s)) (Frame (line_length s / 2) (line_length s + 1)) (Bad (fault_place (take (line_length s) s)) (line_length s + 1))
unfolding read_line line_read
read_whole s h = rw (lt-ltb (line_length s) (length s) h)

-- a piece
piece-length : (p : List ℕ) → NoLf p → line_length p ≡ length p
unfolding line_length
piece-length p h =
    sym (first-is (lf_at p) (length p) (length p) (omega arith) (λ j l. all-at (λ c. eqb c lf ≡ false) p j 0 h l) (λ l. absurd (omega arith)))

pub piece-plain : (s : List ℕ) → line_length s ≡ length s → NoLf s
piece-plain s e = rw (e, take-length) at (line_plain s)

pub piece-read : (p : List ℕ) → NoLf p → read_line p ≡ Piece (fault_place p)
unfolding read_line line_read
piece-read p h = rw (piece-length p h, le-ltb (length p) (length p) (omega arith), take-length p)

-- a frame's bytes are those of its line
pub frame-bytes : (s b : List ℕ) (n next : ℕ) → n ≤ length s → read_line s ≡ Frame (n / 2) next → take (n / 2) (frame_after s b) ≡ bytes_of (take n s)
unfolding frame_after bytes_of
frame-bytes s b n next h e =
    let l : length (take n s) ≡ n = rw length-take (omega arith) in
    rw (e, l)
    (take_at (build (pair_at s) (n / 2)) (drop (n / 2) b) (n / 2) (build-length (pair_at s) (n / 2))
    ∙ build-ext (pair_at s) (pair_at (take n s)) (n / 2) (λ j k. ap₂ (λ (x : ℕ) (y : ℕ). 16 * digit_value x + digit_value y)
    (sym (get_or-take n s (2 * j) 0 (omega arith))) (sym (get_or-take n s (2 * j + 1) 0 (omega arith)))))

record Read (k : ℕ) (s : List ℕ) (at : ℕ) (b : List ℕ) : Type 0 where
  lines : (reading k s at b).lines ≡ map found (split (drop at s)).whole
  stops : drop (reading k s at b).at s ≡ (split (drop at s)).rest

reading-next : (k : ℕ) (s : List ℕ) (at : ℕ) (b : List ℕ) → line_length (drop at s) < length (drop at s) →
    Read k s (at + (line_length (drop at s) + 1)) (frame_after (drop at s) b) → Read (suc k) s at b
unfolding reading found
reading-next k s at b h ih = go (look (well_formed l))
  where
    t : List ℕ
    t = drop at s

    n : ℕ
    n = line_length t

    l : List ℕ
    l = take n t

    behind-it : drop (at + (n + 1)) s ≡ drop (n + 1) t
    behind-it = sym (drop-drop (n + 1) at s)

    go : Seen (well_formed l) → Read (suc k) s at b
    go (is_true w) =
        let e : read_line t ≡ Frame (n / 2) (n + 1) = read_whole t h ∙ rw w in
        record {
          lines = rw (e, first-line t h, w) (ap₂ (λ (x : List ℕ) (y : List Found). frame x ∷ y) (frame-bytes t b n (n + 1) (omega arith) e) (rw behind-it at ih.lines));
          stops = rw (e, first-line t h) (rw behind-it at ih.stops);
        }
    go (is_false w) =
        let e : read_line t ≡ Bad (fault_place l) (n + 1) = read_whole t h ∙ rw w in
        record {
          lines = rw (e, first-line t h, w) (ap (λ (y : List Found). bad (fault_place l) ∷ y) (rw behind-it at ih.lines));
          stops = rw (e, first-line t h) (rw behind-it at ih.stops);
        }

reading-piece : (k : ℕ) (s : List ℕ) (at : ℕ) (b : List ℕ) → NoLf (drop at s) → Read (suc k) s at b
unfolding reading
reading-piece k s at b h =
    let e : read_line (drop at s) ≡ Piece (fault_place (drop at s)) = piece-read (drop at s) h in
    let p : split (drop at s) ≡ parts [] (drop at s) = split-piece (drop at s) h in
    record { lines = rw (e, p); stops = rw (e, p) }

reading-from : (k : ℕ) (s : List ℕ) (at : ℕ) (b : List ℕ) → length s ≤ at + k → Read k s at b
unfolding reading split
reading-from zero s at b h =
    let l : length s ≤ at = omega arith in
    let e : drop at s ≡ [] = drop_of_length-le s l in
    record { lines = rw e; stops = rw e }
reading-from (suc k) s at b h = go (look (ltb (line_length (drop at s)) (length (drop at s)))) (reading-from k s)
  where
    go : Seen (ltb (line_length (drop at s)) (length (drop at s))) → ((a : ℕ) (c : List ℕ) → length s ≤ a + k → Read k s a c) → Read (suc k) s at b
    go (is_true e) ih =
        reading-next k s at b (ltb-true (line_length (drop at s)) (length (drop at s)) e)
        (ih (at + (line_length (drop at s) + 1)) (frame_after (drop at s) b) (omega arith))
    go (is_false e) ih =
        reading-piece k s at b (piece-plain (drop at s) (omega (arith, line-le (drop at s), ltb-false (line_length (drop at s)) (length (drop at s)) e)))

pub reads_all : ReadsAll
reads_all s b =
    let r = reading-from (length s) s 0 b (omega arith) in
    let p = (split s).rest in
    record {
      lines = r.lines;
      stops = r.stops;
      piece = piece-read p (rest_plain s);
      carried = piece-read (cap p) (all_take (λ c. eqb c lf ≡ false) most_carried p (rest_plain s)) ∙ ap Piece (fault-cut p most_carried (omega (arith, fault-le p)));
    }

pub run_step : RunStep
unfolding run carried_of
run_step c x t b end xs e =
    let r = reads_all (take end t) b in
    rw (← e) (ap₂ (λ (f : List Found) (p : List ℕ). f ++ run (cap p) xs) (sym r.lines) (sym r.stops))

-- THE FIRST LINE

-- The first line of s is l, and the others start at the place next.
pub record FirstIs (s : List ℕ) (l : Found) (next : ℕ) : Type 0 where
  pub within : next ≤ length s
  pub lines : map found (split s).whole ≡ l ∷ map found (split (drop next s)).whole
  pub rest : (split s).rest ≡ (split (drop next s)).rest

-- What is read, whatever the frame buffer b holds: the first line, or no line at all.
abbrev pub Told : List ℕ → List ℕ → LineRead → Type 0
Told s b (Frame m next) = FirstIs s (frame (take m (frame_after s b))) next
Told s b (Bad place next) = FirstIs s (bad place) next
Told s b (Piece place) = NoLf s

pub read_told : (s b : List ℕ) → Told s b (read_line s)
unfolding found
read_told s b = go (look (ltb n (length s)))
  where
    n : ℕ
    n = line_length s

    l : List ℕ
    l = take n s

    whole : n < length s → Seen (well_formed l) → Told s b (read_line s)
    whole h (is_true w) =
        let e : read_line s ≡ Frame (n / 2) (n + 1) = read_whole s h ∙ rw w in
        let f = frame-bytes s b n (n + 1) (omega arith) e in
        rw e record {
          within = omega arith;
          lines = rw (first-line s h, w) (ap (λ (x : List ℕ). frame x ∷ map found (split (drop (n + 1) s)).whole) (sym f));
          rest = rw (first-line s h);
        }
    whole h (is_false w) =
        let e : read_line s ≡ Bad (fault_place l) (n + 1) = read_whole s h ∙ rw w in
        rw e record { within = omega arith; lines = rw (first-line s h, w); rest = rw (first-line s h) }

    go : Seen (ltb n (length s)) → Told s b (read_line s)
    go (is_true e) = whole (ltb-true n (length s) e) (look (well_formed l))
    go (is_false e) =
        let p = piece-plain s (omega (arith, line-le s, ltb-false n (length s) e)) in
        rw (piece-read s p) p
