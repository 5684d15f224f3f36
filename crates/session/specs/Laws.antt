-- The proofs of Session's statements, and the steps of the code: a line more is answered, and the answering stops.
-- Assumes nothing.
use Rattle.std.specs.Prelude.{ℕ, ◌+◌, ◌*◌, ◌-◌, ◌≤◌, ◌<◌, ◌≡◌, refl, Bool, true, false, length, take, drop, eqb, ltb, Option, Some, None}
use Rattle.std.proofs.Common.{sym, ap, ap₂, subst, ◌∙◌, arith, zero-add, length-append, length-drop, take_at, take_all, take-add, drop-drop, eqb-true, leb-true, leb-false, lt-ltb}
use mathlib.Core.List.{List, [], ◌∷◌, ◌++◌, map, flatten, append_assoc, append-nil}
use Rattle.std.proofs.lemmas.List.Edits.{sets}
use Rattle.std.proofs.Math.Seq.{length-sets}
use Rattle.std.proofs.lemmas.Bool.{eqb-false}
use Rattle.laws.specs.Tests.{Seen, Seen.is_true, Seen.is_false, look, clash, pick-else}
use Rattle.laws.specs.Stores.{over, sets_then}
use Rattle.lines.specs.Line.{lf, digits_of, answer_line, read_line, frame_after, carried_of, most_carried}
use Rattle.lines.specs.Chunks.{Split, split, parts, Found, Found.frame, Found.bad, found, lines_of, cap, run, NoLf}
use Rattle.lines.specs.ChunkLaws.{FirstIs, Told, read_told, split-piece, run-is-whole}
use Rattle.lines.specs.LineLaws.{Fits, read_fits, digits-length}
use Rattle.lines.specs.declared.LineRead.{LineRead}
use Rattle.lines.specs.declared.LineRead.TheVariants.{Frame, Bad, Piece}
use Rattle.view.specs.View.{Bus}
use Rattle.bus_model.specs.Command.{done_of, command_of, fresh_bus}
use Rattle.answers.specs.declared.Outcome.{Outcome}
use Rattle.answers.specs.Answer.{answer_size, bit}
use Rattle.session.specs.Replies.{reply-of}
use Rattle.session.specs.Session.{reply_to, Answered, answered_of, answered, answers_text, Served, Put, PutRead, TurnedBy, used_by, taken_by, Holds, goes_on, Stopped, Serves, Serves.none, Serves.call, Session, Session.begins, Session.reads, Underway, Chunk, AllAnswered, Front, AlwaysFront, FrontWithin, PieceAnswered, GoesOn, longest}

-- LINES ONE AFTER ANOTHER

answered-append : (b : Bus) (ls ms : List Found) →
    answered b (ls ++ ms) ≡ (let a = answered b ls in let c = answered a.bus ms in answered_of c.bus (a.text ++ c.text))
unfolding answered
answered-append b [] ms = refl
answered-append b (l ∷ ls) ms =
    let x = answer_line (reply_to b l).bytes in
    ap (λ (a : Answered). answered_of a.bus (x ++ a.text)) (answered-append (reply_to b l).bus ls ms)
    ∙ ap (answered_of _) (sym (append_assoc x _ _))

answered-one : (b : Bus) (l : Found) → answered b (l ∷ []) ≡ answered_of (reply_to b l).bus (answer_line (reply_to b l).bytes)
unfolding answered
answered-one b l = ap (answered_of _) (append-nil _)

-- one more
answered-more : (b : Bus) (ls : List Found) (l : Found) → let c = (answered b ls).bus in
    answered b (ls ++ (l ∷ [])) ≡ answered_of (reply_to c l).bus ((answered b ls).text ++ answer_line (reply_to c l).bytes)
answered-more b ls l = answered-append b ls (l ∷ []) ∙ ap (λ (a : Answered). answered_of a.bus ((answered b ls).text ++ a.text)) (answered-one _ l)

-- A CHUNK

-- the lines that the calls answered, and the text that they wrote
record Wrote (s : List ℕ) (b : Bus) (from : ℕ) (d : Bus) (last : ℕ) (w : List ℕ) : Type 0 where
  lines : List Found
  those : map found (split (drop from s)).whole ≡ lines ++ map found (split (drop last s)).whole
  rest : (split (drop from s)).rest ≡ (split (drop last s)).rest
  did : answered_of d w ≡ answered b lines

served-text : (b : Bus) (s : List ℕ) (from : ℕ) (t : List ℕ) (c : Bus) (u : List ℕ) (next at : ℕ) (h : Served b s from 0 t c u next at) →
    answered_of c (take at u) ≡ answered b h.lines
served-text b s from t c u next at h =
    let x = (answered b h.lines).text in
    let n : at ≡ length x = h.size ∙ zero-add (length x) in
    ap₂ answered_of h.bus
    (ap (take at) (h.text ∙ over x t (omega (arith, h.fits))) ∙ take_at x (drop (length x) t) at (sym n))

-- two runs of lines, one behind the other
both-wrote : (b c d : Bus) (x w : List ℕ) (ls ms : List Found) → answered_of c x ≡ answered b ls → answered_of d w ≡ answered c ms →
    answered_of d (x ++ w) ≡ answered b (ls ++ ms)
both-wrote b c d x w ls ms e f =
    sym (answered-append b ls ms
    ∙ ap (λ (a : Answered). let y = answered a.bus ms in answered_of y.bus (a.text ++ y.text)) (sym e)
    ∙ ap (λ (y : Answered). answered_of y.bus (x ++ y.text)) (sym f))

serves-wrote : {s : List ℕ} {b d : Bus} {from last : ℕ} {w : List ℕ} → Serves s b from d last w → Wrote s b from d last w
unfolding answered
serves-wrote none = record { lines = []; those = refl; rest = refl; did = refl }
serves-wrote {s} (call {b = b} {c = c} {d = d} {from = from} {next = next} {last = last} {at = at} {t = t} {u = u} {w = w} h k) =
    let i = serves-wrote k in
    record {
      lines = h.lines ++ i.lines;
      those = h.between.lines ∙ ap (λ (l : List Found). h.lines ++ l) i.those ∙ sym (append_assoc h.lines i.lines _);
      rest = h.between.rest ∙ i.rest;
      did = both-wrote b c d (take at u) w h.lines i.lines (served-text b s from t c u next at h) i.did;
    }

-- up to the piece these are all the lines of the chunk, and what is left is its piece
record Done (s : List ℕ) (b d : Bus) (last : ℕ) (w : List ℕ) : Type 0 where
  did : answered_of d w ≡ answered b (map found (split s).whole)
  left : drop last s ≡ (split s).rest

chunk-done : {s : List ℕ} {b d : Bus} {last : ℕ} {w : List ℕ} → Serves s b 0 d last w → NoLf (drop last s) → Done s b d last w
chunk-done {s} {b} {d} {last} {w} h p =
    let i = serves-wrote h in
    let e : split (drop last s) ≡ parts [] (drop last s) = split-piece (drop last s) p in
    let those : map found (split s).whole ≡ i.lines = i.those ∙ ap (λ (x : Split). i.lines ++ map found x.whole) e ∙ append-nil i.lines in
    record { did = i.did ∙ ap (answered b) (sym those); left = sym (i.rest ∙ ap (λ (x : Split). x.rest) e) }

-- THE WHOLE INPUT

next-chunk : (c x t : List ℕ) (b d : Bus) (end at : ℕ) (v : List ℕ) (ys : List (List ℕ)) → take end t ≡ c ++ x → Done (take end t) b d at v →
    (answered b (run c (x ∷ ys))).text ≡ v ++ (answered d (run (carried_of t at end) ys)).text
unfolding run carried_of
next-chunk c x t b d end at v ys e k =
    rw (← e, ← k.left)
    (ap (λ (a : Answered). a.text) (answered-append b (map found (split (take end t)).whole) (run (take most_carried (drop at (take end t))) ys))
    ∙ ap (λ (a : Answered). a.text ++ (answered a.bus (run (take most_carried (drop at (take end t))) ys)).text) (sym k.did))

session-run : {cs : List (List ℕ)} {b : Bus} {c w : List ℕ} → Session cs b c w → (ys : List (List ℕ)) →
    (answered fresh_bus (run [] (cs ++ ys))).text ≡ w ++ (answered b (run c ys)).text
session-run begins ys = refl
session-run (reads {cs = cs} {b = b} {d = d} {c = c} {w = w} {v = v} x t end at k e h p) ys =
    ap (λ (l : List (List ℕ)). (answered fresh_bus (run [] l)).text) (append_assoc cs (x ∷ []) ys)
    ∙ session-run k (x ∷ ys)
    ∙ ap (λ (l : List ℕ). w ++ l) (next-chunk c x t b d end at v ys e (chunk-done h p))
    ∙ sym (append_assoc w v _)

pub all-answered : AllAnswered
unfolding run answers_text
all-answered cs b c w h =
    sym (ap (λ (l : List Found). (answered fresh_bus l).text) (sym (run-is-whole cs))
    ∙ ap (λ (l : List (List ℕ)). (answered fresh_bus (run [] l)).text) (sym (append-nil cs))
    ∙ session-run h [])

flatten-one : (cs : List (List ℕ)) (y : List ℕ) → flatten (cs ++ (y ∷ [])) ≡ flatten cs ++ y
unfolding flatten
flatten-one [] y = append-nil y
flatten-one (x ∷ cs) y = ap (λ (l : List ℕ). x ++ l) (flatten-one cs y) ∙ sym (append_assoc x (flatten cs) y)

flatten-two : (cs : List (List ℕ)) (x y : List ℕ) → flatten (cs ++ (x ∷ y ∷ [])) ≡ flatten cs ++ (x ++ y)
unfolding flatten
flatten-two [] x y = ap (λ (l : List ℕ). x ++ l) (append-nil y)
flatten-two (z ∷ cs) x y = ap (λ (l : List ℕ). z ++ l) (flatten-two cs x y) ∙ sym (append_assoc z (flatten cs) (x ++ y))

pub always-front : AlwaysFront
unfolding answers_text
always-front cs b c w h y = record {
  behind = (answered b (run c (y ∷ []))).text;
  whole =
      sym (ap (λ (l : List Found). (answered fresh_bus l).text) (run-is-whole (cs ++ (y ∷ [])) ∙ ap lines_of (flatten-one cs y)))
      ∙ session-run h (y ∷ []);
}

-- lines of which the first are answered
front-answered : (b d : Bus) (v : List ℕ) (ls ms ns rs : List Found) → answered_of d v ≡ answered b ls → ns ≡ ls ++ ms →
    (answered b (ns ++ rs)).text ≡ v ++ (answered d (ms ++ rs)).text
front-answered b d v ls ms ns rs e f =
    ap (λ (l : List Found). (answered b l).text) (ap (λ (l : List Found). l ++ rs) f ∙ append_assoc ls ms rs)
    ∙ ap (λ (a : Answered). a.text) (answered-append b ls (ms ++ rs))
    ∙ ap (λ (a : Answered). a.text ++ (answered a.bus (ms ++ rs)).text) (sym e)

-- some calls for a chunk
part-chunk : (c x t : List ℕ) (b d : Bus) (end at : ℕ) (v : List ℕ) (ys : List (List ℕ)) → take end t ≡ c ++ x → Wrote (take end t) b 0 d at v →
    Front v (answered b (run c (x ∷ ys))).text
unfolding run
part-chunk c x t b d end at v ys e k =
    let rs = run (cap (split (c ++ x)).rest) ys in
    let ms = map found (split (drop at (take end t))).whole in
    record {
      behind = (answered d (ms ++ rs)).text;
      whole = front-answered b d v k.lines ms (map found (split (c ++ x)).whole) rs k.did (rw (← e) k.those);
    }

pub front-within : FrontWithin
unfolding answers_text
front-within cs b d c w x t v y end at h e k =
    let f = part-chunk c x t b d end at v (y ∷ []) e (serves-wrote k) in
    record {
      behind = f.behind;
      whole =
          sym (ap (λ (l : List Found). (answered fresh_bus l).text) (run-is-whole (cs ++ (x ∷ y ∷ [])) ∙ ap lines_of (flatten-two cs x y)))
          ∙ session-run h (x ∷ y ∷ [])
          ∙ ap (λ (l : List ℕ). w ++ l) f.whole
          ∙ sym (append_assoc w v f.behind);
    }

pub piece-answered : PieceAnswered
unfolding answered reply_to digits_of
piece-answered b [] = refl
piece-answered b (x ∷ c) = refl

-- no line, no text
no_text : (b : Bus) (ls : List Found) → 0 < length (answered b ls).text → 0 < length ls
unfolding answered
no_text b [] h = absurd (omega (arith, h))
no_text b (l ∷ ls) h = omega arith

pub goes_on_lem : GoesOn
goes_on_lem b c s t u from next at h k l =
    let n = no_text b h.lines (omega (arith, k.full refl, h.size)) in
    omega (arith, h.between.takes, n)

-- THE STEPS OF THE CODE

-- nothing is answered yet
pub served-none : (b : Bus) (s t : List ℕ) (from start : ℕ) → from ≤ length s → start ≤ length t → Served b s from start t b t from start
unfolding answered
served-none b s t from start h k =
    record { lines = []; between = record { within = h; takes = omega arith; lines = refl; rest = refl }; bus = refl; text = refl; size = omega arith; fits = k }

-- one line
pub served-one : (b : Bus) (s t : List ℕ) (from at : ℕ) (c : Bus) (u : List ℕ) (used next : ℕ) (l : Found) →
    Put b l t at c u next → FirstIs (drop from s) l used → 0 < used → from ≤ length s → at + longest ≤ length t → Served b s from at t c u (from + used) next
served-one b s t from at c u used next l p f g h k = record {
  lines = l ∷ [];
  between = record {
    within = let z : used ≤ length s - from = rw length-drop at f.within in omega (arith, h, z);
    takes = omega (arith, g);
    lines = f.lines ∙ ap (λ (x : List ℕ). l ∷ map found (split x).whole) (drop-drop used from s);
    rest = f.rest ∙ ap (λ (x : List ℕ). (split x).rest) (drop-drop used from s);
  };
  bus = rw (answered-one b l) p.bus;
  text = rw (answered-one b l) p.text;
  size = rw (answered-one b l) p.size;
  fits = omega (arith, p.fits, k);
}

-- what was answered, and what is answered behind it
pub served-then : (b : Bus) (s : List ℕ) (from start : ℕ) (t : List ℕ) (c : Bus) (u : List ℕ) (mid at : ℕ) (d : Bus) (v : List ℕ) (next to : ℕ) →
    Served b s from start t c u mid at → Served c s mid at u d v next to → Served b s from start t d v next to
served-then b s from start t c u mid at d v next to h k = record {
  lines = h.lines ++ k.lines;
  between = record {
    within = k.between.within;
    takes = let z : length (h.lines ++ k.lines) ≡ length h.lines + length k.lines = length-append h.lines k.lines in omega (arith, h.between.takes, k.between.takes, z);
    lines = h.between.lines ∙ ap (λ (x : List Found). h.lines ++ x) k.between.lines ∙ sym (append_assoc h.lines k.lines _);
    rest = h.between.rest ∙ k.between.rest;
  };
  bus = k.bus ∙ ap (λ (x : Bus). (answered x k.lines).bus) h.bus ∙ sym (ap (λ (a : Answered). a.bus) both);
  text = sets_then t u v start at first second h.text h.size (rw h.bus at k.text) ∙ sym (ap (λ (a : Answered). sets t start a.text) both);
  size =
      k.size ∙ ap₂ (λ (n : ℕ) (x : Bus). n + length (answered x k.lines).text) h.size h.bus
      ∙ sum ∙ sym (ap (λ (a : Answered). start + length a.text) both);
  fits = let z : length u ≡ length t = ap length h.text ∙ length-sets t start first in omega (arith, k.fits, z);
}
  where
    first : List ℕ
    first = (answered b h.lines).text

    second : List ℕ
    second = (answered (answered b h.lines).bus k.lines).text

    both : answered b (h.lines ++ k.lines) ≡ answered_of (answered (answered b h.lines).bus k.lines).bus (first ++ second)
    both = answered-append b h.lines k.lines

    sum : (start + length first) + length second ≡ start + length (first ++ second)
    sum = let z : length (first ++ second) ≡ length first + length second = length-append first second in omega (arith, z)

-- what the line that was read comes to, by how many characters it took
abbrev Took : Bus → List ℕ → ℕ → ℕ → List ℕ → Bus → List ℕ → ℕ → Option ℕ → Type 0
Took b s from at t c u next (Some n) = Served b s from at t c u (from + n) next × (from < from + n)
Took b s from at t c u next None = (c ≡ b) × (u ≡ t) × NoLf (drop from s)

took : (b : Bus) (s : List ℕ) (from at : ℕ) (t : List ℕ) (c : Bus) (u : List ℕ) (next : ℕ) (f : List ℕ) (r : LineRead) →
    Told (drop from s) f r → Fits (drop from s) r → PutRead b (frame_after (drop from s) f) r t at c u next → from ≤ length s → at + longest ≤ length t →
    Took b s from at t c u next (used_by r)
took b s from at t c u next f (Frame m n) x g p h k = (served-one b s t from at c u n next _ p x g.1 h k, omega (arith, g.1))
took b s from at t c u next f (Bad place n) x g p h k = (served-one b s t from at c u n next _ p x g.1 h k, omega (arith, g.1))
took b s from at t c u next f (Piece place) x g p h k = (p.0, p.1.0, x)

-- the line that was read
pub turned : (b : Bus) (s : List ℕ) (from at : ℕ) (t : List ℕ) (c : Bus) (u : List ℕ) (next : ℕ) (f : List ℕ) (r : LineRead) →
    Told (drop from s) f r → Fits (drop from s) r → PutRead b (frame_after (drop from s) f) r t at c u next → from ≤ length s → at + longest ≤ length t →
    TurnedBy b s from at t c u (from + taken_by r) (taken_by r) next
turned b s from at t c u next f (Frame m n) x g p h k =
    record { served = served-one b s t from at c u n next _ p x g.1 h k; goes = refl; piece = λ z. absurd (omega (arith, g.1)) }
turned b s from at t c u next f (Bad place n) x g p h k =
    record { served = served-one b s t from at c u n next _ p x g.1 h k; goes = refl; piece = λ z. absurd (omega (arith, g.1)) }
turned b s from at t c u next f (Piece place) x g p h k =
    let z : from + 0 ≡ from = omega arith in
    record {
      served = rw (z, p.0, p.1.0, p.1.1) (served-none b s t from at h (omega (arith, k)));
      goes = refl;
      piece = λ y. rw z x;
    }

-- an answer line is two digits a byte and its LF
line-length : (a : List ℕ) → length (answer_line a) ≡ 2 * length a + 1
line-length a = length-append (digits_of a) (lf ∷ []) ∙ ap (λ (n : ℕ). n + 1) (digits-length a)

-- the answer line of a frame, and of a line that is none
pub frame-put : (b : Bus) (f out t : List ℕ) (at : ℕ) (o : Outcome) (c : Bus) (v u : List ℕ) (next : ℕ) → length out ≡ answer_size → done_of o c v ≡ command_of b f out →
    u ≡ sets t at (answer_line (take o.len v)) → next ≡ at + (2 * length (take o.len v) + 1) → Put b (frame f) t at c u next
frame-put b f out t at o c v u next h e eu en =
    let q = reply-of b f out (done_of o c v) (omega (arith, h)) e in
    let a = (reply_to b (frame f)).bytes in
    let n : length a ≤ answer_size = rw q.length-is at q.fits in
    let z : next ≡ at + (2 * length a + 1) = en ∙ ap (λ (x : List ℕ). at + (2 * length x + 1)) q.bytes in
    record {
      bus = q.bus;
      text = eu ∙ ap (λ (x : List ℕ). sets t at (answer_line x)) q.bytes;
      size = z ∙ ap (λ (k : ℕ). at + k) (sym (line-length a));
      fits = omega (arith, z, n);
    }

bad-put : (b : Bus) (place : ℕ) (t : List ℕ) (at : ℕ) (u : List ℕ) (next : ℕ) → u ≡ sets t at (answer_line (22 ∷ [])) → next ≡ at + 3 → Put b (bad place) t at b u next
unfolding reply_to digits_of
bad-put b place t at u next eu en = record { bus = refl; text = eu; size = en; fits = omega (arith, en) }

-- by what was read
module _ (b : Bus) (f : List ℕ) (r : LineRead) (t : List ℕ) (at : ℕ) (c : Bus) (u : List ℕ) (next : ℕ) where
  pub put-frame : (m n : ℕ) → r ≡ Frame m n → Put b (frame (take m f)) t at c u next → PutRead b f r t at c u next
  put-frame m n e p = rw e p

  pub put-bad : (place n : ℕ) → r ≡ Bad place n → c ≡ b → u ≡ sets t at (answer_line (22 ∷ [])) → next ≡ at + 3 → PutRead b f r t at c u next
  put-bad place n e ec eu en = rw (e, ec) (bad-put b place t at u next eu en)

  pub put-piece : (place : ℕ) → r ≡ Piece place → c ≡ b → u ≡ t → next ≡ at → PutRead b f r t at c u next
  put-piece place e ec eu en = rw e (ec, (eu, en))

pub read-holds : (s : List ℕ) (r : LineRead) → r ≡ read_line s → Holds r
read-holds s r e = rw e (go (read_line s) (read_fits s))
  where
    go : (x : LineRead) → Fits s x → Holds x
    go (Frame m n) h = h.0
    go (Bad place n) h = tt
    go (Piece place) h = tt

-- the part of s from a place on, as the code lends it
part-is : (s : List ℕ) (from : ℕ) → take (length s - from) (drop from s) ≡ drop from s
part-is s from = take_all (length s - from) (drop from s) (rw length-drop (omega arith))

pub line-took : (b : Bus) (s : List ℕ) (from at : ℕ) (t : List ℕ) (c : Bus) (u f g : List ℕ) (r : LineRead) (to : ℕ) {o : Option ℕ} →
    r ≡ read_line (take (length s - from) (drop from s)) → g ≡ frame_after (take (length s - from) (drop from s)) f → PutRead b g r t at c u to → o ≡ used_by r →
    from ≤ length s → at + longest ≤ length t → Took b s from at t c u to o
line-took b s from at t c u f g r to er eg p eu h k =
    let x = drop from s in
    let z : r ≡ read_line x = er ∙ ap read_line (part-is s from) in
    let w : g ≡ frame_after x f = eg ∙ ap (λ (l : List ℕ). frame_after l f) (part-is s from) in
    rw eu
    (took b s from at t c u to f r (subst (λ (y : LineRead). Told x f y) (sym z) (read_told x f)) (subst (λ (y : LineRead). Fits x y) (sym z) (read_fits x))
    (subst (λ (l : List ℕ). PutRead b l r t at c u to) w p) h k)

-- where the line ends
pub line-ends : (s : List ℕ) (from used : ℕ) (r : LineRead) → from ≤ length s → r ≡ read_line (take (length s - from) (drop from s)) → used ≡ taken_by r → from + used ≤ length s
line-ends s from used r h er eu = rw (eu, er, part-is s from) (go (read_line (drop from s)) (read_fits (drop from s)))
  where
    go : (x : LineRead) → Fits (drop from s) x → from + taken_by x ≤ length s
    go (Frame m n) g = let z : n ≤ length s - from = rw length-drop at g.2 in omega (arith, h, z)
    go (Bad place n) g = let z : n ≤ length s - from = rw length-drop at g.2 in omega (arith, h, z)
    go (Piece place) g = omega (arith, h)

pub line-done : (b : Bus) (s : List ℕ) (from at : ℕ) (t : List ℕ) (c : Bus) (u f g : List ℕ) (r : LineRead) (used to nf nu na : ℕ) →
    r ≡ read_line (take (length s - from) (drop from s)) → g ≡ frame_after (take (length s - from) (drop from s)) f → PutRead b g r t at c u to → used ≡ taken_by r →
    nf ≡ from + used → nu ≡ used → na ≡ to → from ≤ length s → at + longest ≤ length t → TurnedBy b s from at t c u nf nu na
line-done b s from at t c u f g r used to nf nu na er eg p eu ef en ea h k =
    let x = drop from s in
    let z : r ≡ read_line x = er ∙ ap read_line (part-is s from) in
    let w : g ≡ frame_after x f = eg ∙ ap (λ (l : List ℕ). frame_after l f) (part-is s from) in
    rw (ef, en, ea, eu)
    (turned b s from at t c u to f r (subst (λ (y : LineRead). Told x f y) (sym z) (read_told x f)) (subst (λ (y : LineRead). Fits x y) (sym z) (read_fits x))
    (subst (λ (l : List ℕ). PutRead b l r t at c u to) w p) h k)

-- the first turn, a next one, and where the answering stops
pub served-start : (b : Bus) (s t : List ℕ) (from next at : ℕ) → next ≡ from → at ≡ 0 → from ≤ length s → Served b s from 0 t b t next at
served-start b s t from next at e z h = rw (e, z) (served-none b s t from 0 h (omega arith))

pub goes-true : (used at room : ℕ) → goes_on used at room ≡ true → (0 < used) × (longest ≤ room - at)
goes-true used at room h =
    let p = pick-else (eqb used 0) false true (λ z. clash (sym z)) h in
    (omega (arith, eqb-false used 0 p.0), leb-true longest (room - at) p.1)

-- what the last turn left is what the function gives back
pub stopped : (b : Bus) (s t : List ℕ) (from : ℕ) (c : Bus) (u : List ℕ) (next used at : ℕ) (go : Bool) (nf na : ℕ) (nm : Bool) → Served b s from 0 t c u next at →
    (used ≡ 0 → NoLf (drop next s)) → length u ≡ length t → go ≡ goes_on used at (length u) → go ≡ false → nf ≡ next → na ≡ at → nm ≡ ltb 0 used →
    Served b s from 0 t c u nf na × Stopped s t nf na nm
stopped b s t from c u next used at go nf na nm h p e eg z ef ea em = rw (ef, ea, em) (h, last (look (eqb used 0)))
  where
    last : Seen (eqb used 0) → Stopped s t next at (ltb 0 used)
    last (is_true y) =
        let w : used ≡ 0 = eqb-true used 0 y in
        rw w record { piece = λ x. p w; full = λ x. clash (sym x) }
    last (is_false y) =
        let n : length u - at < longest = leb-false longest (length u - at) (rw y at (sym eg ∙ z)) in
        let w : 0 < used = omega (arith, eqb-false used 0 y) in
        rw (lt-ltb 0 used w) record { piece = λ x. clash x; full = λ x. omega (arith, e, n) }

-- one call more for a chunk
pub serves_more : {s : List ℕ} {b c d : Bus} {from mid next at : ℕ} {t u w : List ℕ} → Serves s b from c mid w → Served c s mid 0 t d u next at →
    Serves s b from d next (w ++ take at u)
serves_more {s = s} {b = b} {d = d} {from = from} {next = next} {at = at} {u = u} none h =
    subst (λ (x : List ℕ). Serves s b from d next x) (append-nil (take at u)) (call h none)
serves_more {s = s} {b = b} {d = d} {from = from} {next = next} {at = at} {u = u} (call {at = to} {u = v} {w = x} g k) h =
    subst (λ (y : List ℕ). Serves s b from d next y) (sym (append_assoc (take to v) x (take at u))) (call g (serves_more k h))

-- THE STEPS OF A PROGRAM

-- a chunk that is not begun, and one call more for it
pub chunk-none : (b : Bus) (s : List ℕ) → Chunk b s b 0 false
chunk-none b s = record { written = []; serves = none; piece = λ z. clash (sym z) }

pub chunk-more : {b c d : Bus} {s t u : List ℕ} {mid next at : ℕ} {x : Bool} → Chunk b s c mid x → Served c s mid 0 t d u next at → Chunk b s d next false
chunk-more k h = record { written = _; serves = serves_more k.serves h; piece = λ z. clash (sym z) }

pub chunk-all : {b c : Bus} {s : List ℕ} {next : ℕ} {x : Bool} → Chunk b s c next x → NoLf (drop next s) → Chunk b s c next true
chunk-all k h = record { written = k.written; serves = k.serves; piece = λ z. h }

-- each call for a chunk comes nearer to its end, or is the last
pub call-less : (b c : Bus) (s t u : List ℕ) (from next at : ℕ) (x y : Bool) → Served b s from 0 t c u next at → Stopped s t next at y → longest ≤ length t → x ≡ true →
    2 * (length s - next) + bit y < 2 * (length s - from) + bit x
call-less b c s t u from next at x true h k l e = rw e (omega (arith, goes_on_lem b c s t u from next at h k l, h.between.within))
call-less b c s t u from next at x false h k l e = rw e (omega (arith, h.between.takes, h.between.within))

-- the fresh bus, and nothing read
pub underway-first : (b : Bus) (buf : List ℕ) → b ≡ fresh_bus → Underway b (take 0 buf)
underway-first b buf e = rw e record { chunks = []; written = []; session = begins }

-- a chunk of n characters read behind what is held, answered, and its piece carried over
pub underway-next : (b c : Bus) (buf got left : List ℕ) (held n at rest : ℕ) → Underway b (take held buf) → take held got ≡ take held buf →
    Chunk b (take (held + n) got) c at true → rest ≡ length (carried_of got at (held + n)) →
    left ≡ carried_of got at (held + n) ++ drop (length (carried_of got at (held + n))) got → Underway c (take rest left)
underway-next b c buf got left held n at rest u e k er el =
    let x = take n (drop held got) in
    let z : take (held + n) got ≡ take held buf ++ x = take-add held n got ∙ ap (λ (l : List ℕ). l ++ x) e in
    let y : take rest left ≡ carried_of got at (held + n) = ap (take rest) el ∙ take_at (carried_of got at (held + n)) _ rest (sym er) in
    rw y record {
      chunks = u.chunks ++ (x ∷ []);
      written = u.written ++ k.written;
      session = reads x got (held + n) at u.session z k.serves (k.piece refl);
    }
