-- The theorems that go with specs/ByOrderProof.antt and stand on others: each goes by the definitions and the theorems there.
-- Assumes nothing.
use Rattle.std.specs.Prelude.{ℕ, ◌≤◌, ◌<◌, ◌≡◌, Bool, true, not, ◌⊎◌, eqb, ltb}
use Rattle.std.proofs.Math.Path.{refl, sym, ap₂, subst}
use Rattle.std.proofs.Common.{ap, ◌∙◌, arith}
use Rattle.std.proofs.Math.Bool.{false}
use Rattle.std.proofs.Math.Logic.◌⊎◌.{inl, inr}
use mathlib.Core.List.{List, [], ◌∷◌, ◌++◌, append_assoc}
use borrow.Author.Tests.{eqb-true, eq-eqb, ne_eqb, lt-ltb, le-ltb}
use Rattle.laws.specs.Tests.{pick, Seen, Seen.is_true, Seen.is_false, look}
use Rattle.laws.specs.Weights.{load, load-append, All}
use Rattle.frames.specs.Frame.{opcode}
use Rattle.model.specs.Numbers.{invalid}
use Rattle.model.specs.Lists.{both, either}
use Rattle.model.specs.State.{Handle.none, held}
use Rattle.model.specs.Requests.{attached}
use Rattle.model.specs.Book.{Node, Fed, shown_ids, acting_peer, sizes_of}
use Rattle.model.specs.Tally.{tally}
use Rattle.model.specs.Ledger.{Item, Item.destroyed, valid_at, ledger_after, item_number}
use Rattle.model.specs.Rows.{book_of, ledger_of}
use Rattle.model.specs.Happened.{Happened, happened-front, of_cut}
use Rattle.model.specs.Shows.{Takes, AtOnePlace}
use Rattle.model.specs.Lives.{ended_in}
use Rattle.model.proofs.Lives.{made-lives}
use Rattle.model.specs.Delivered.{Sent, Delivered}
use Rattle.model.specs.Exchanges.{tally-append}
use Rattle.model.proofs.Exchanges.{ledger-tally}
use Rattle.model.proofs.HandlesIn.{nodes-in}
use Rattle.model.proofs.RowsRun.{entered-grows}
use Rattle.model.specs.Occurs.{either-false}
use Rattle.model.proofs.LedgerGone.{dead-for-good, maker-for-good, died-before, died-for-good, died-since}
use Rattle.model.proofs.LedgerLawsProof.{send-in}
use Rattle.model.specs.SeedsProof.{NotedAs}
use Rattle.model.proofs.SeedsProof.{at_all, nodes-noted}
use Rattle.model.specs.Queues.{front}
use Rattle.model.specs.Waits.{taken_in, receives_at, NewerIn}
use Rattle.model.proofs.WaitsProof.{followed-in}
use Rattle.model.specs.Waiting.{StandsIn, notice_of, notices_of}
use Rattle.model.proofs.Waiting.{waiting-in}
use Rattle.model.proofs.Noticed.{notices-tell}
use Rattle.model.specs.OneOrderIn.{FirstFrom}
use Rattle.model.proofs.OneOrderIn.{took-in-order}
use Rattle.model.specs.ByOrder.{Destruction, ShowsByOrder, Told, NoticeFollows, ToldOnce}
use Rattle.model.specs.ByOrderTold.{same-notice}
use Rattle.model.proofs.ByOrderTold.{died-by}
use Rattle.model.specs.ByOrderProof.{one-counted, not_on, nothing, unheld, counted-send, later-few}

-- The ledger of a history and of one that goes on: the number under which a node died.
died-at-most : (xs : List Fed) → Happened xs → (n : ℕ) → (ledger_of xs).died n ≤ tally xs
died-at-most xs h n =
    let a : (ledger_after h.calls).died n ≤ (ledger_after h.calls).accepted = died-before h.calls n in
    let b : (ledger_of xs).died n ≤ (ledger_of xs).accepted = rw h.same at a in
    omega (arith, b, ledger-tally xs h)

stays-died : (n : ℕ) (xs ys : List Fed) → Happened (xs ++ ys) → n < (book_of xs).entered → (ledger_of xs).lives n ≡ false → (ledger_of (xs ++ ys)).died n ≡ (ledger_of xs).died n
stays-died n = of_cut (λ us vs ws. n < (book_of us).entered → (ledger_of us).lives n ≡ false → (ledger_of ws).died n ≡ (ledger_of us).died n) (λ cs ds less d. died-for-good cs ds n less d)

stays_dead : (n : ℕ) (xs ys : List Fed) → Happened (xs ++ ys) → n < (book_of xs).entered → (ledger_of xs).lives n ≡ false → (ledger_of (xs ++ ys)).lives n ≡ false
stays_dead n = of_cut (λ us vs ws. n < (book_of us).entered → (ledger_of us).lives n ≡ false → (ledger_of ws).lives n ≡ false) (λ cs ds less d. dead-for-good cs ds n less d)

later-died : (n : ℕ) (xs ys : List Fed) → Happened (xs ++ ys) → n < (book_of xs).entered → (ledger_of xs).lives n ≡ true → (ledger_of (xs ++ ys)).lives n ≡ false →
    (ledger_of xs).accepted < (ledger_of (xs ++ ys)).died n
later-died n =
    of_cut (λ us vs ws. n < (book_of us).entered → (ledger_of us).lives n ≡ true → (ledger_of ws).lives n ≡ false → (ledger_of us).accepted < (ledger_of ws).died n)
    (λ cs ds less v d. died-since cs ds n less v d)

entered-later : (n : ℕ) (xs ys : List Fed) → Happened (xs ++ ys) → n < (book_of xs).entered → n < (book_of (xs ++ ys)).entered
entered-later n = of_cut (λ us vs ws. n < (book_of us).entered → n < (book_of ws).entered) (λ cs ds less. omega (arith, less, entered-grows cs ds))

stays-made : (n p : ℕ) (xs ys : List Fed) → Happened (xs ++ ys) → n < (book_of xs).entered → (ledger_of xs).maker n ≡ p → (ledger_of (xs ++ ys)).maker n ≡ p
stays-made n p = of_cut (λ us vs ws. n < (book_of us).entered → (ledger_of us).maker n ≡ p → (ledger_of ws).maker n ≡ p) (λ cs ds less e. maker-for-good cs ds p n less e)

-- A node that D destroyed is dead from then on, and its number is D's.
made-since : (n p : ℕ) (xs ys : List Fed) → Happened (xs ++ ys) → n < (book_of xs).entered → (ledger_of xs).maker n ≡ p →
    (ledger_of (xs ++ ys)).lives n ≡ both ((ledger_of xs).lives n) (not (ended_in xs ys p n))
made-since n p =
    of_cut (λ us vs ws. n < (book_of us).entered → (ledger_of us).maker n ≡ p → (ledger_of ws).lives n ≡ both ((ledger_of us).lives n) (not (ended_in us vs p n)))
    (λ cs ds less e. made-lives cs ds p n (record { entered = less; maker = e }))

module _ (xs : List Fed) (h : Happened xs) (k : ℕ) (n : Node) (d : Destruction xs k n) (made : (ledger_of xs).maker n.number ≡ n.owner) where
  whole : Happened (d.before ++ (d.destroy ∷ d.after))
  whole = subst Happened d.place h

  first-cut : Happened ((d.before ++ (d.destroy ∷ [])) ++ d.after)
  first-cut = subst Happened (sym (append_assoc d.before (d.destroy ∷ []) d.after)) whole

  just : Happened (d.before ++ (d.destroy ∷ []))
  just = happened-front (d.before ++ (d.destroy ∷ [])) d.after first-cut

  was-entered : n.number < (book_of d.before).entered
  was-entered = (nodes-in d.before (happened-front d.before (d.destroy ∷ d.after) whole)).living-entered n.number d.lived

  was-made : (ledger_of d.before).maker n.number ≡ n.owner
  was-made =
      sym (stays-made n.number ((ledger_of d.before).maker n.number) d.before (d.destroy ∷ d.after) whole was-entered refl)
      ∙ ap (λ (z : List Fed). (ledger_of z).maker n.number) (sym d.place)
      ∙ made

  dead-then : (ledger_of (d.before ++ (d.destroy ∷ []))).lives n.number ≡ false
  dead-then =
      made-since n.number n.owner d.before (d.destroy ∷ []) just was-entered was-made
      ∙ ap₂ (λ (t u : Bool). both t (not (either u false))) d.lived d.ends

  died-then : (ledger_of (d.before ++ (d.destroy ∷ []))).died n.number ≡ k
  died-then =
      omega (
        arith,
        later-died n.number d.before (d.destroy ∷ []) just was-entered d.lived dead-then,
        ledger-tally d.before (happened-front d.before (d.destroy ∷ d.after) whole),
        died-at-most (d.before ++ (d.destroy ∷ [])) just n.number,
        tally-append d.before (d.destroy ∷ []),
        one-counted d.destroy,
        d.number,
      )

  dead-now : ((ledger_of xs).lives n.number ≡ false) × ((ledger_of xs).died n.number ≡ k)
  dead-now =
      let e : xs ≡ (d.before ++ (d.destroy ∷ [])) ++ d.after = d.place ∙ sym (append_assoc d.before (d.destroy ∷ []) d.after) in
      let less = entered-later n.number d.before (d.destroy ∷ []) just was-entered in (
        ap (λ (z : List Fed). (ledger_of z).lives n.number) e ∙ stays_dead n.number (d.before ++ (d.destroy ∷ [])) d.after first-cut less dead-then,
        ap (λ (z : List Fed). (ledger_of z).died n.number) e ∙ stays-died n.number (d.before ++ (d.destroy ∷ [])) d.after first-cut less dead-then ∙ died-then,
      )

-- (a)
module _ (xs ys : List Fed) (x : Fed) (h : Happened (xs ++ (x ∷ ys))) (d : Delivered xs x) where
  abbrev p : ℕ
  p = acting_peer x.frame

  abbrev s : Sent xs d.number d.letter
  s = d.sent

  abbrev sender : ℕ
  sender = acting_peer d.sent.send.frame

  here : Happened xs
  here = happened-front xs (x ∷ ys) h

  cut : Happened (s.before ++ (s.send ∷ s.after))
  cut = subst Happened s.place here

  then : Happened s.before
  then = happened-front s.before (s.send ∷ s.after) cut

  with-send : Happened ((s.before ++ (s.send ∷ [])) ++ s.after)
  with-send = subst Happened (sym (append_assoc s.before (s.send ∷ []) s.after)) cut

  seven : opcode s.send.frame ≡ 7
  seven = eqb-true (opcode s.send.frame) 7 s.sends

  after-send : (ledger_of (s.before ++ (s.send ∷ []))).accepted ≡ d.number
  after-send =
      let c = counted-send s.send s.accepted seven in
      omega (arith, ledger-tally (s.before ++ (s.send ∷ [])) (happened-front (s.before ++ (s.send ∷ [])) s.after with-send), tally-append s.before (s.send ∷ []), c, s.number)

  same-lives : (ledger_of (s.before ++ (s.send ∷ []))).lives ≡ (ledger_of s.before).lives
  same-lives =
      (send-in s.before s.send (happened-front (s.before ++ (s.send ∷ [])) s.after with-send) sender (record { number = s.accepted; byte = seven; peer = refl })).lives

  module _ (i : ℕ) (n : Node) (a : AtOnePlace i n (shown_ids x.answer) d.letter.carried) where
    abbrev N : ℕ
    N = n.number

    abbrev lived : Bool
    lived = (ledger_of d.sent.before).lives n.number

    noted-then : NotedAs (book_of s.before) sender n
    noted-then =
        at_all (NotedAs (book_of s.before) sender) i n (shown_ids x.answer) d.letter.carried a
        (subst (All (NotedAs (book_of s.before) sender)) (sym s.carried) (nodes-noted (book_of s.before) sender (attached s.send.frame (sizes_of s.send.frame))))

    entered : N < (book_of s.before).entered
    entered = let t = noted-then in (nodes-in s.before then).entered sender t.0 n t.1 t.2

    made : (ledger_of xs).maker N ≡ n.owner
    made =
        let t = noted-then in
        ap (λ (z : List Fed). (ledger_of z).maker N) s.place
        ∙ stays-made N n.owner s.before (s.send ∷ s.after) cut entered ((nodes-in s.before then).makers sender t.0 n t.1 t.2)

    -- D before S.
    died-first : lived ≡ false → (ledger_of xs).died N < d.number
    died-first z =
        let e : (ledger_of xs).died N ≡ (ledger_of s.before).died N =
        ap (λ (y : List Fed). (ledger_of y).died N) s.place ∙ stays-died N s.before (s.send ∷ s.after) cut entered z in
        omega (arith, e, died-at-most s.before then N, s.number)

    -- D after S.
    died-later : lived ≡ true → (ledger_of xs).lives N ≡ false → d.number < (ledger_of xs).died N
    died-later z v =
        let whole : xs ≡ (s.before ++ (s.send ∷ [])) ++ s.after = s.place ∙ sym (append_assoc s.before (s.send ∷ []) s.after) in
        let less =
        later-died N (s.before ++ (s.send ∷ [])) s.after with-send
        (entered-later N s.before (s.send ∷ []) (happened-front (s.before ++ (s.send ∷ [])) s.after with-send) entered)
        (ap (λ (y : ℕ → Bool). y N) same-lives ∙ z)
        (ap (λ (y : List Fed). (ledger_of y).lives N) (sym whole) ∙ v) in
        omega (arith, less, after-send, ap (λ (y : List Fed). (ledger_of y).died N) whole)

    off-before : (k : ℕ) → Destruction xs k n → k < d.number → valid_at (ledger_of xs) p d.number N ≡ false
    unfolding valid_at
    off-before k z less =
        let y = dead-now xs here k n z made in
        rw (y.0, le-ltb d.number ((ledger_of xs).died N) (omega (arith, y.1, less))) refl

    off-own : (k : ℕ) → Destruction xs k n → n.owner ≡ p → (ledger_of xs).handle p N ≡ none → valid_at (ledger_of xs) p d.number N ≡ false
    unfolding valid_at
    off-own k z o e = rw ((dead-now xs here k n z made).0, made ∙ o, eq-eqb p p refl, e) (nothing (ltb d.number ((ledger_of xs).died N)))

    off-only : valid_at (ledger_of xs) p d.number N ≡ false →
        (k : ℕ) × Destruction xs k n × ((k < d.number) ⊎ ((d.number < k) × (n.owner ≡ p) × ((ledger_of xs).handle p N ≡ none)))
    unfolding valid_at
    off-only v =
        let dead = either-false ((ledger_of xs).lives N) _ v in
        let old : N < (book_of xs).entered =
        subst (λ (z : List Fed). N < (book_of z).entered) (sym s.place) (entered-later N s.before (s.send ∷ s.after) cut entered) in
        ((ledger_of xs).died N, died-by xs here n old made dead.0, go (look lived) dead.0 dead.1)
      where
        go : Seen lived → (ledger_of xs).lives N ≡ false → both (ltb d.number ((ledger_of xs).died N)) (either (not (eqb ((ledger_of xs).maker N) p)) (held ((ledger_of xs).handle p N))) ≡ false →
            ((ledger_of xs).died N < d.number) ⊎ ((d.number < (ledger_of xs).died N) × (n.owner ≡ p) × ((ledger_of xs).handle p N ≡ none))
        go (is_false z) l w = inl (died-first z)
        go (is_true z) l w =
            let less = died-later z l in
            let y : either (not (eqb ((ledger_of xs).maker N) p)) (held ((ledger_of xs).handle p N)) ≡ false = rw (lt-ltb d.number ((ledger_of xs).died N) less) at w in
            let u = either-false (not (eqb ((ledger_of xs).maker N) p)) (held ((ledger_of xs).handle p N)) y in
            inr (less, sym made ∙ eqb-true ((ledger_of xs).maker N) p (not_on (eqb ((ledger_of xs).maker N) p) u.0), unheld ((ledger_of xs).handle p N) u.1)

    is-valid : (i ≡ invalid → ⊥) → valid_at (ledger_of xs) p d.number N ≡ true
    is-valid v = go (look (valid_at (ledger_of xs) p d.number N))
      where
        go : Seen (valid_at (ledger_of xs) p d.number N) → valid_at (ledger_of xs) p d.number N ≡ true
        go (is_true z) = z
        go (is_false z) = absurd (v (d.ids.destroyed-invalid i n a z))

pub shows-by-order : ShowsByOrder
shows-by-order xs ys x h d =
    record {
      before = λ i n a k z less. d.ids.destroyed-invalid i n a (off-before xs ys x h d i n a k z less);
      own-gone = λ i n a k z less o e. d.ids.destroyed-invalid i n a (off-own xs ys x h d i n a k z o e);
      all_ones = λ i n a z. off-only xs ys x h d i n a (d.ids.invalid-destroyed i n a z);
      existing = λ i n a v j c e. d.ids.existing i n a (is-valid xs ys x h d i n a v) j c e;
      new = λ i n a v e. d.ids.new i n a (is-valid xs ys x h d i n a v) e;
    }

-- (b)
pub notice-follows : NoticeFollows
notice-follows xs ys zs x z h p k j n m t u =
    took-in-order xs ys zs x z h p k j
    (record { number = t.takes.number; byte = t.takes.byte; peer = t.takes.peer; first = subst (FirstFrom k) (sym t.first) refl })
    (record { number = u.takes.number; byte = u.takes.byte; peer = u.takes.peer; first = subst (FirstFrom j) (sym u.first) refl })

-- (d) The notices of the node N that the command k queued.
abbrev old_notice : ℕ → ℕ → Item → Bool
old_notice N k e = both (eqb (item_number e) k) (notice_of N e)

old-few : (N k : ℕ) (q : List Item) → load (old_notice N k) (λ e. 1) q ≤ notices_of N q
old-few N k [] = omega arith
old-few N k (e ∷ q) = go (look (eqb (item_number e) k)) (look (notice_of N e)) (old-few N k q)
  where
    go : Seen (eqb (item_number e) k) → Seen (notice_of N e) → load (old_notice N k) (λ e. 1) q ≤ notices_of N q → load (old_notice N k) (λ e. 1) (e ∷ q) ≤ notices_of N (e ∷ q)
    go (is_true z) (is_true y) ih = rw (z, y) (omega (arith, ih))
    go (is_true z) (is_false y) ih = rw (z, y) (omega (arith, ih))
    go (is_false z) (is_true y) ih = rw (z, y) (omega (arith, ih))
    go (is_false z) (is_false y) ih = rw (z, y) (omega (arith, ih))

receives-first : {p kind : ℕ} (x : Fed) → Takes p kind x → receives_at p x ≡ true
receives-first {p} x t = rw (t.number, t.byte, t.peer) (eq-eqb p p refl)

one-old : (N k : ℕ) (e : Item) (q r : List Item) → old_notice N k e ≡ true → r ≡ e ∷ q → 1 ≤ load (old_notice N k) (λ e. 1) r
one-old N k e q r t z = rw (z, t) (omega arith)

module _ (xs ys zs : List Fed) (x z : Fed) (h : Happened ((xs ++ (x ∷ ys)) ++ (z ∷ zs))) (p k j : ℕ) (n m : Node) (t : Told xs x p k n) (u : Told (xs ++ (x ∷ ys)) z p j m)
    (e : n.number ≡ m.number) where
  abbrev mid : List Fed
  mid = xs ++ (x ∷ ys)

  all : Happened (xs ++ (x ∷ ys))
  all = happened-front (xs ++ (x ∷ ys)) (z ∷ zs) h

  from : Happened xs
  from = happened-front xs (x ∷ ys) all

  first-stands : StandsIn (ledger_of xs) p (destroyed k n)
  first-stands = (subst (All (StandsIn (ledger_of xs) p)) t.first (waiting-in xs from p).stands).0

  second-stands : StandsIn (ledger_of mid) p (destroyed j m)
  second-stands = (subst (All (StandsIn (ledger_of mid) p)) u.first (waiting-in mid all p).stands).0

  -- the notice shown is of an entered node
  notice-entered : n.number < (book_of xs).entered
  notice-entered =
      let w = (notices-tell xs ys x all t.takes.number t.takes.byte).destruction t.takes.says in
      let same : w.notice.node ≡ n = same-notice _ _ _ _ _ _ (sym w.notice.first ∙ ap (ledger_of xs).queue t.takes.peer ∙ t.first) in
      let less = (nodes-in xs from).entered (acting_peer x.frame) _ w.notice.node w.notice.count w.notice.named in
      subst (λ (v : Node). v.number < (book_of xs).entered) same less

  one-date : j ≡ k
  one-date =
      sym second-stands.1
      ∙ ap (ledger_of mid).died (sym e)
      ∙ stays-died n.number xs (x ∷ ys) all notice-entered first-stands.0
      ∙ first-stands.1

  taken-first : taken_in xs (x ∷ ys) p ≡ destroyed k n ∷ taken_in (xs ++ (x ∷ [])) ys p
  unfolding taken_in
  taken-first = ap₂ (λ (v : Bool) (q : List Item). pick v (front q) [] ++ taken_in (xs ++ (x ∷ [])) ys p) (receives-first x t.takes) t.first

  old-first : old_notice n.number k (destroyed k n) ≡ true
  old-first = rw (eq-eqb k k refl) (eq-eqb n.number n.number refl)

  old-second : old_notice n.number k (destroyed j m) ≡ true
  old-second = rw (eq-eqb j k one-date) (eq-eqb m.number n.number (sym e))

  newer : (d : Item) → NewerIn xs d → old_notice n.number k d ≡ false
  newer d l = rw (ne_eqb (item_number d) k (λ y. absurd (omega (arith, l, y, first-stands.1, died-at-most xs from n.number)))) refl

  never-twice : ⊥
  never-twice =
      let few = later-few (old_notice n.number k) newer (followed-in xs (x ∷ ys) all p) in
      let a = one-old n.number k (destroyed k n) _ (taken_in xs (x ∷ ys) p) old-first taken-first in
      let b = one-old n.number k (destroyed j m) _ ((ledger_of mid).queue p) old-second u.first in
      let c = load-append (old_notice n.number k) (λ d. 1) (taken_in xs (x ∷ ys) p) ((ledger_of mid).queue p) in
      omega (arith, few, a, b, c, old-few n.number k ((ledger_of xs).queue p), (waiting-in xs from p).once n.number)

pub told-once : ToldOnce
told-once xs ys zs x z h p k j n m t u e = never-twice xs ys zs x z h p k j n m t u e
