-- The laws that the functions' proofs cite, one for each return or turn of a loop, over plain variables: each is shaped like what the callee ensures.
-- Assumes nothing.
use Prim.Native.Nat.{ℕ, zero, suc, ◌+◌, ◌-◌, ◌*◌, min, ◌≤◌, ◌<◌}
use Rattle.std.specs.Prelude.{◌≡◌, Bool, List, [], ◌∷◌, length, get_or, take, drop, eqb, ◌||◌, not}
use Rattle.std.proofs.Math.Path.{refl, sym, ap}
use Rattle.std.proofs.Common.{◌∙◌, arith, drop_of_length-le, drop-cons, get_or-take, length-take-le, length-drop, get_or-drop, ext_get_or}
use Rattle.std.proofs.Math.Bool.{true, false}
use borrow.Author.Tests.{eq-eqb, ne_eqb, lt-ltb, le-ltb, le-leb, lt-leb}
use Rattle.std.specs.List.{list_any}
use Rattle.laws.specs.Tests.{pick, Same, Same.same, Same.other, same?}
use Rattle.laws.specs.Stores.{take_min}
use Rattle.laws.specs.Rows.{row_in, row-length, row5}
use Rattle.quota.specs.declared.Charge.{Charge}
use Rattle.quota.specs.declared.Charges.{Charges}
use Rattle.quota.specs.Charges.{fresh_charges, charged, discharged}
use Rattle.rings.specs.declared.Entry.{Entry}
use Rattle.rings.specs.declared.Match.{Match}
use Rattle.rings.specs.Rings.{peers, ring_size, row_count, carried_size, Rings, rings_of, rows_of, head_of, length_of, row_of, entry_at, queue_of, matches, pushed, removed, kind_destroyed, kind_released}
use Rattle.rings.specs.Laws.{row_at, queue-empty, queue-length, queue-at}
use Rattle.pool.specs.Pool.{Kept, kept, appended, closed, kept_pieces}
use Rattle.tables.specs.Charges.{charges_at, put_charges}
use Rattle.model.specs.Lists.{either, any, any_below}
use Rattle.queues.specs.Queues.{Queues, used_of, message_kind, is_message, charge_in, entered, enqueued, settled_charges, settled_pool, lessened, lessened_all, lessened_charges, withdrawn, removed_from, emptied_charges, leads, follows_in, names_in, attached_of, carries_in, named_in, brings_in, carried_before}
use Rattle.ids.specs.Sizes.{entry_fields, carried_fields}

-- is_message_kind, is_message
module _ (k : ℕ) where
  pub message-destroyed : k ≡ kind_destroyed → false ≡ message_kind k
  message-destroyed h = rw (eq-eqb k kind_destroyed h)

  pub message-else : (k ≡ kind_destroyed → ⊥) → not (eqb k kind_released) ≡ message_kind k
  message-else h = rw (ne_eqb k kind_destroyed h)

pub message-entry : (e : Entry) {b : Bool} → b ≡ message_kind e.kind → b ≡ is_message e
unfolding is_message
message-entry e h = h

-- enter, withdraw
module _ (r : Rings) (p : ℕ) {n : ℕ} (l : n ≡ length_of r.ends p) where
  pub enter-room : (e : Entry) {x : Rings} → n < ring_size → x ≡ pushed r p e → x ≡ entered r p e
  unfolding entered
  enter-room e h f = rw (← l, lt-ltb n ring_size h) f

  pub enter-full : (e : Entry) → ring_size ≤ n → r ≡ entered r p e
  unfolding entered
  enter-full e h = rw (← l, le-ltb n ring_size h)

  pub withdraw-some : (m : Match) {x : Rings} → n ≤ ring_size → x ≡ removed r p m → x ≡ withdrawn r p m
  unfolding withdrawn
  withdraw-some m h f = rw (← l, le-leb n ring_size h) f

  pub withdraw-none : (m : Match) → ring_size < n → r ≡ withdrawn r p m
  unfolding withdrawn
  withdraw-none m h = rw (← l, lt-leb n ring_size h)

-- enqueue, settle
module _ (t : List ℕ) (p : ℕ) (e : Entry) {c : Charges} (ec : c ≡ charges_at t p) {u : ℕ} (eu : u ≡ used_of c) {w : ℕ} (ew : w ≡ e.user) {a : Charge} (ea : a ≡ charge_in e) where
  pub enqueue-done : (r : Rings) (pool bytes : List ℕ) {pool' : List ℕ} → pool' ≡ appended pool p u bytes → {r' : Rings} → r' ≡ entered r p e →
      {d : Charges} → d ≡ charged c (record { 0 = w }) a → {t' : List ℕ} → t' ≡ put_charges t p d →
      ◌≡◌ {A = Queues} (record { charges = t'; rings = r'; pool = pool' }) (enqueued (record { charges = t; rings = r; pool = pool }) p e bytes)
  unfolding enqueued
  enqueue-done r pool bytes ep er ed et = rw (et, er, ep, ed, eu, ew, ea, ec)

  pub settle-charges : {d : Charges} → d ≡ discharged c (record { 0 = w }) a → {t' : List ℕ} → t' ≡ put_charges t p d → t' ≡ settled_charges t p e
  unfolding settled_charges
  settle-charges ed et = rw (et, ed, ew, ea, ec)

module _ (t pool : List ℕ) (p : ℕ) (e : Entry) {c : Charges} (ec : c ≡ charges_at t p) {u : ℕ} (eu : u ≡ used_of c) {b : ℕ} (eb : b ≡ e.nb) {n : ℕ} (en : n ≡ min b u) where
  pub settle-pool : {pool' : List ℕ} → pool' ≡ closed pool p 0 n u → pool' ≡ settled_pool t pool p e
  unfolding settled_pool
  settle-pool ep = rw (ep, en, eb, eu, ec)

-- lessen
module _ (c : Charges) (m : Match) (e : Entry) {b : Bool} (eb : b ≡ is_message e) where
  pub lessen-notice : b ≡ false → c ≡ lessened c m e
  unfolding lessened
  lessen-notice f = rw (← eb, f)

  module _ (t : b ≡ true) {x : Bool} (ex : x ≡ matches m e) where
    pub lessen-kept : x ≡ false → c ≡ lessened c m e
    unfolding lessened
    lessen-kept f = rw (← eb, t, ← ex, f)

    pub lessen-out : x ≡ true → {w : ℕ} → w ≡ e.user → {a : Charge} → a ≡ charge_in e → {d : Charges} → d ≡ discharged c (record { 0 = w }) a → d ≡ lessened c m e
    unfolding lessened
    lessen-out f ew ea ed = rw (← eb, t, ← ex, f, ed, ew, ea)

-- The i-th entry of a queue is the first of those from the place i on; from its length on there is none.
module _ (g : Rings) (p i : ℕ) {n : ℕ} (en : n ≡ length_of g.ends p) where
  queue-end : n ≤ i → drop i (queue_of g p) ≡ []
  queue-end h = drop_of_length-le (queue_of g p) {i = i} (omega (arith, queue-length g p))

  module _ (lt : i < n) {h : ℕ} (eh : h ≡ head_of g.ends p) {row : ℕ} (er : row ≡ row_of p h i) {e : Entry} (ee : e ≡ entry_at g.rows row) where
    queue-next : drop i (queue_of g p) ≡ e ∷ drop (i + 1) (queue_of g p)
    queue-next =
        let here : get_or (queue_of g p) i e ≡ e = queue-at g p i e (omega arith) ∙ ap (entry_at g.rows) (sym (er ∙ ap (λ (y : ℕ). row_of p y i) eh)) ∙ sym ee in
        let step : i + 1 ≡ suc i = omega arith in
        rw step (drop-cons (queue_of g p) i e (omega (arith, queue-length g p)) ∙ ap (λ (x : Entry). x ∷ drop (suc i) (queue_of g p)) here)

-- lessen_all: the charges so far, lessened by what is left, are those of the whole.
pub record Lessening (c : Charges) (m : Match) (g : Rings) (p : ℕ) (d : Charges) (i : ℕ) : Type 0 where
  pub rest : lessened_all d m (drop i (queue_of g p)) ≡ lessened_all c m (queue_of g p)

pub lessening-start : (c : Charges) (m : Match) (g : Rings) (p : ℕ) → Lessening c m g p c 0
lessening-start c m g p = record { rest = refl }

module _ {c : Charges} {m : Match} {g : Rings} {p : ℕ} {d : Charges} {i : ℕ} (v : Lessening c m g p d i) {n : ℕ} (en : n ≡ length_of g.ends p) where
  pub lessening-next : i < n → {h : ℕ} → h ≡ head_of g.ends p → {row : ℕ} → row ≡ row_of p h i → {e : Entry} → e ≡ entry_at g.rows row →
      {d' : Charges} → d' ≡ lessened d m e → Lessening c m g p d' (i + 1)
  unfolding lessened_all
  lessening-next lt eh er ee ed =
      record { rest = ap (λ (x : Charges). lessened_all x m (drop (i + 1) (queue_of g p))) ed ∙ ap (lessened_all d m) (sym (queue-next g p i en lt eh er ee)) ∙ v.rest }

  pub lessening-done : n ≤ i → d ≡ lessened_all c m (queue_of g p)
  unfolding lessened_all
  lessening-done h = ap (lessened_all d m) (sym (queue-end g p i en h)) ∙ v.rest

-- remove_messages
pub messages-done : (t pool : List ℕ) (p : ℕ) (m : Match) (es : List Entry) {c : Charges} → c ≡ charges_at t p → {d : Charges} → d ≡ lessened_all c m es →
    {t' : List ℕ} → t' ≡ put_charges t p d → {k : ℕ} {pool' : List ℕ} → kept k pool' ≡ kept_pieces pool p 0 0 m es → (t' ≡ lessened_charges t p m es) × (pool' ≡ (kept_pieces pool p 0 0 m es).table)
messages-done t pool p m es ec ed et ep = (rw (et, ed, ec), ap (λ (x : Kept). x.table) ep)

-- remove
module _ (q : Queues) (p : ℕ) (m : Match) {n : ℕ} (l : n ≡ length_of q.rings.ends p) where
  pub remove-long : ring_size < n → q ≡ removed_from q p m
  unfolding removed_from
  remove-long h = rw (← l, lt-leb n ring_size h)

  pub remove-done : n ≤ ring_size → {t' pool' : List ℕ} →
      (t' ≡ lessened_charges q.charges p m (queue_of q.rings p)) × (pool' ≡ (kept_pieces q.pool p 0 0 m (queue_of q.rings p)).table) →
      {r' : Rings} → r' ≡ removed q.rings p m → ◌≡◌ {A = Queues} (record { charges = t'; rings = r'; pool = pool' }) (removed_from q p m)
  unfolding removed_from
  remove-done h both er = rw (← l, le-leb n ring_size h, both.0, both.1, er)

-- empty
pub empty-charges : (t : List ℕ) (p : ℕ) {c : Charges} → c ≡ fresh_charges → {t' : List ℕ} → t' ≡ put_charges t p c → t' ≡ emptied_charges t p
unfolding emptied_charges
empty-charges t p ec et = rw (et, ec)

-- follows: what is left leads as all behind the oldest entry.
module _ (n : ℕ) (e : Entry) (es : List Entry) where
  leads-other : (e.number ≡ n → ⊥) → leads n (e ∷ es) ≡ false
  unfolding leads
  leads-other ne = rw (ne_eqb e.number n ne)

  leads-found : e.number ≡ n → is_message e ≡ true → leads n (e ∷ es) ≡ true
  unfolding leads
  leads-found eq t = rw (eq-eqb e.number n eq, t)

  leads-next : e.number ≡ n → is_message e ≡ false → leads n (e ∷ es) ≡ leads n es
  unfolding leads
  leads-next eq f = rw (eq-eqb e.number n eq, f)

pub record Following (g : Rings) (p n i : ℕ) : Type 0 where
  pub rest : leads n (drop i (queue_of g p)) ≡ follows_in g p n

pub following-start : (g : Rings) (p n : ℕ) → Following g p n 1
unfolding follows_in
following-start g p n = record { rest = refl }

module _ {g : Rings} {p n i : ℕ} (v : Following g p n i) {l : ℕ} (el : l ≡ length_of g.ends p) where
  pub following-end : l ≤ i → false ≡ follows_in g p n
  unfolding leads
  following-end h = ap (leads n) (sym (queue-end g p i el h)) ∙ v.rest

  module _ (lt : i < l) {h : ℕ} (eh : h ≡ head_of g.ends p) {row : ℕ} (er : row ≡ row_of p h i) {e : Entry} (ee : e ≡ entry_at g.rows row) where
    following-here : leads n (e ∷ drop (i + 1) (queue_of g p)) ≡ follows_in g p n
    following-here = ap (leads n) (sym (queue-next g p i el lt eh er ee)) ∙ v.rest

    pub following-other : (e.number ≡ n → ⊥) → false ≡ follows_in g p n
    following-other ne = sym (leads-other n e (drop (i + 1) (queue_of g p)) ne) ∙ following-here

    module _ (eq : e.number ≡ n) {b : Bool} (eb : b ≡ is_message e) where
      pub following-found : b ≡ true → true ≡ follows_in g p n
      following-found t = sym (leads-found n e (drop (i + 1) (queue_of g p)) eq (sym eb ∙ t)) ∙ following-here

      pub following-next : b ≡ false → Following g p n (i + 1)
      following-next f = record { rest = sym (leads-next n e (drop (i + 1) (queue_of g p)) eq (sym eb ∙ f)) ∙ following-here }

-- A test of the elements of a list: what is left has one that passes where the whole has.
module _ {A : Type 0} (t : A → Bool) (x : A) (xs : List A) where
  any_here : t x ≡ true → any t (x ∷ xs) ≡ true
  any_here h = rw h

  any_next : t x ≡ false → any t (x ∷ xs) ≡ any t xs
  any_next h = rw h

-- is_among, slot by slot
pub record Among (c : List ℕ) (row n s k : ℕ) : Type 0 where
  pub rest : any (eqb s) (drop k (take n (row_in carried_fields c row))) ≡ any (eqb s) (take n (row_in carried_fields c row))

pub among-start : (c : List ℕ) (row n s : ℕ) → Among c row n s 0
among-start c row n s = record { rest = refl }

module _ {c : List ℕ} {row n s k : ℕ} (v : Among c row n s k) (fit : n ≤ 8) where
  among-size : length (take n (row_in carried_fields c row)) ≡ n
  among-size = length-take-le n (row_in carried_fields c row) (omega (arith, row-length 8 c row))

  pub among-end : n ≤ k → false ≡ any (eqb s) (take n (row_in carried_fields c row))
  among-end h = ap (any (eqb s)) (sym (drop_of_length-le (take n (row_in carried_fields c row)) {i = k} (omega (arith, among-size)))) ∙ v.rest

  module _ (lt : k < n) {b : ℕ} (eb : b ≡ get_or c (carried_fields * row + k) 0) where
    among-here : any (eqb s) (b ∷ drop (k + 1) (take n (row_in carried_fields c row))) ≡ any (eqb s) (take n (row_in carried_fields c row))
    among-here =
        let here : get_or (take n (row_in carried_fields c row)) k 0 ≡ b = get_or-take n (row_in carried_fields c row) k 0 lt ∙ row_at 8 c row k (omega arith) ∙ sym eb in
        let step : suc k ≡ k + 1 = omega arith in
        let next : drop k (take n (row_in carried_fields c row)) ≡ b ∷ drop (k + 1) (take n (row_in carried_fields c row)) = drop-cons (take n (row_in carried_fields c row)) k 0 (omega (arith, among-size)) ∙ ap (λ (x : ℕ). x ∷ drop (suc k) (take n (row_in carried_fields c row))) here
        ∙ ap (λ (x : ℕ). b ∷ drop x (take n (row_in carried_fields c row))) step in
        ap (any (eqb s)) (sym next) ∙ v.rest

    pub among-found : b ≡ s → true ≡ any (eqb s) (take n (row_in carried_fields c row))
    among-found e = sym (any_here (eqb s) b (drop (k + 1) (take n (row_in carried_fields c row))) (eq-eqb s b (sym e))) ∙ among-here

    pub among_next : (b ≡ s → ⊥) → Among c row n s (k + 1)
    among_next ne = record { rest = sym (any_next (eqb s) b (drop (k + 1) (take n (row_in carried_fields c row))) (ne_eqb s b (λ x. ne (sym x)))) ∙ among-here }

-- is_among: the first n slots of a row stand side by side in the table.
list-any : {A : Type 0} (t : A → Bool) (xs : List A) → list_any t xs ≡ any t xs
list-any t [] = refl
list-any t (x ∷ xs) = go (t x) (list-any t xs)
  where
    go : (b : Bool) → list_any t xs ≡ any t xs → (b || list_any t xs) ≡ either b (any t xs)
    go true ih = refl
    go false ih = ih

among-row : (c : List ℕ) (row n : ℕ) → length c ≡ carried_size → row < row_count → n ≤ carried_fields → take n (drop (carried_fields * row) c) ≡ take n (row_in carried_fields c row)
among-row c row n size l few =
    let s : length (drop (carried_fields * row) c) ≡ length c - carried_fields * row = length-drop (carried_fields * row) c in
    let x : length (take n (drop (carried_fields * row) c)) ≡ n = length-take-le n (drop (carried_fields * row) c) (omega (arith, s, size)) in
    let y : length (take n (row_in carried_fields c row)) ≡ n = length-take-le n (row_in carried_fields c row) (omega (arith, row-length 8 c row)) in
    ext_get_or 0 (take n (drop (carried_fields * row) c)) (take n (row_in carried_fields c row)) (x ∙ sym y)
    (λ k lt. let m : k < n = omega (arith, x, lt) in
    get_or-take n (drop (carried_fields * row) c) k 0 m ∙ get_or-drop (carried_fields * row) c k 0 ∙ sym (get_or-take n (row_in carried_fields c row) k 0 m ∙ row_at 8 c row k (omega (arith, m, few))))

pub among-slice : (c : List ℕ) (row n s : ℕ) → length c ≡ carried_size → row < row_count → n ≤ carried_fields →
    list_any (eqb s) (take (carried_fields * row + n - carried_fields * row) (drop (carried_fields * row) c)) ≡ any (eqb s) (take n (row_in carried_fields c row))
among-slice c row n s size l few =
    let z : carried_fields * row + n - carried_fields * row ≡ n = omega arith in
    rw z (list-any (eqb s) (take n (drop (carried_fields * row) c)) ∙ ap (any (eqb s)) (among-row c row n size l few))

-- names
module _ (s : ℕ) (e c : List ℕ) (row : ℕ) {b : Bool} (eb : b ≡ message_kind (get_or e (entry_fields * row) 0)) where
  pub names-notice : b ≡ false → (n : List ℕ) → false ≡ names_in s (entry_at (rows_of e c n) row)
  unfolding names_in is_message entry_at
  names-notice f n = rw (row5, ← eb, f)

  module _ (t : b ≡ true) {w : ℕ} (ew : w ≡ get_or e (entry_fields * row + 1) 0) where
    pub names-slot : w ≡ s → (n : List ℕ) → true ≡ names_in s (entry_at (rows_of e c n) row)
    unfolding names_in is_message entry_at
    names-slot h n = rw (row5, ← eb, t, eq-eqb s (get_or e (entry_fields * row + 1) 0) (sym h ∙ ew))

    pub names-attached : (w ≡ s → ⊥) → {x : ℕ} → x ≡ get_or e (entry_fields * row + 4) 0 → {k : ℕ} → k ≡ min x 8 → {r : Bool} → r ≡ any (eqb s) (take k (row_in carried_fields c row)) →
        (n : List ℕ) → r ≡ names_in s (entry_at (rows_of e c n) row)
    unfolding names_in is_message entry_at
    names-attached ne ex {k} ek er n =
        let few : k ≡ min (length (row_in carried_fields c row)) (get_or e (entry_fields * row + 4) 0) = omega (arith, row-length 8 c row) in
        rw (row5, ← eb, t, ne_eqb s (get_or e (entry_fields * row + 1) 0) (λ h. ne (ew ∙ sym h)), ← take_min (get_or e (entry_fields * row + 4) 0) (row_in carried_fields c row))
        (er ∙ ap (λ (y : ℕ). any (eqb s) (take y (row_in carried_fields c row))) few)

-- named_at
pub record Naming (g : Rings) (p s i : ℕ) : Type 0 where
  pub rest : any (names_in s) (drop i (queue_of g p)) ≡ any (names_in s) (queue_of g p)

pub naming-start : (g : Rings) (p s : ℕ) → Naming g p s 0
naming-start g p s = record { rest = refl }

module _ {g : Rings} {p s i : ℕ} (v : Naming g p s i) {l : ℕ} (el : l ≡ length_of g.ends p) where
  pub naming-end : l ≤ i → false ≡ any (names_in s) (queue_of g p)
  naming-end h = ap (any (names_in s)) (sym (queue-end g p i el h)) ∙ v.rest

  module _ (lt : i < l) {h : ℕ} (eh : h ≡ head_of g.ends p) {row : ℕ} (er : row ≡ row_of p h i) {b : Bool} (eb : b ≡ names_in s (entry_at g.rows row)) where
    naming-here : any (names_in s) (entry_at g.rows row ∷ drop (i + 1) (queue_of g p)) ≡ any (names_in s) (queue_of g p)
    naming-here = ap (any (names_in s)) (sym (queue-next g p i el lt eh er refl)) ∙ v.rest

    pub naming-found : b ≡ true → true ≡ any (names_in s) (queue_of g p)
    naming-found t = sym (any_here (names_in s) (entry_at g.rows row) (drop (i + 1) (queue_of g p)) (sym eb ∙ t)) ∙ naming-here

    pub naming-next : b ≡ false → Naming g p s (i + 1)
    naming-next f = record { rest = sym (any_next (names_in s) (entry_at g.rows row) (drop (i + 1) (queue_of g p)) (sym eb ∙ f)) ∙ naming-here }

-- any_row: what is left of the queue answers as the whole, of each test that the calls answered as.
abbrev pub Answered : (ℕ → Bool → Type 0) → List ℕ → List ℕ → List ℕ → (Entry → Bool) → Type 0
Answered answers e c n t = (row : ℕ) → row < row_count → (b : Bool) → answers row b → b ≡ t (entry_at (rows_of e c n) row)

pub record Walking (ends : List ℕ) (p : ℕ) (answers : ℕ → Bool → Type 0) (i : ℕ) : Type 0 where
  pub rest : (e c n : List ℕ) (t : Entry → Bool) → Answered answers e c n t → any t (drop i (queue_of (rings_of ends e c n) p)) ≡ any t (queue_of (rings_of ends e c n) p)

pub walking-start : {ends : List ℕ} {p : ℕ} {answers : ℕ → Bool → Type 0} → Walking ends p answers 0
walking-start = record { rest = λ e c n t h. refl }

module _ {ends : List ℕ} {p : ℕ} {answers : ℕ → Bool → Type 0} {i : ℕ} (v : Walking ends p answers i) {l : ℕ} (el : l ≡ length_of ends p) where
  pub walking-end : l ≤ i → (e c n : List ℕ) (t : Entry → Bool) → Answered answers e c n t → false ≡ any t (queue_of (rings_of ends e c n) p)
  walking-end h e c n t a = ap (any t) (sym (queue-end (rings_of ends e c n) p i el h)) ∙ v.rest e c n t a

  module _ (lt : i < l) {h : ℕ} (eh : h ≡ head_of ends p) {row : ℕ} (er : row ≡ row_of p h i) (fit : row < row_count) {b : Bool} (eb : answers row b) where
    walking-here : (e c n : List ℕ) (t : Entry → Bool) → Answered answers e c n t →
        any t (entry_at (rows_of e c n) row ∷ drop (i + 1) (queue_of (rings_of ends e c n) p)) ≡ any t (queue_of (rings_of ends e c n) p)
    walking-here e c n t a = ap (any t) (sym (queue-next (rings_of ends e c n) p i el lt eh er refl)) ∙ v.rest e c n t a

    pub walking-found : b ≡ true → (e c n : List ℕ) (t : Entry → Bool) → Answered answers e c n t → true ≡ any t (queue_of (rings_of ends e c n) p)
    walking-found hit e c n t a =
        sym (any_here t (entry_at (rows_of e c n) row) (drop (i + 1) (queue_of (rings_of ends e c n) p)) (sym (a row fit b eb) ∙ hit)) ∙ walking-here e c n t a

    pub walking-next : b ≡ false → Walking ends p answers (i + 1)
    walking-next miss = record {
      rest = λ e c n t a.
          sym (any_next t (entry_at (rows_of e c n) row) (drop (i + 1) (queue_of (rings_of ends e c n) p)) (sym (a row fit b eb) ∙ miss)) ∙ walking-here e c n t a;
    }

-- named
either-right : (a : Bool) {b : Bool} → b ≡ true → either a b ≡ true
either-right true h = refl
either-right false h = h

any-below-found : (t : ℕ → Bool) (n q : ℕ) → q < n → t q ≡ true → any_below t n ≡ true
any-below-found t zero q h e = absurd (omega arith)
any-below-found t (suc n) q h e = go (λ l. any-below-found t n q l e) (same? q n)
  where
    go : (q < n → any_below t n ≡ true) → Same q n → either (t n) (any_below t n) ≡ true
    go ih (same f) = rw (← f, e)
    go ih (other d) = either-right (t n) (ih (omega (arith, d)))

any-below-none : (t : ℕ → Bool) (n : ℕ) → ((k : ℕ) → k < n → t k ≡ false) → any_below t n ≡ false
any-below-none t zero h = refl
any-below-none t (suc n) h = rw (h n (omega arith)) (any-below-none t n (λ k l. h k (omega arith)))

module _ (cs : List ℕ) (g : Rings) (s : ℕ) where
  pub named-found : (q : ℕ) → q < peers → {b : Bool} → b ≡ carries_in cs g s q → b ≡ true → true ≡ named_in cs g s
  unfolding named_in
  named-found q l eb t = sym (any-below-found (carries_in cs g s) peers q l (sym eb ∙ t))

  pub named_none : ((q : ℕ) → q < peers → carries_in cs g s q ≡ false) → false ≡ named_in cs g s
  unfolding named_in
  named_none h = sym (any-below-none (carries_in cs g s) peers h)

-- carries
pub carries-empty : (cs : List ℕ) (g : Rings) (s q : ℕ) {n : ℕ} → n ≡ length_of g.ends q → n ≡ 0 → false ≡ carries_in cs g s q
unfolding carries_in
carries-empty cs g s q e z = rw (queue-empty g q (sym e ∙ z)) (go (eqb (attached_of (charges_at cs q)) 0))
  where
    go : (b : Bool) → false ≡ pick b false false
    go true = refl
    go false = refl

module _ (cs : List ℕ) (g : Rings) (s q : ℕ) {c : Charges} (ec : c ≡ charges_at cs q) {n : ℕ} (en : n ≡ attached_of c) where
  pub carries-none : n ≡ 0 → false ≡ carries_in cs g s q
  unfolding carries_in
  carries-none z = rw (← ec, ← en, z)

  pub carries-some : (n ≡ 0 → ⊥) → {b : Bool} → b ≡ any (names_in s) (queue_of g q) → b ≡ carries_in cs g s q
  unfolding carries_in
  carries-some ne eb = rw (← ec, ← en, ne_eqb n 0 ne) eb

-- carries_row
module _ (s num : ℕ) (e c n : List ℕ) (row : ℕ) {b : Bool} (eb : b ≡ message_kind (get_or e (entry_fields * row) 0)) where
  pub brings-notice : b ≡ false → false ≡ brings_in num s (entry_at (rows_of e c n) row)
  unfolding brings_in is_message entry_at
  brings-notice f = rw (row5, ← eb, f)

  module _ (t : b ≡ true) {w : ℕ} (ew : w ≡ get_or n row 0) where
    pub brings-later : num ≤ w → false ≡ brings_in num s (entry_at (rows_of e c n) row)
    unfolding brings_in is_message entry_at
    brings-later h = rw (row5, ← eb, t, ← ew, le-ltb w num h)

    pub brings-attached : w < num → {x : ℕ} → x ≡ get_or e (entry_fields * row + 4) 0 → {k : ℕ} → k ≡ min x 8 → {r : Bool} → r ≡ any (eqb s) (take k (row_in carried_fields c row)) →
        r ≡ brings_in num s (entry_at (rows_of e c n) row)
    unfolding brings_in is_message entry_at
    brings-attached h ex {k} ek er =
        let few : k ≡ min (length (row_in carried_fields c row)) (get_or e (entry_fields * row + 4) 0) = omega (arith, row-length 8 c row) in
        rw (row5, ← eb, t, ← ew, lt-ltb w num h, ← take_min (get_or e (entry_fields * row + 4) 0) (row_in carried_fields c row))
        (er ∙ ap (λ (y : ℕ). any (eqb s) (take y (row_in carried_fields c row))) few)

-- carried_at
pub record Bringing (g : Rings) (p s num i : ℕ) : Type 0 where
  pub rest : any (brings_in num s) (drop i (queue_of g p)) ≡ any (brings_in num s) (queue_of g p)

pub bringing-start : (g : Rings) (p s num : ℕ) → Bringing g p s num 0
bringing-start g p s num = record { rest = refl }

module _ {g : Rings} {p s num i : ℕ} (v : Bringing g p s num i) {l : ℕ} (el : l ≡ length_of g.ends p) where
  pub bringing-end : l ≤ i → false ≡ any (brings_in num s) (queue_of g p)
  bringing-end h = ap (any (brings_in num s)) (sym (queue-end g p i el h)) ∙ v.rest

  module _ (lt : i < l) {h : ℕ} (eh : h ≡ head_of g.ends p) {row : ℕ} (er : row ≡ row_of p h i) {b : Bool} (eb : b ≡ brings_in num s (entry_at g.rows row)) where
    bringing-here : any (brings_in num s) (entry_at g.rows row ∷ drop (i + 1) (queue_of g p)) ≡ any (brings_in num s) (queue_of g p)
    bringing-here = ap (any (brings_in num s)) (sym (queue-next g p i el lt eh er refl)) ∙ v.rest

    pub bringing-found : b ≡ true → true ≡ any (brings_in num s) (queue_of g p)
    bringing-found t = sym (any_here (brings_in num s) (entry_at g.rows row) (drop (i + 1) (queue_of g p)) (sym eb ∙ t)) ∙ bringing-here

    pub bringing-next : b ≡ false → Bringing g p s num (i + 1)
    bringing-next f = record { rest = sym (any_next (brings_in num s) (entry_at g.rows row) (drop (i + 1) (queue_of g p)) (sym eb ∙ f)) ∙ bringing-here }

-- carried_before
module _ (cs : List ℕ) (g : Rings) (s num p : ℕ) {n : ℕ} (en : n ≡ length_of g.ends p) where
  pub before-empty : n ≡ 0 → false ≡ carried_before cs g s num p
  unfolding carried_before
  before-empty z = rw (← en, z, queue-empty g p (sym en ∙ z)) (go (eqb (attached_of (charges_at cs p)) 0))
    where
      go : (b : Bool) → false ≡ pick b false false
      go true = refl
      go false = refl

  pub before-long : ring_size < n → false ≡ carried_before cs g s num p
  unfolding carried_before
  before-long h = rw (← en, lt-leb n ring_size h)

  module _ (short : n ≤ ring_size) {c : Charges} (ec : c ≡ charges_at cs p) {m : ℕ} (em : m ≡ attached_of c) where
    pub before-none : m ≡ 0 → false ≡ carried_before cs g s num p
    unfolding carried_before
    before-none z = rw (← en, le-leb n ring_size short, ← ec, ← em, z)

    pub before-some : (m ≡ 0 → ⊥) → {b : Bool} → b ≡ any (brings_in num s) (queue_of g p) → b ≡ carried_before cs g s num p
    unfolding carried_before
    before-some ne eb = rw (← en, le-leb n ring_size short, ← ec, ← em, ne_eqb m 0 ne) eb
