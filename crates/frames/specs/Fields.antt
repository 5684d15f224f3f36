-- Where a command that was read stands in its frame: its command byte, its acting peer, and the fields that are read off the frame again.
-- Callers use this law and never the text of `parse`.
-- Assumes nothing.
use Rattle.std.specs.Prelude.{ℕ, suc, ◌%◌, ◌≤◌, ◌≡◌, refl, Bool, true, List, length, get_or, eqb, ltb, Ok, Err}
use Rattle.std.proofs.Common.{arith, eqb-true}
use Rattle.std.proofs.lemmas.Bool.{eqb-false}
use Rattle.ids.specs.declared.Refusal.TheVariants.{EINVAL, EMSGSIZE}
use Rattle.laws.specs.Tests.{pick, pick-cases, pick_all}
use Rattle.ids.specs.declared.Peer.{Peer}
use Rattle.frames.specs.declared.Command.{Command}
use Rattle.frames.specs.declared.Command.TheVariants.{Open, Disconnect, Create, Destroy, Release, Transfer, Send, Receive, Quota, Holders, ShowSeed}
use Rattle.frames.specs.Frame.{last_peer, last_user, oversized, send_length, short_at, opcode, peer_at, id_at, parse_sizes, parse_send, parse_open, parse_create, parse_transfer, parse_quota, parse_rest, Parsed}

-- The command byte and the acting peer.
pub record Acts (f : List ℕ) (op : ℕ) (p : Peer) : Type 0 where
  pub command : opcode f ≡ op
  pub peer : p.0 ≡ get_or f 1 0

abbrev pub Fields : List ℕ → Command → Type 0
Fields f (Open p u) = Acts f 1 p × (u.0 ≡ get_or f 2 0)
Fields f (Disconnect p) = Acts f 2 p
Fields f (Create p i) = Acts f 3 p × (i ≡ id_at f 2)
Fields f (Destroy p i) = Acts f 4 p × (i ≡ id_at f 2)
Fields f (Release p i) = Acts f 5 p × (i ≡ id_at f 2)
Fields f (Transfer p i q) = Acts f 6 p × (i ≡ id_at f 2)
Fields f (Send p z) = Acts f 7 p
Fields f (Receive p r) = Acts f 8 p
Fields f (Quota p u) = Acts f 9 p × (u.0 ≡ get_or f 2 0)
Fields f (Holders p i) = Acts f 10 p × (i ≡ id_at f 2)
Fields f (ShowSeed p r) = Acts f 12 p

abbrev pub InFrame : List ℕ → Parsed → Type 0
InFrame f (Ok c) = Fields f c
InFrame f (Err n) = Unit {0}

pub unless : (f : List ℕ) (bad : Bool) (r : Parsed) → InFrame f r → InFrame f (pick bad (Err EINVAL) r)
unless f bad r h = pick_all (InFrame f) bad (Err EINVAL) r tt h

pub fields-send : (f : List ℕ) → opcode f ≡ 7 → InFrame f (parse_send f)
unfolding parse_send parse_sizes
fields-send f o =
    let here : Acts f 7 (peer_at f 1) = record { command = o; peer = refl } in
    let nd = get_or f 2 0 in
    let nh = get_or f 3 0 in
    let nb = short_at f 4 in
    unless f (ltb (length f) 6) _
    (unless f (ltb last_peer (get_or f 1 0)) _
    (pick_all (InFrame f) (oversized nd nh nb) (Err EMSGSIZE) _ tt (pick_all (InFrame f) (eqb (length f) (send_length nd nh nb)) _ (Err EINVAL) here tt)))

acts : (f : List ℕ) (k : ℕ) → eqb (opcode f) k ≡ true → Acts f k (peer_at f 1)
acts f k e = record { command = eqb-true (opcode f) k e; peer = refl }

-- A number at least k that is not k is above it; up by one at a time.
above : (k n : ℕ) → k ≤ n → (n ≡ k → ⊥) → suc k ≤ n
above k n l h = omega arith

ends : (n : ℕ) → n ≤ 12 → (n ≡ 11 → ⊥) → (n ≡ 12 → ⊥) → 10 ≤ n → n ≡ 10
ends n l a b h = omega arith

zero-least : (n : ℕ) → 0 ≤ n
zero-least n = omega arith

pub fields-rest : (f : List ℕ) → (opcode f ≡ 0 → ⊥) → (opcode f ≡ 11 → ⊥) → opcode f ≤ 12 → (opcode f ≡ 7 → ⊥) → InFrame f (parse_rest (opcode f) (peer_at f 1) f)
unfolding parse_rest parse_open parse_create parse_transfer parse_quota
fields-rest f z y l s =
    let op = opcode f in
    pick-cases (InFrame f) (eqb op 1) _ _ (λ e. unless f (ltb last_user (get_or f 2 0)) _ (acts f 1 e, refl)) (λ n1.
    pick-cases (InFrame f) (eqb op 2) _ _ (λ e. acts f 2 e) (λ n2.
    pick-cases (InFrame f) (eqb op 3) _ _ (λ e. pick_all (InFrame f) (eqb ((id_at f 2).0 % 4) 0) _ (Err EINVAL) (acts f 3 e, refl) tt) (λ n3.
    pick-cases (InFrame f) (eqb op 4) _ _ (λ e. (acts f 4 e, refl)) (λ n4.
    pick-cases (InFrame f) (eqb op 5) _ _ (λ e. (acts f 5 e, refl)) (λ n5.
    pick-cases (InFrame f) (eqb op 6) _ _ (λ e. unless f (ltb last_peer (get_or f 10 0)) _ (acts f 6 e, refl)) (λ n6.
    pick-cases (InFrame f) (eqb op 8) _ _ (λ e. acts f 8 e) (λ n8.
    pick-cases (InFrame f) (eqb op 9) _ _ (λ e. unless f (ltb last_user (get_or f 2 0)) _ (acts f 9 e, refl)) (λ n9.
    pick-cases (InFrame f) (eqb op 12) _ _ (λ e. acts f 12 e) (λ n12. (
      record {
        command =
            ten op z y (eqb-false op 12 n12) l s (eqb-false op 1 n1) (eqb-false op 2 n2) (eqb-false op 3 n3) (eqb-false op 4 n4) (eqb-false op 5 n5) (eqb-false op 6 n6) (eqb-false op 8 n8)
            (eqb-false op 9 n9);
        peer = refl;
      },
      refl,
    ))))))))))
  where
    ten : (n : ℕ) → (n ≡ 0 → ⊥) → (n ≡ 11 → ⊥) → (n ≡ 12 → ⊥) → n ≤ 12 → (n ≡ 7 → ⊥) → (n ≡ 1 → ⊥) → (n ≡ 2 → ⊥) → (n ≡ 3 → ⊥) → (n ≡ 4 → ⊥) → (n ≡ 5 → ⊥) → (n ≡ 6 → ⊥) → (n ≡ 8 → ⊥) → (n ≡ 9 → ⊥) → n ≡ 10
    ten n z y x l s a b c d e g h i = ends n l y x (above 9 n (above 8 n (above 7 n (above 6 n (above 5 n (above 4 n (above 3 n (above 2 n (above 1 n (above 0 n (zero-least n) z) a) b) c) d) e) g) s) h) i)
