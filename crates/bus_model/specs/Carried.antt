-- An order carried out, seen: the state is the model's effect, and what is answered is the model's reply. For every bus that stands for a state of a run.
-- Assumes nothing.
use Rattle.std.specs.Prelude.{ℕ, ◌+◌, ◌*◌, ◌<◌, ◌≡◌, true, length}
use Rattle.std.proofs.Math.Path.{refl, ap}
use Rattle.std.proofs.Common.{sym, ◌∙◌}
use mathlib.Core.List.{List, [], ◌∷◌}
use native.Mathlib.Omega.{arith}
use Rattle.laws.specs.Tests.{clash}
use Rattle.laws.specs.Search.{first_found}
use Rattle.ids.specs.declared.Peer.{Peer}
use Rattle.ids.specs.declared.HandleId.{HandleId}
use Rattle.frames.specs.declared.Command.{Command}
use Rattle.frames.specs.declared.Command.TheVariants.{Open, Disconnect, Create, Destroy, Release, Transfer, Send, Receive, Quota, Holders, ShowSeed}
use Rattle.frames.specs.Frame.{payload_of}
use Rattle.frames.specs.Legal.{Legal}
use Rattle.quota.specs.declared.Charges.{Charges}
use Rattle.quota.specs.Charges.{balance_of}
use Rattle.answers.specs.declared.Answer.{Answer}
use Rattle.answers.specs.declared.Answer.TheVariants.{Transferred as is_transferred, Quota as is_quota, Holders as is_holders}
use Rattle.answers.specs.Answer.{answer_after, outcome_of}
use Rattle.rings.specs.Rings.{length_of}
use Rattle.tables.specs.HandlesView.{holders-is}
use Rattle.tables.specs.ChargesView.{charges-is}
use Rattle.tables.specs.Listed.{AllListed}
use Rattle.model.specs.Numbers.{slots, nodes}
use Rattle.model.specs.State.{State, Handle, Handle.none, Handle.some, has_id, Entry, slot, slot_of, free_place}
use Rattle.model.specs.Refusals.{takeable, refusal}
use Rattle.model.specs.Effects.{effect, releases_handle}
use Rattle.model.specs.Replies.{Reply, reply}
use Rattle.model.specs.Tables.{accept}
use Rattle.model.proofs.Tested.{tested}
use Rattle.view.specs.View.{Bus, Shape, state_of}
use Rattle.view.specs.Rows.{queue-count}
use Rattle.judges.specs.Orders.{plain_sight, resolved, places_in}
use Rattle.effects.specs.After.{after_open, after_release, after_disconnect}
use Rattle.effects.specs.Good.{Good}
use Rattle.effects.specs.Ranges.{Raw, raw-open, raw-create, raw-destroy, raw-release, raw-transfer, raw-send, raw-receive, raw-show, raw-disconnect}
use Rattle.effects.specs.Opening.{open-view, shape-open, create-view, shape-create}
use Rattle.effects.specs.Sending.{send-view, shape-send}
use Rattle.effects.specs.Releasing.{release-view, shape-release}
use Rattle.effects.specs.Receiving.{transfer-view, transfer-id, shape-transfer, receive-view, receive-outcome, receive-out, shape-receive, receive-listed}
use Rattle.effects.specs.Showing.{set-shown, show-view, shape-show, show-listed, show-outcome, show-out}
use Rattle.effects.specs.Listing.{listed-create, listed-release, listed-transfer, listed-disconnect}
use Rattle.effects.specs.Destroying.{destroy-view, shape-destroy, disconnect-view, shape-disconnect}
use Rattle.bus_model.specs.Command.{Done, answered, carried}
use Rattle.ids.specs.Sizes.{peers}

-- What comes of a command is, seen, the state st with the reply rep.
pub record SeenAs (out : List ℕ) (d : Done) (st : State) (rep : Reply) : Type 0 where
  pub shape : Shape d.bus
  pub raw : Raw d.bus
  pub listed : AllListed d.bus.handles
  pub state : state_of d.bus ≡ st
  pub outcome : d.outcome ≡ outcome_of rep.answer rep.ids rep.payload out
  pub buffer : d.out ≡ answer_after rep.answer rep.ids rep.payload out

-- An answer that shows no message.
plain-seen : (out : List ℕ) (a : Answer) (b : Bus) (st : State) → Shape b → Raw b → AllListed b.handles → state_of b ≡ st →
    SeenAs out (answered a b out) st (record { answer = a; ids = []; payload = [] })
plain-seen out a b st s r w e = record { shape = s; raw = r; listed = w; state = e; outcome = refl; buffer = refl }

-- The handle that an ID names.
held_by : (h : ℕ → Handle) (i : ℕ) → slot_of h i < nodes → has_id i (h (slot_of h i)) ≡ true
unfolding slot_of
held_by h i l = first_found (λ s. has_id i (h s)) nodes l

module _ (b : Bus) (shape : Shape b) (raw : Raw b) (g : Good (state_of b)) (lists : AllListed b.handles) (f out : List ℕ) where
  abbrev st : State
  st = state_of b

  release-seen : (p : Peer) (i : HandleId) → p.0 < peers → slot st p.0 i.0 < nodes →
      state_of (after_release b p.0 (slot st p.0 i.0)) ≡ releases_handle (accept st) p.0 (slot st p.0 i.0) (st.handle p.0 (slot st p.0 i.0))
  release-seen p i l m = go (st.handle p.0 (slot st p.0 i.0)) refl (held_by (st.handle p.0) i.0 m)
    where
      go : (h : Handle) → st.handle p.0 (slot st p.0 i.0) ≡ h → has_id i.0 (st.handle p.0 (slot st p.0 i.0)) ≡ true →
          state_of (after_release b p.0 (slot st p.0 i.0)) ≡ releases_handle (accept st) p.0 (slot st p.0 i.0) h
      go none e t = clash (sym t ∙ ap (has_id i.0) e)
      go (some j c) e t = release-view b p.0 (slot st p.0 i.0) j c shape g l m e

  release-shape : (p : Peer) (i : HandleId) → p.0 < peers → slot st p.0 i.0 < nodes → Shape (after_release b p.0 (slot st p.0 i.0))
  release-shape p i l m = go (st.handle p.0 (slot st p.0 i.0)) refl (held_by (st.handle p.0) i.0 m)
    where
      go : (h : Handle) → st.handle p.0 (slot st p.0 i.0) ≡ h → has_id i.0 (st.handle p.0 (slot st p.0 i.0)) ≡ true →
          Shape (after_release b p.0 (slot st p.0 i.0))
      go none e t = clash (sym t ∙ ap (has_id i.0) e)
      go (some j c) e t = shape-release b p.0 (slot st p.0 i.0) j c shape g l m e

  release-listed : (p : Peer) (i : HandleId) → p.0 < peers → slot st p.0 i.0 < nodes → AllListed (after_release b p.0 (slot st p.0 i.0)).handles
  release-listed p i l m = go (st.handle p.0 (slot st p.0 i.0)) refl (held_by (st.handle p.0) i.0 m)
    where
      go : (h : Handle) → st.handle p.0 (slot st p.0 i.0) ≡ h → has_id i.0 (st.handle p.0 (slot st p.0 i.0)) ≡ true →
          AllListed (after_release b p.0 (slot st p.0 i.0)).handles
      go none e t = clash (sym t ∙ ap (has_id i.0) e)
      go (some j c) e t = listed-release b shape g lists p.0 (slot st p.0 i.0) j c l m e

  -- Something is queued where a receive is not refused.
  nonempty : (p room : ℕ) → p < peers → takeable room (st.queue p) ≡ 0 → 0 < length_of b.rings.ends p
  nonempty p room l e = some_of (st.queue p) e (queue-count b.rings b.pool p l)
    where
      some_of : (q : List Entry) → takeable room q ≡ 0 → length q ≡ length_of b.rings.ends p → 0 < length_of b.rings.ends p
      some_of [] t n = absurd (omega arith)
      some_of (x ∷ q) t n = omega arith

  pub carried-seen : (c : Command) → Legal f c → refusal st f c ≡ 0 → SeenAs out (carried b f out (resolved (plain_sight st) c) (places_in (plain_sight st) f c)) (effect st f c) (reply st f c)
  unfolding effect reply refusal
  carried-seen (Open p u) l e = plain-seen out _ (after_open b p.0 u.0) _ (shape-open b p.0 u.0 shape) (raw-open b raw g p.0 u.0 l.1) lists (open-view b shape g p.0 u.0 (omega (arith, l.0)))
  carried-seen (Disconnect p) l e =
      plain-seen out _ (after_disconnect b p.0) _ (shape-disconnect b shape g p.0 (omega arith)) (raw-disconnect b raw g p.0) (listed-disconnect b shape g lists p.0 (omega arith)) (disconnect-view b shape g p.0 (omega arith) (tested st f (Disconnect p) e).is_open)
  carried-seen (Create p i) l e =
      let t = tested st f (Create p i) e in
      plain-seen out _ _ _ (shape-create b p.0 i.0 (p.0 * slots + free_place st p.0) shape) (raw-create b raw g p.0 i.0 (p.0 * slots + free_place st p.0)) (listed-create b shape g lists p.0 i.0 (omega (arith, l.0)) l.1 t.free) (create-view b shape g p.0 i.0 (omega (arith, l.0)) t.free)
  carried-seen (Destroy p i) l e =
      let t = tested st f (Destroy p i) e in
      plain-seen out _ _ _ (shape-destroy b shape g p.0 (slot st p.0 i.0) (omega arith) t.owns t.lives) (raw-destroy b raw g p.0 (slot st p.0 i.0)) lists
      (destroy-view b shape g p.0 (slot st p.0 i.0) (omega arith) t.owns t.lives)
  carried-seen (Release p i) l e =
      let t = tested st f (Release p i) e in
      plain-seen out _ _ _ (release-shape p i (omega arith) t.holds) (raw-release b raw g p.0 (slot st p.0 i.0)) (release-listed p i (omega arith) t.holds) (release-seen p i (omega arith) t.holds)
  carried-seen (Transfer p i q) l e =
      let t = tested st f (Transfer p i q) e in
      let s = slot st p.0 i.0 in
      let m : q.0 < peers = omega (arith, l.1) in
      let id = transfer-id b q.0 s shape g m t.holds in
      record {
        shape = shape-transfer b q.0 s shape g m t.holds;
        raw = raw-transfer b raw g q.0 s m;
        listed = listed-transfer b shape g lists q.0 s m t.holds;
        state = transfer-view b q.0 s shape g m t.holds;
        outcome = ap (λ (x : ℕ). outcome_of (is_transferred (record { 0 = x })) [] [] out) id;
        buffer = ap (λ (x : ℕ). answer_after (is_transferred (record { 0 = x })) [] [] out) id;
      }
  carried-seen (Send p z) l e =
      plain-seen out _ _ _ (shape-send b p.0 z _ (payload_of f) shape) (raw-send b raw g p.0 z _ (payload_of f)) lists (send-view b shape g p.0 (omega (arith, l.0)) f z l.1 e)
  carried-seen (Receive p room) l e =
      let m : p.0 < peers = omega arith in
      let some = nonempty p.0 room m (tested st f (Receive p room) e).next in
      record {
        shape = shape-receive b p.0 out shape g m some;
        raw = raw-receive b raw g p.0 out shape m;
        listed = receive-listed b p.0 out shape g m some lists;
        state = receive-view b p.0 out shape g m some;
        outcome = receive-outcome b p.0 out shape g m some;
        buffer = receive-out b p.0 out shape g m some;
      }
  carried-seen (ShowSeed p room) l e =
      let m : p.0 < peers = omega arith in
      let t = tested st f (ShowSeed p room) e in
      let set = set-shown b p.0 room m t.next in
      record {
        shape = shape-show b p.0 out shape g m set;
        raw = raw-show b raw g p.0 out m;
        listed = show-listed b p.0 out shape g m set lists;
        state = show-view b p.0 out shape g m set;
        outcome = show-outcome b p.0 out shape g m set t.acting.is_open;
        buffer = show-out b p.0 out shape g m set t.acting.is_open;
      }
  carried-seen (Quota p u) l e =
      let c = charges-is b.charges p.0 (omega (arith, l.0)) in
      record {
        shape = shape;
        raw = raw;
        listed = lists;
        state = refl;
        outcome = ap (λ (x : Charges). outcome_of (is_quota (balance_of x u)) [] [] out) (sym c);
        buffer = ap (λ (x : Charges). answer_after (is_quota (balance_of x u)) [] [] out) (sym c);
      }
  carried-seen (Holders p i) l e =
      let t = tested st f (Holders p i) e in
      let h = holders-is b.handles (slot st p.0 i.0) t.holds st refl in
      record {
        shape = shape;
        raw = raw;
        listed = lists;
        state = refl;
        outcome = ap (λ (x : ℕ). outcome_of (is_holders x) [] [] out) h;
        buffer = ap (λ (x : ℕ). answer_after (is_holders x) [] [] out) h;
      }
