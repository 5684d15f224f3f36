-- Every accepted command keeps `Noted`; so every run leaves it.
-- Assumes nothing.
use Rattle.model.specs.Founded.{Founded}
use Rattle.std.specs.Prelude.{ℕ, suc, ◌-◌, ◌<◌, ◌≡◌, false, List, map, eqb}
use Rattle.std.proofs.Math.Path.{refl}
use Rattle.std.proofs.Common.{sym}
use Rattle.std.proofs.Math.Bool.{true}
use native.Mathlib.Omega.{arith}
use Rattle.std.proofs.lemmas.List.{length-map}
use borrow.Author.Tests.{eq-eqb, ne_eqb}
use Rattle.laws.specs.Tests.{pick, Seen, Seen.is_true, Seen.is_false, look, Same, Same.same, Same.other, same?, clash}
use Rattle.laws.specs.Tables.{upd_same, upd-all, upd}
use Rattle.laws.specs.Build.{build-length}
use Rattle.laws.specs.Loads.{all_map}
use Rattle.laws.specs.Weights.{All, keep}
use Rattle.frames.specs.declared.Sizes.{Sizes}
use Rattle.frames.specs.Legal.{Sized}
use Rattle.model.specs.Numbers.{nodes, owner}
use Rattle.model.specs.State.{is_live, Handle, Handle.none, Handle.some, handle_of, held, count, messages_in, Seed, seed_carries, State, start, slot, total}
use Rattle.model.specs.Requests.{attached}
use Rattle.model.specs.Refusals.{pinned}
use Rattle.model.specs.Tables.{with_handles, with_handle, with_given, with_queues, with_charges, with_seed}
use Rattle.model.specs.Changes.{take_out, withdraw, give, forget, notify, valid, dropped, remains, settle}
use Rattle.model.specs.Effects.{releases, releases_handle}
use Rattle.model.specs.Notices.{Carried, Noted}
use Rattle.model.specs.Counts.{total-one, total-two}
use Rattle.model.specs.NoticesQueues.{Lone, lone, noted-notify, noted-left}
use Rattle.model.specs.NoticesTables.{noted-put, unreleased, forget-needless, noted-drop}
use Rattle.model.specs.NoticesFree.{holder-peer}

-- A fresh bus.
pub noted-start : Noted start
unfolding start
noted-start =
    record {
      present = λ p z. absurd (z refl);
      absent = λ p z. refl;
      holders = λ p s z. clash (sym z);
      seeds = λ p. (omega arith, tt);
      owned = λ s z. clash (sym z);
      stands = λ q. tt;
      once = λ q s. omega arith;
    }

-- Release.
-- A node that its holder may release is not a live one whose sum is 1.
pub unpinned-more : (b : State) (p s : ℕ) → Noted b → held (b.handle p s) ≡ true → pinned b p s ≡ false → is_live (b.life s) ≡ true → total b.handle s ≡ 1 → ⊥
unpinned-more b p s n h f l e = go (same? (owner s) p)
  where
    here : 0 < count (b.handle p s)
    here = (n.holders p s h).2

    there : 0 < count (b.handle (owner s) s)
    there = (n.holders (owner s) s (n.owned s l)).2

    go : Same (owner s) p → ⊥
    go (same z) =
        let c : count (b.handle p s) ≡ 1 = omega (arith, here, total-one b.handle s p (holder-peer b p s n h)) in
        clash (rw (l, eq-eqb (owner s) p z, eq-eqb (count (b.handle p s)) 1 c) at f)
    go (other z) = omega (arith, here, there, total-two b.handle s (owner s) p (holder-peer b (owner s) s n (n.owned s l)) (holder-peer b p s n h) z)

pub noted-release : (b : State) (p s i c : ℕ) → Noted b → b.handle p s ≡ some i c → pinned b p s ≡ false → Noted (releases b p s i c)
unfolding releases
noted-release b p s i c n e f = go (same? c 1)
  where
    h : held (b.handle p s) ≡ true
    h = rw e

    cpos : 0 < c
    cpos = rw e at (n.holders p s h).2

    more : is_live (b.life s) ≡ true → total b.handle s ≡ 1 → ⊥
    more = unpinned-more b p s n h f

    left : State
    left = take_out b p (keep (dropped p s) (messages_in (b.queue p))) (settle (upd (b.handle p) s none) (keep (remains p s) (b.queue p)))

    fo : Noted left
    fo = noted-left b p s (upd (b.handle p) s none) n

    bare : c ≡ 1 → is_live (b.life s) ≡ true → owner s ≡ p → ⊥
    bare z l o = clash (rw (l, eq-eqb (owner s) p o, e, eq-eqb c 1 z) at f)

    forget-left : forget (with_handle b p s none) p s ≡ with_handle left p s none
    forget-left = unfold forget take_out with_charges with_queues with_handles in rw (upd_same b.handle p (upd (b.handle p) s none)) refl

    gone : c ≡ 1 → Noted (forget (with_handle b p s none) p s)
    gone z =
        rw forget-left
        (noted-drop left p s fo (unfold take_out with_charges with_queues in bare z) (unfold take_out with_charges with_queues in rw upd_same (forget-needless b p s (upd (b.handle p) s none) n)) (unreleased left s fo (unfold take_out with_charges with_queues in more)))

    old : (q : ℕ) → All (Lone b.handle) ((forget (with_handle b p s none) p s).queue q)
    old q = rw forget-left (unfold with_handles take_out with_charges with_queues in lone left fo q)

    go : Same c 1 → Noted (notify b (pick (eqb c 1) (forget (with_handle b p s (handle_of i (c - 1))) p s) (with_handle b p s (handle_of i (c - 1)))) s)
    go (same z) = rw z (noted-notify b (forget (with_handle b p s none) p s) s (gone z) old)
    go (other z) =
        let d : c - 1 ≡ suc (c - 2) = omega (arith, cpos) in
        rw (ne_eqb c 1 z, d)
        (noted-notify b (with_handle b p s (handle_of i (suc (c - 2)))) s
        (noted-put b p s i (c - 2) n (n.holders p s h).0 (n.holders p s h).1 (unreleased b s n more))
        (unfold with_handles in lone b n))

pub noted-releases : (b : State) (p s : ℕ) (x : Handle) → Noted b → b.handle p s ≡ x → pinned b p s ≡ false → Noted (releases_handle b p s x)
noted-releases b p s none n e f = n
noted-releases b p s (some i c) n e f = noted-release b p s i c n e f

-- Receive.
pub give-status : (b : State) (p as_of s : ℕ) → (give b p as_of s).status ≡ b.status
unfolding give withdraw with_queues with_handles with_given
give-status b p as_of s = go (look (valid b p as_of s))
  where
    go : Seen (valid b p as_of s) → (give b p as_of s).status ≡ b.status
    go (is_true e) = rw e
    go (is_false e) = rw e

-- Send.
pub carried-slots : (b : State) (f : List ℕ) (p : ℕ) (z : Sizes) → Sized f z → All (λ i. slot b p i < nodes) (attached f z) → Carried (map (slot b p) (attached f z))
carried-slots b f p z s a = (rw (length-map, build-length) s.few-attached, all_map (λ s. s < nodes) (slot b p) (attached f z) a)

-- A seed set, or dropped.
pub noted-seed : (b : State) (p : ℕ) (x : Seed) → Noted b → Carried (seed_carries x) → Noted (with_seed b p x)
unfolding with_seed
noted-seed b p x n c =
    record {
      present = n.present;
      absent = n.absent;
      holders = n.holders;
      owned = n.owned;
      seeds = upd-all (λ q y. Carried (seed_carries y)) b.seed p x n.seeds c;
      stands = n.stands;
      once = n.once;
    }

-- Both together, and every run.
pub sound-start : Noted start × Founded start
sound-start = (noted-start, λ q. unfold start in tt)
