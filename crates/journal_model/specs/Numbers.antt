-- Every number that a command gives, on any bus and with any answer buffer, is one of document 01's table; so it is never 27.
-- Assumes nothing.
use Rattle.std.specs.Prelude.{ℕ, ◌+◌, ◌*◌, ◌≡◌, refl, Bool, true, false, List, [], ◌∷◌, ◌++◌, map, length, eqb, ltb, leb, Ok, Err}
use Rattle.std.proofs.Common.{sym, ap, subst, ◌∙◌}
use Rattle.std.proofs.Math.Logic.◌⊎◌.{inl, inr}
use Rattle.ids.specs.Refusals.{EINVAL, EIO, EPERM, ENXIO, EBADF, EAGAIN, EEXIST, ENOTTY, EFBIG, ENOSPC, ERANGE, EOVERFLOW, EMSGSIZE, ESHUTDOWN, EHOSTUNREACH, EDQUOT, refusal_number}
use Rattle.laws.specs.Tests.{pick, pick_all, Seen, Seen.is_true, Seen.is_false, look, clash}
use Rattle.ids.specs.declared.Refusal.{Refusal}
use Rattle.frames.specs.declared.Command.{Command}
use Rattle.frames.specs.declared.Command.TheVariants.{Open, Disconnect, Create, Destroy, Release, Transfer, Send, Receive, Quota, Holders, ShowSeed}
use Rattle.frames.specs.Frame.{parse, payload_of, Parsed}
use Rattle.frames.specs.Legal.{Outcome as Read-as}
use Rattle.frames.proofs.Legal.{legal}
use Rattle.answers.specs.Answer.{answer_size, outcome_of}
use Rattle.model.specs.Numbers.{slots, nodes, owner, most_commands}
use Rattle.model.specs.Lists.{every}
use Rattle.model.specs.State.{Seed, Seed.unset, Seed.kept, State, Status, Status.unopened, Status.opened, Status.disconnected, is_live, Entry, Entry.message, Entry.destroyed, Entry.released}
use Rattle.model.specs.Refusals.{countable, present, openable, holding, owning, pinned, living, fits, takeable, showable, refuses_seed, refuses_open, refuses_disconnect, refuses_receive, refuses_quota, refusal_by}
use Rattle.model.specs.Requests.{destinations, attached}
use Rattle.view.specs.View.{Bus}
use Rattle.judges.specs.Orders.{Sight, sight, resolved, places_in, unless_at, ruling_of}
use Rattle.bus_model.specs.Command.{refused_by, sound_ok, carried, carried_out, command_of}
use Rattle.journal_model.specs.Journal.{is_question}
use Rattle.journal_model.specs.Counted.{changing}
use Rattle.journal_model.specs.Counted.{changing-zero, resolved-changing, question-zero}

-- The numbers of document 01's table, and 0.
abbrev pub in_table : ℕ → Bool
in_table n =
    pick (eqb n 0) true (pick (eqb n EPERM) true (pick (eqb n EIO) true (pick (eqb n ENXIO) true (pick (eqb n EBADF) true (pick (eqb n EAGAIN) true
    (pick (eqb n EEXIST) true (pick (eqb n EINVAL) true (pick (eqb n ENOTTY) true (pick (eqb n ENOSPC) true (pick (eqb n ERANGE) true (pick (eqb n EOVERFLOW) true
    (pick (eqb n EMSGSIZE) true (pick (eqb n ESHUTDOWN) true (pick (eqb n EHOSTUNREACH) true (eqb n EDQUOT)))))))))))))))

abbrev pub OfTable : ℕ → Type 0
OfTable n = in_table n ≡ true

-- Each row, with what is left of the cascade.
of-countable : (b : State) (r : ℕ) → OfTable r → OfTable (countable b r)
of-countable b r h = pick_all OfTable (ltb b.accepted most_commands) r EOVERFLOW h refl

of-present : (s : Status) (r : ℕ) → OfTable r → OfTable (present s r)
of-present unopened r h = refl
of-present opened r h = h
of-present disconnected r h = refl

of-openable : (s : Status) → OfTable (openable s)
of-openable unopened = refl
of-openable opened = refl
of-openable disconnected = refl

of-holding : (find : ℕ → ℕ) (is : List ℕ) (r : ℕ) → OfTable r → OfTable (holding find is r)
of-holding find is r h = pick_all OfTable (every (λ i. ltb (find i) nodes) is) r ENXIO h refl

of-owning : (p s r : ℕ) → OfTable r → OfTable (owning p s r)
of-owning p s r h = pick_all OfTable (eqb (owner s) p) r EPERM h refl

of-living : (b : State) (ss : List ℕ) (r : ℕ) → OfTable r → OfTable (living b ss r)
of-living b ss r h = pick_all OfTable (every (λ s. is_live (b.life s)) ss) r EHOSTUNREACH h refl

of-takeable : (room : ℕ) (q : List Entry) → OfTable (takeable room q)
of-takeable room [] = refl
of-takeable room (message n m ∷ q) = pick_all OfTable (leb (length m.payload + 8 * length m.carried) room) 0 ERANGE refl refl
of-takeable room (destroyed n s ∷ q) = refl
of-takeable room (released n s ∷ q) = refl

of-showable : (room : ℕ) (x : Seed) → OfTable (showable room x)
of-showable room unset = refl
of-showable room (kept payload carried) = pick_all OfTable (leb (length payload + 8 * length carried) room) 0 ERANGE refl refl

-- The cascade of each command, whatever search gives the slots.
pub of-refusal : (find : ℕ → ℕ → ℕ) (free : ℕ → ℕ) (b : State) (f : List ℕ) (k : Command) → OfTable (refusal_by find free b f k)
unfolding refusal_by refuses_open refuses_disconnect refuses_receive refuses_seed refuses_quota
of-refusal find free b f (Open p u) = of-countable b _ (of-openable (b.status p.0))
of-refusal find free b f (Disconnect p) = of-countable b _ (of-present (b.status p.0) _ refl)
of-refusal find free b f (Create p i) =
    of-countable b _ (of-present (b.status p.0) _
    (pick_all OfTable (ltb (find p.0 i.0) nodes) EEXIST _ refl (pick_all OfTable (ltb (free p.0) slots) 0 ENOSPC refl refl)))
of-refusal find free b f (Destroy p i) =
    let s = find p.0 i.0 in
    of-countable b _ (of-present (b.status p.0) _ (of-holding (find p.0) (i.0 ∷ []) _ (of-owning p.0 s _ (of-living b (s ∷ []) 0 refl))))
of-refusal find free b f (Release p i) =
    of-countable b _ (of-present (b.status p.0) _ (of-holding (find p.0) (i.0 ∷ []) _ (pick_all OfTable (pinned b p.0 (find p.0 i.0)) EPERM 0 refl refl)))
of-refusal find free b f (Transfer p i q) =
    of-countable b _ (of-present (b.status p.0) _ (of-present (b.status q.0) _ (of-holding (find p.0) (i.0 ∷ []) _ (of-living b (find p.0 i.0 ∷ []) 0 refl))))
of-refusal find free b f (Send p z) =
    let is = destinations f z in
    let hs = attached f z in
    let ds = map (find p.0) is in
    of-countable b _ (of-present (b.status p.0) _ (of-holding (find p.0) (is ++ hs) _ (of-living b ds _
    (pick_all OfTable (fits b (b.user p.0) ds (length (payload_of f)) (length hs)) 0 EDQUOT refl refl))))
of-refusal find free b f (Receive p room) = of-countable b _ (of-present (b.status p.0) _ (of-takeable room (b.queue p.0)))
of-refusal find free b f (ShowSeed p room) = of-countable b _ (of-present (b.status p.0) _ (of-showable room (b.seed p.0)))
of-refusal find free b f (Quota p u) = of-present (b.status p.0) _ refl
of-refusal find free b f (Holders p i) = of-present (b.status p.0) _ (of-holding (find p.0) (i.0 ∷ []) _ (of-owning p.0 (find p.0 i.0) 0 refl))

of-refused : (n : ℕ) (b : Bus) (out : List ℕ) → OfTable n → OfTable (refused_by n b out).outcome.number
unfolding outcome_of
of-refused n b out h = go (look (ltb (length out) answer_size))
  where
    go : Seen (ltb (length out) answer_size) → OfTable (refused_by n b out).outcome.number
    go (is_true e) = rw e refl
    go (is_false e) = rw e h

of-ruling : (b : Bus) (f out : List ℕ) (v : Sight) (k : Command) → ltb (length out) answer_size ≡ false → OfTable (carried_out b f out (ruling_of v f k)).outcome.number
unfolding carried_out ruling_of
of-ruling b f out v k e = go (look (eqb n 0)) (look (is_question (Ok k)))
  where
    n : ℕ
    n = refusal_by v.find v.free v.state f k

    go : Seen (eqb n 0) → Seen (is_question (Ok k)) →
        OfTable (carried b f out (unless_at n (resolved v k) (places_in v f k)).order (unless_at n (resolved v k) (places_in v f k)).places).outcome.number
    go (is_false z) a = rw z (of-refused n b out (of-refusal v.find v.free v.state f k))
    go (is_true z) (is_true a) = rw (z, question-zero b f out v k (places_in v f k) e a) refl
    go (is_true z) (is_false a) =
        let c : changing (resolved v k) ≡ true = resolved-changing v k ∙ ap (λ (t : Bool). pick t false true) a in
        rw (z, changing-zero b f out (resolved v k) (places_in v f k) e c) refl

pub of-table : (b : Bus) (f out : List ℕ) → OfTable (command_of b f out).outcome.number
unfolding command_of
of-table b f out = go (look (ltb (length out) answer_size)) (look (sound_ok b)) (parse f) refl (legal f)
  where
    sight-of : Sight
    sight-of = sight b.peers b.nodes b.handles b.charges b.rings b.seeds

    refused : (r : Refusal) (m : ℕ) → ltb (length out) answer_size ≡ false → sound_ok b ≡ true → parse f ≡ Err r → OfTable m → refusal_number r ≡ m → OfTable (command_of b f out).outcome.number
    refused r m e s p h q = rw (e, s, p) (of-refused (refusal_number r) b out (subst (λ (x : ℕ). OfTable x) (sym q) h))

    go : Seen (ltb (length out) answer_size) → Seen (sound_ok b) → (x : Parsed) → parse f ≡ x → Read-as f x → OfTable (command_of b f out).outcome.number
    go (is_true e) s x p l = rw e refl
    go (is_false e) (is_false s) x p l = rw (e, s) (of-refused EIO b out refl)
    go (is_false e) (is_true s) (Err r) p (inl q) = refused r EINVAL e s p refl (ap refusal_number q)
    go (is_false e) (is_true s) (Err r) p (inr (inl q)) = refused r ENOTTY e s p refl (ap refusal_number q)
    go (is_false e) (is_true s) (Err r) p (inr (inr q)) = refused r EMSGSIZE e s p refl (ap refusal_number q)
    go (is_false e) (is_true s) (Ok k) p l = rw (e, s, p) (of-ruling b f out sight-of k e)

-- 27 is none of them.
pub never-full : (b : Bus) (f out : List ℕ) → (command_of b f out).outcome.number ≡ EFBIG → ⊥
never-full b f out e = clash (sym (of-table b f out) ∙ ap in_table e)
