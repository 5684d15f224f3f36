-- What showing a seed does to the state that the tables stand for, and what it answers: both are the model's.
-- Assumes nothing.
use Rattle.std.specs.Prelude.{ℕ, suc, ◌+◌, ◌%◌, ◌<◌, ◌≡◌, true, List, length, take}
use Rattle.std.proofs.Math.Path.{refl, ap₂}
use Rattle.std.proofs.Common.{sym, ap, ◌∙◌, arith, get_or-take, length-take-le}
use Rattle.std.proofs.Math.ListN.{get_or}
use Rattle.laws.specs.Tests.{Seen, Seen.is_true, Seen.is_false, look}
use Rattle.laws.specs.Weights.{All, all-at}
use Rattle.laws.specs.Build.{build-length}
use Rattle.ids.specs.Sizes.{peers, most_ids}
use Rattle.answers.specs.Answer.{answer_after, outcome_of}
use Rattle.seeds.specs.Seeds.{row_at, set_at, bytes_at, slots_at, piece_at}
use Rattle.seeds.specs.Seeds.{count_at as carried_at}
use Rattle.seeds.specs.SeedsView.{seed-set, seed-unset, seed-carried}
use Rattle.tables.specs.Listed.{AllListed}
use Rattle.tables.specs.Peers.{modulus, user_at, count_command}
use Rattle.tables.specs.PeersView.{given_counted}
use Rattle.model.specs.Numbers.{nodes}
use Rattle.model.specs.State.{Status.opened, count, Seed.kept, seed_carries, State}
use Rattle.model.specs.Tables.{accept}
use Rattle.model.specs.Refusals.{showable}
use Rattle.model.specs.Changes.{give_all, shown_all}
use Rattle.model.specs.Replies.{Reply, shows_seed}
use Rattle.model.specs.IdsLaws.{Holding}
use Rattle.view.specs.View.{Bus, Shape, state_of}
use Rattle.queues.specs.Queues.{Short}
use Rattle.grants.specs.Giving.{gives_bus, gives_on, Handed, gives-view}
use Rattle.grants.specs.Listing.{listed-gives}
use Rattle.effects.specs.Effects.{Shown, counted, seed_answer, shows}
use Rattle.effects.specs.After.{after_show}
use Rattle.effects.specs.Good.{Good}
use Rattle.effects.specs.Counting.{counting, shape-counted, counted-view, number_more}
use Rattle.effects.specs.Sending.{user-now}
use Rattle.effects.specs.Releasing.{good-short}
use Rattle.effects.specs.Receiving.{shown-accepted, few-counts, good-lone, answers-same}

-- A seed is set where showing it is not refused.
pub set-shown : (t : Bus) (p room : ℕ) → p < peers → showable room ((state_of t).seed p) ≡ 0 → set_at t.seeds p ≡ true
set-shown t p room l e = go (look (set_at t.seeds p))
  where
    go : Seen (set_at t.seeds p) → set_at t.seeds p ≡ true
    go (is_true s) = s
    go (is_false s) = let z : ◌≡◌ {A = ℕ} 11 0 = sym (ap (showable room) (seed-unset t.seeds p l s)) ∙ e in absurd (omega arith)

-- A seed that is set, shown to its peer.
module _ (b : Bus) (p : ℕ) (out : List ℕ) (h : Shape b) (g : Good (state_of b)) (l : p < peers) (set : set_at b.seeds p ≡ true) where
  abbrev many : ℕ
  many = carried_at b.seeds p

  abbrev slots : List ℕ
  slots = slots_at b.seeds p

  abbrev bytes : List ℕ
  bytes = piece_at b.seeds p (bytes_at b.seeds p)

  seed-is : (state_of b).seed p ≡ kept bytes (take many slots)
  seed-is = seed-set b.seeds p l set

  eight : length slots ≡ 8
  unfolding slots_at
  eight = build-length (λ k. get_or b.seeds (row_at p + 4 + k) 0 % nodes) most_ids

  low : All (λ s. s < nodes) (take many slots)
  low = (rw seed-is at (seed-carried b.seeds p)).1

  abbrev number : ℕ
  number = (counted b.peers).number

  shown-is : after_show b p out ≡ gives_bus (counting b) (gives_on (counting b) p number slots many)
  unfolding shows counted
  shown-is = refl

  short : Short b.rings.ends
  short o m = omega (arith, good-short b g o m)

  counts-few : (q s : ℕ) → count ((state_of b).handle q s) + many < modulus
  counts-few q s = omega (arith, few-counts b g q s, g.bounded.few)

  given-few : (state_of (counting b)).given p + many < modulus
  given-few = omega (arith, ap (λ (f : ℕ → ℕ). f p) (given_counted b.peers), g.bounded.given p, g.bounded.few)

  handed : Handed (counting b) p number slots many (gives_on (counting b) p number slots many)
  handed = gives-view (counting b) (shape-counted b h) p number slots l eight (good-lone b g) short many (omega arith) low counts-few given-few

  pub show-view : state_of (after_show b p out) ≡ give_all (accept (state_of b)) p (suc (state_of b).accepted) (seed_carries ((state_of b).seed p))
  show-view =
      ap state_of shown-is ∙ handed.state
      ∙ ap₂ (λ (x : State) (ss : List ℕ). give_all x p number ss) (counted-view b h g) (sym (ap seed_carries seed-is))
      ∙ ap (λ (n : ℕ). give_all (accept (state_of b)) p n (seed_carries ((state_of b).seed p))) (number_more b h g)

  pub shape-show : Shape (after_show b p out)
  shape-show = rw shown-is handed.shape

  pub show-listed : AllListed b.handles → AllListed (after_show b p out).handles
  show-listed a =
      rw (ap (λ (x : Bus). x.handles) shown-is)
      (listed-gives (counting b) (shape-counted b h) p number slots l eight (good-lone b g) short (rw (counted-view b h g) holding) a many (omega arith) low-at counts-few given-few)
    where
      holding : Holding (accept (state_of b))
      holding = unfold accept in (record { handles = g.ids; owned = g.noted.owned })

      low-at : (j : ℕ) → j < many → get_or slots j 0 < nodes
      low-at j lj = rw (get_or-take many slots j 0 lj) at (all-at (λ s. s < nodes) (take many slots) j 0 low (omega (arith, length-take-le many slots (omega (arith, eight)))))

  -- What is answered.
  module _ (was : (state_of b).status p ≡ opened) where
    abbrev made : Shown
    made = shows b.peers b.nodes b.handles b.rings b.seeds p out

    abbrev rep : Reply
    rep = shows_seed (state_of b) p ((state_of b).seed p)

    abbrev told : Reply
    told = shows_seed (state_of b) p (kept bytes (take many slots))

    bytes-length : length bytes ≡ bytes_at b.seeds p
    unfolding piece_at
    bytes-length = build-length _ (bytes_at b.seeds p)

    carried-length : length (take many slots) ≡ many
    carried-length = length-take-le many slots (omega (arith, eight))

    answer-told : seed_answer (user_at (count_command b.peers) p) (bytes_at b.seeds p) many ≡ told.answer
    unfolding seed_answer shows_seed
    answer-told = rw (bytes-length, carried-length, user-now b.peers p l was)

    ids-told : take many (gives_on (counting b) p number slots many).ids ≡ told.ids
    unfolding shows_seed
    ids-told =
        handed.shows
        ∙ ap₂ (λ (x : State) (n : ℕ). shown_all x p n (take many slots)) (counted-view b h g) (number_more b h g)
        ∙ shown-accepted (state_of b) p (suc (state_of b).accepted) (take many slots)

    answers : (made.outcome ≡ outcome_of rep.answer rep.ids rep.payload out) × (made.out ≡ answer_after rep.answer rep.ids rep.payload out)
    unfolding shows counted
    answers =
        rw seed-is
        (answers-same (seed_answer (user_at (count_command b.peers) p) (bytes_at b.seeds p) many) told.answer
        (take many (gives_on (counting b) p number slots many).ids) told.ids bytes told.payload out answer-told ids-told (unfold shows_seed in refl))

    pub show-outcome : (shows b.peers b.nodes b.handles b.rings b.seeds p out).outcome
        ≡ outcome_of (shows_seed (state_of b) p ((state_of b).seed p)).answer (shows_seed (state_of b) p ((state_of b).seed p)).ids (shows_seed (state_of b) p ((state_of b).seed p)).payload out
    show-outcome = answers.0

    pub show-out : (shows b.peers b.nodes b.handles b.rings b.seeds p out).out
        ≡ answer_after (shows_seed (state_of b) p ((state_of b).seed p)).answer (shows_seed (state_of b) p ((state_of b).seed p)).ids (shows_seed (state_of b) p ((state_of b).seed p)).payload out
    show-out = answers.1
