-- The buffers of a run, seen, are the model's state: a fresh bus is the model's start, and each command does what the model's step does, to the number, the state and every
-- byte of the answer buffer. So no command of a run is answered 5.
-- Assumes nothing.
use Rattle.std.specs.Prelude.{ℕ, ◌+◌, ◌*◌, ◌≡◌, true, List, [], map, length, replicate}
use Rattle.std.proofs.Math.Path.{refl}
use Rattle.std.proofs.Common.{◌∙◌, eq-eqb, lt-ltb, le-leb}
use Rattle.std.proofs.lemmas.List.{length-replicate}
use Rattle.laws.specs.Tables.{zeros-at}
use Rattle.laws.specs.Guards.{upto-ext, upto-const}
use Rattle.rings.specs.Rings.{rings_of}
use Rattle.rings.specs.Laws.{queue-empty}
use Rattle.pool.specs.Pool.{paired}
use Rattle.tables.specs.Fresh.{status-fresh, user-fresh, given-fresh, accepted-fresh, life-fresh, handle-fresh, charges-fresh}
use Rattle.tables.specs.Listed.{AllListed, listed-fresh}
use Rattle.seeds.specs.SeedsView.{zeros-unset}
use Rattle.model.specs.State.{State, start}
use Rattle.model.specs.Step.{Result}
use Rattle.view.specs.View.{Bus, Shape, entry_v, rows_v, queue_v, state_of}
use Rattle.effects.specs.Ranges.{Raw, InRange, raw-fresh}
use Rattle.bus_model.specs.Command.{sized_ok, peer_ok, Done, fresh_bus}
use Rattle.ids.specs.Sizes.{peers, end_fields}
use Rattle.ids.specs.Sizes.{peers_size, nodes_size, handles_size, ends_size, entries_size, carried_size, numbers_size, pool_size, seeds_size}
use Rattle.tables.specs.Charges.{charges_size}

-- A bus that stands for a state.
pub record Tied (b : Bus) (st : State) : Type 0 where
  pub shape : Shape b
  pub raw : Raw b
  pub listed : AllListed b.handles
  pub view : state_of b ≡ st

-- What comes of a command is what comes of the model's step.
pub record SameAs (d : Done) (r : Result) : Type 0 where
  pub tied : Tied d.bus r.state
  pub outcome : d.outcome ≡ r.outcome
  pub buffer : d.out ≡ r.buffer

-- The tests for EIO pass on a bus that stands for a state of a run.
pub sized-true : (b : Bus) → Shape b → sized_ok b ≡ true
unfolding sized_ok
sized-true b s =
    rw (
      eq-eqb (length b.peers) peers_size s.peers,
      eq-eqb (length b.nodes) nodes_size s.nodes,
      eq-eqb (length b.handles) handles_size s.handles,
      eq-eqb (length b.charges) charges_size s.charges,
      eq-eqb (length b.rings.ends) ends_size s.ends,
      eq-eqb (length b.rings.rows.entries) entries_size s.rows.entries,
      eq-eqb (length b.rings.rows.carried) carried_size s.rows.carried,
      eq-eqb (length b.rings.rows.numbers) numbers_size s.rows.numbers,
      eq-eqb (length b.pool) pool_size s.pool,
      eq-eqb (length b.seeds) seeds_size s.seeds,
    )

pub peer-true : (b : Bus) (p : ℕ) → InRange b p → peer_ok b.peers b.rings.ends p ≡ true
unfolding peer_ok
peer-true b p r = rw (le-leb _ _ r.state, le-leb _ _ r.user, lt-ltb _ _ r.given, lt-ltb _ _ r.head, le-leb _ _ r.short)

-- A fresh bus.
queue-fresh : (n m : ℕ) (e c s t : List ℕ) → queue_v (rings_of (replicate n 0) e c s) t ≡ (λ p. [])
unfolding queue_v rows_v paired
queue-fresh n m e c s t =
    upto-ext peers [] (λ p. map entry_v (rows_v (rings_of (replicate n 0) e c s) t p)) (λ p. []) (λ p l. rw (queue-empty (rings_of (replicate n 0) e c s) p (zeros-at n (p * end_fields + 1))))
    ∙ upto-const peers []

pub fresh-tied : Tied fresh_bus start
unfolding fresh_bus start
fresh-tied =
    record {
      shape =
          record {
            peers = length-replicate {A = ℕ} peers_size 0;
            nodes = length-replicate {A = ℕ} nodes_size 0;
            handles = length-replicate {A = ℕ} handles_size 0;
            charges = length-replicate {A = ℕ} charges_size 0;
            ends = length-replicate {A = ℕ} ends_size 0;
            rows = record { entries = length-replicate {A = ℕ} entries_size 0; carried = length-replicate {A = ℕ} carried_size 0; numbers = length-replicate {A = ℕ} numbers_size 0 };
            pool = length-replicate {A = ℕ} pool_size 0;
            seeds = length-replicate {A = ℕ} seeds_size 0;
          };
      raw = raw-fresh fresh_bus peers_size ends_size refl refl;
      listed = listed-fresh handles_size;
      view =
          rw (
            status-fresh peers_size,
            user-fresh peers_size,
            given-fresh peers_size,
            handle-fresh handles_size,
            queue-fresh ends_size 0 (replicate entries_size 0) (replicate carried_size 0) (replicate numbers_size 0) (replicate pool_size 0),
            charges-fresh charges_size,
            zeros-unset seeds_size,
            life-fresh nodes_size,
            accepted-fresh peers_size,
          );
    }
