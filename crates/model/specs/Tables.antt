-- One table of the state changed, and the others left alone.
-- Assumes nothing.
use Rattle.std.specs.Prelude.{ℕ, suc, List}
use Rattle.laws.specs.Tables.{upd}
use Rattle.quota.specs.declared.Charges.{Charges}
use Rattle.model.specs.State.{Status, Life, Handle, Entry, Seed, State}

unfoldable pub with_status : State → ℕ → Status → State
with_status b p x =
    record {
      status = upd b.status p x;
      user = b.user;
      given = b.given;
      handle = b.handle;
      queue = b.queue;
      charges = b.charges;
      seed = b.seed;
      life = b.life;
      accepted = b.accepted;
    }

unfoldable pub with_user : State → ℕ → ℕ → State
with_user b p u =
    record {
      status = b.status;
      user = upd b.user p u;
      given = b.given;
      handle = b.handle;
      queue = b.queue;
      charges = b.charges;
      seed = b.seed;
      life = b.life;
      accepted = b.accepted;
    }

unfoldable pub with_given : State → (ℕ → ℕ) → State
with_given b f =
    record { status = b.status; user = b.user; given = f; handle = b.handle; queue = b.queue; charges = b.charges; seed = b.seed; life = b.life; accepted = b.accepted }

-- The handles of a peer; one of them.
unfoldable pub with_handles : State → ℕ → (ℕ → Handle) → State
with_handles b p h =
    record {
      status = b.status;
      user = b.user;
      given = b.given;
      handle = upd b.handle p h;
      queue = b.queue;
      charges = b.charges;
      seed = b.seed;
      life = b.life;
      accepted = b.accepted;
    }

abbrev pub with_handle : State → ℕ → ℕ → Handle → State
with_handle b p s x = with_handles b p (upd (b.handle p) s x)

-- The queues; the queue of a peer.
unfoldable pub with_queues : State → (ℕ → List Entry) → State
with_queues b f =
    record { status = b.status; user = b.user; given = b.given; handle = b.handle; queue = f; charges = b.charges; seed = b.seed; life = b.life; accepted = b.accepted }

abbrev pub with_queue : State → ℕ → List Entry → State
with_queue b p q = with_queues b (upd b.queue p q)

unfoldable pub with_charges : State → (ℕ → Charges) → State
with_charges b f =
    record { status = b.status; user = b.user; given = b.given; handle = b.handle; queue = b.queue; charges = f; seed = b.seed; life = b.life; accepted = b.accepted }

-- The seed of a peer.
unfoldable pub with_seed : State → ℕ → Seed → State
with_seed b p x =
    record { status = b.status; user = b.user; given = b.given; handle = b.handle; queue = b.queue; charges = b.charges; seed = upd b.seed p x; life = b.life; accepted = b.accepted }

unfoldable pub with_lives : State → (ℕ → Life) → State
with_lives b f =
    record { status = b.status; user = b.user; given = b.given; handle = b.handle; queue = b.queue; charges = b.charges; seed = b.seed; life = f; accepted = b.accepted }

-- One more command is accepted.
unfoldable pub accept : State → State
accept b =
    record { status = b.status; user = b.user; given = b.given; handle = b.handle; queue = b.queue; charges = b.charges; seed = b.seed; life = b.life; accepted = suc b.accepted }
