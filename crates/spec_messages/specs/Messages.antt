-- Messages: create, destroy, post and pend.
use Rattle.std.specs.Prelude.{ℕ, true, cond, eqb}
use Rattle.spec_kernel.specs.declared.records.Condition.TheVariants.{ForMessage}
use Rattle.spec_kernel.specs.declared.records.Wake.{Wake}
use Rattle.spec_kernel.specs.declared.records.Message.{Message}
use Rattle.spec_kernel.specs.declared.records.Kernel.{Kernel}
use Rattle.spec_kernel.specs.Records.{thread, message, no_message}
use Rattle.spec_kernel.specs.Conditions.{awaits}
use Rattle.spec_kernel.specs.Free.{free_message}
use Rattle.spec_kernel.specs.Channels.{next_message}
use Rattle.spec_calls.specs.declared.call.Call.{Call}
use Rattle.spec_moves.specs.States.{move_thread, move_message, as_byte}
use Rattle.spec_threads.specs.Threads.{awake, block}

-- the record in other hands: its owner, its last poster, its channel (0: held)
abbrev pub passed : ℕ → ℕ → ℕ → Message → Message
passed owner sender channel r =
    record {
      live = r.live;
      owner = owner;
      sender = sender;
      kind = r.kind;
      size = r.size;
      address = r.address;
      channel = channel;
    }

-- kind 24: create message, type b, size c, address d. The caller is its owner and sender [01, calls: Message 1; state 6.4].
unfoldable pub create_message : Kernel → Call → Kernel
create_message k c =
    move_message (free_message k)
    (record {
      live = true;
      owner = k.runner;
      sender = k.runner;
      kind = c.b;
      size = c.c;
      address = c.d;
      channel = 0;
    })
    k

-- kind 25: destroy message a
unfoldable pub destroy_message : Kernel → Call → Kernel
destroy_message k c = move_message c.a no_message k

-- Thread t waits for message m when it is posted: it holds it, has it as its reply, and wakes as met [01, calls: Message 4].
unfoldable pub hand_over : ℕ → ℕ → Kernel → Kernel
hand_over m t k = move_thread t (awake Wake.Met m (thread k t)) (move_message m (passed t k.runner 0 (message k m)) k)

-- kind 26: the message belongs to the recipient now; it is handed over where awaited, else last in its channel [01, calls: Message 2, 4].
unfoldable pub post_message : Kernel → Call → Kernel
post_message k c =
    cond (awaits (thread k c.b).condition (as_byte c.c))
    (hand_over c.a (as_byte c.b) k)
    (move_message c.a (passed (as_byte c.b) k.runner (as_byte c.c) (message k c.a)) k)

-- The owner takes message m out of its channel and holds it [01, state 6.3].
unfoldable pub receive : ℕ → Kernel → Kernel
receive m k = move_message m (passed (message k m).owner (message k m).sender 0 (message k m)) k

-- kind 27: the caller takes the oldest message of the lowest masked channel with any; with none it blocks [01, calls: Message 3].
unfoldable pub pend_message : Kernel → Call → Kernel
pend_message k c =
    cond (eqb (next_message k c.b) 255) (block (ForMessage c.b) c.c k) (receive (next_message k c.b) k)
