-- What a call names, read off the table of kinds: all that the refusals, the answer and the note ask of the state.
use Rattle.std.specs.Prelude.{ℕ, cond, ◌&&◌, eqb}
use Rattle.base_queue.specs.Lists.{first_of}
use Rattle.spec_kernel.specs.declared.records.Kernel.{Kernel}
use Rattle.spec_kernel.specs.Records.{thread, semaphore, event, message, flag, no_semaphore, no_message}
use Rattle.spec_kernel.specs.Conditions.{Class, of_semaphores, of_flags}
use Rattle.spec_kernel.specs.Places.{queue_of}
use Rattle.spec_kernel.specs.Truth.{is_true}
use Rattle.spec_kernel.specs.Free.{free_thread, free_semaphore, free_message, free_flag}
use Rattle.spec_kernel.specs.Channels.{next_message}
use Rattle.spec_calls.specs.declared.call.Call.{Call}
use Rattle.spec_calls.specs.declared.kinds.Which.TheVariants.{A, New, Taken, Waiter}
use Rattle.spec_calls.specs.Kinds.{is_which, kind_of, names, id_named}
use Rattle.spec_refusals.specs.declared.named.Named.{Named}

-- What may have waiters: the flag that a call names, else the semaphore.
abbrev pub class_by : Call → Class
class_by c = cond (names (kind_of c).flag) of_flags of_semaphores

-- The first that waits for semaphore or flag a, of the kinds that it stops or that wake it, else 255.
unfoldable pub waiter_by : Kernel → Call → ℕ
waiter_by k c = cond (is_which (kind_of c).thread Waiter) (first_of (queue_of (class_by c) k c.a)) 255

-- The value to come: the lowest free id of what is created, the message that a pend takes, else 255 [01, answers 1].
unfoldable pub value_of : Kernel → Call → ℕ
value_of k c =
    cond (is_which (kind_of c).thread New) (free_thread k)
    (cond (is_which (kind_of c).semaphore New) (free_semaphore k)
    (cond (is_which (kind_of c).message New) (free_message k)
    (cond (is_which (kind_of c).message Taken) (next_message k c.b)
    (cond (is_which (kind_of c).flag New) (free_flag k) 255))))

-- The thread, semaphore, event, message and flag that a call names, and these two [01, records: table].
unfoldable pub named : Kernel → Call → Named
named k c =
    record {
      thread = names (kind_of c).thread && (thread k (id_named (kind_of c).thread c)).live;
      semaphore = cond (names (kind_of c).semaphore) (semaphore k c.a) no_semaphore;
      truth = is_which (kind_of c).event A && is_true k.bits (event k c.a);
      message = cond (names (kind_of c).message) (message k c.a) no_message;
      waiter = waiter_by k c;
      found = value_of k c;
      flag = names (kind_of c).flag && flag k c.a;
    }
