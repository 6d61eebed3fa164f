-- Threads: blocking and waking, create and destroy, priorities, yield and sleep.
use Rattle.std.specs.Prelude.{ℕ, Bool, true, not, cond, ◌&&◌, map, eqb}
use Rattle.base_queue.specs.Lists.{keep}
use Rattle.base_queue.specs.Queues.{items, pack}
use Rattle.spec_kernel.specs.declared.records.Condition.{Condition}
use Rattle.spec_kernel.specs.declared.records.Condition.TheVariants.{Ready, Asleep}
use Rattle.spec_kernel.specs.declared.records.Wake.{Wake}
use Rattle.spec_kernel.specs.declared.records.Thread.{Thread}
use Rattle.spec_kernel.specs.declared.records.Message.{Message}
use Rattle.spec_kernel.specs.declared.records.Kernel.{Kernel}
use Rattle.spec_kernel.specs.Records.{thread, message, no_thread, no_message}
use Rattle.spec_kernel.specs.Free.{free_thread}
use Rattle.spec_calls.specs.declared.call.Call.{Call}
use Rattle.spec_moves.specs.declared.parts.Threads.{Threads}
use Rattle.spec_moves.specs.Moves.{relocate, thread_in}
use Rattle.spec_moves.specs.Standing.{at_home_in}
use Rattle.spec_moves.specs.States.{with_posts, move_thread, each, as_byte}

-- A new thread's record: ready, this priority its first one too, wake reason none, reply 255 [01, calls: Blocking 5].
abbrev pub born : ℕ → Thread
born priority =
    record { live = true; priority = priority; first = priority; condition = Ready; ticks = 0; wake = Wake.None; reply = 255 }

-- The record of one that blocks or sleeps: its timeout as ticks left, wake reason none, reply 255 [01, calls: Blocking 5].
abbrev pub blocked : Condition → ℕ → Thread → Thread
blocked condition timeout r =
    record {
      live = r.live;
      priority = r.priority;
      first = r.first;
      condition = condition;
      ticks = timeout;
      wake = Wake.None;
      reply = 255;
    }

-- The record of one that wakes: ready, without ticks left, and with the reason and the reply that the wake gives [01, calls: Blocking 5].
abbrev pub awake : Wake → ℕ → Thread → Thread
awake why reply r =
    record {
      live = r.live;
      priority = r.priority;
      first = r.first;
      condition = Ready;
      ticks = 0;
      wake = why;
      reply = reply;
    }

abbrev pub with_priority : ℕ → Thread → Thread
with_priority priority r =
    record {
      live = r.live;
      priority = priority;
      first = r.first;
      condition = r.condition;
      ticks = r.ticks;
      wake = r.wake;
      reply = r.reply;
    }

-- The caller stops: out of its ready list, into its queue behind its equals; with timeout 0 it isn't timed [01, calls: Blocking 1, 2].
unfoldable pub block : Condition → ℕ → Kernel → Kernel
block condition timeout k = move_thread k.runner (blocked condition timeout (thread k k.runner)) k

-- Thread t wakes: out of its queues and last in the list of its priority; no message came, so its reply stays [01, calls: Blocking 3, 5].
unfoldable pub wake : Wake → ℕ → Kernel → Kernel
wake why t k = move_thread t (awake why (thread k t).reply (thread k t)) k

-- over the part that threads move in: thread t wakes as met
unfoldable pub wake_in : ℕ → Threads → Threads
wake_in t p = relocate t (awake Wake.Met (thread_in p t).reply (thread_in p t)) p

-- all that stand in an object's queue wake, in queue order: the one place that empties a queue
unfoldable pub woken_in : ℕ → Threads → Threads
woken_in home p = each wake_in (at_home_in p home) p

-- kind 2: create thread, priority a
unfoldable pub create_thread : Kernel → Call → Kernel
create_thread k c = move_thread (free_thread k) (born c.a) k

-- All that thread t owns is freed, held or queued [01, calls: Threads 3].
abbrev pub owns : ℕ → Message → Bool
owns t r = r.live && eqb r.owner t

abbrev pub freed_from : ℕ → Message → Message
freed_from t r = cond (owns t r) no_message r

unfoldable pub free_messages : ℕ → Kernel → Kernel
free_messages t k =
    with_posts
    (record {
      records = map (freed_from t) k.messages;
      posted = pack (keep (λ m. not (owns t (message k m))) (items k.posted));
    })
    k

-- kind 3: thread a leaves its list and every queue, and its messages are freed [01, calls: Threads 3].
unfoldable pub destroy_thread : Kernel → Call → Kernel
destroy_thread k c = move_thread c.a no_thread (free_messages c.a k)

-- kinds 4 and 5: thread a gets priority b, or its first one again, and stands behind all that have it too, in a ready list or
-- in its queue; the same where it had this priority before [01, calls: Threads 2].
unfoldable pub set_priority : Kernel → Call → Kernel
set_priority k c = move_thread c.a (with_priority (as_byte c.b) (thread k c.a)) k

unfoldable pub reset_priority : Kernel → Call → Kernel
reset_priority k c = move_thread c.a (with_priority (thread k c.a).first (thread k c.a)) k

-- kind 6: the caller goes behind all others of its priority [01, calls: Threads 1].
unfoldable pub yielded : Kernel → Call → Kernel
yielded k c = move_thread k.runner (thread k k.runner) k

-- kind 7: sleep c
unfoldable pub sleep : Kernel → Call → Kernel
sleep k c = block Asleep c.c k
