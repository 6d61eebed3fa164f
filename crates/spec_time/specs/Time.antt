-- The tick: uptime, time-outs in time queue order, then periodic semaphores in id order.
use Rattle.std.specs.Prelude.{ℕ, zero, suc, ◌+◌, ◌-◌, cond, List, map, eqb}
use Rattle.base_queue.specs.Lists.{keep}
use Rattle.base_queue.specs.Queues.{items}
use Rattle.spec_kernel.specs.declared.records.Condition.{Condition}
use Rattle.spec_kernel.specs.declared.records.Condition.TheVariants.{Ready, Asleep, ForSemaphore, ForEvent, ForMessage, ForFlag}
use Rattle.spec_kernel.specs.declared.records.Object.{Object}
use Rattle.spec_kernel.specs.declared.records.Wake.{Wake}
use Rattle.spec_kernel.specs.declared.records.Thread.{Thread}
use Rattle.spec_kernel.specs.declared.records.Kernel.{Kernel}
use Rattle.spec_moves.specs.declared.parts.Threads.{Threads}
use Rattle.spec_kernel.specs.Sizes.{semaphore_count}
use Rattle.spec_kernel.specs.Records.{semaphore}
use Rattle.spec_moves.specs.Moves.{relocate, thread_in}
use Rattle.spec_moves.specs.Standing.{threads_of}
use Rattle.spec_calls.specs.declared.call.Call.{Call}
use Rattle.spec_moves.specs.States.{with_threads, with_semaphore, with_uptime, each}
use Rattle.spec_threads.specs.Threads.{awake}
use Rattle.spec_semaphores.specs.Semaphores.{with_ticks, post}

-- The uptime one tick later; after 4,294,967,295 comes 0 [01, calls: Tick 1].
abbrev pub later : ℕ → ℕ
later uptime = cond (eqb uptime 4294967295) 0 (uptime + 1)

-- The reason of one whose time is up: met for a sleeper, timed out for a waiter, with its object kind [01, calls: Tick 2].
abbrev pub reason_at : Condition → Wake
reason_at Ready = Wake.Met
reason_at Asleep = Wake.Met
reason_at (ForSemaphore i) = Wake.TimedOut Object.Semaphore
reason_at (ForEvent i) = Wake.TimedOut Object.Event
reason_at (ForMessage mask) = Wake.TimedOut Object.Message
reason_at (ForFlag i) = Wake.TimedOut Object.Flag

unfoldable pub time_up : ℕ → Threads → Threads
time_up t p = relocate t (awake (reason_at (thread_in p t).condition) (thread_in p t).reply (thread_in p t)) p

-- those whose last tick this is, in time queue order
unfoldable pub due : Threads → List ℕ
due p = keep (λ t. eqb (thread_in p t).ticks 1) (items p.time)

abbrev pub aged : Thread → Thread
aged r =
    record {
      live = r.live;
      priority = r.priority;
      first = r.first;
      condition = r.condition;
      ticks = r.ticks - 1;
      wake = r.wake;
      reply = r.reply;
    }

unfoldable pub age_all : Threads → Threads
age_all p = record { records = map aged p.records; places = p.places; time = p.time }

-- Whose last tick this is wakes first, in time queue order; then all that still have ticks left lose one [01, calls: Tick 2].
unfoldable pub time_passes : Threads → Threads
time_passes p = age_all (each time_up (due p) p)

-- Semaphore i, where it is periodic, has a tick less; with its last one it is posted and its period begins again [01, calls: Tick 3].
unfoldable pub pulse : ℕ → Kernel → Kernel
pulse i k =
    cond (eqb (semaphore k i).period 0) k
    (cond (eqb (semaphore k i).ticks 1)
    (with_semaphore i (with_ticks (semaphore k i).period (semaphore k i).period (semaphore (post i k) i)) (post i k))
    (with_semaphore i (with_ticks ((semaphore k i).ticks - 1) (semaphore k i).period (semaphore k i)) k))

-- n semaphores from i on, in id order
unfoldable pub pulse_from : ℕ → ℕ → Kernel → Kernel
pulse_from i zero k = k
pulse_from i (suc n) k = pulse_from (suc i) n (pulse i k)

-- kind 1
unfoldable pub tick : Kernel → Call → Kernel
tick k c = pulse_from 0 semaphore_count (with_threads (time_passes (threads_of k)) (with_uptime (later k.uptime) k))
