-- Events and event bits: load, pend, set and clear.
use Rattle.std.specs.Prelude.{ℕ, zero, suc, cond, List, eqb, get_or}
use Rattle.base_bits.specs.Words.{with_bit, without_bit}
use Rattle.spec_kernel.specs.declared.records.Condition.TheVariants.{ForEvent}
use Rattle.spec_kernel.specs.declared.records.Event.{Event}
use Rattle.spec_kernel.specs.declared.records.Kernel.{Kernel}
use Rattle.spec_moves.specs.declared.parts.Threads.{Threads}
use Rattle.spec_kernel.specs.Sizes.{event_count}
use Rattle.spec_kernel.specs.Records.{event, no_event}
use Rattle.spec_kernel.specs.Conditions.{of_events}
use Rattle.spec_kernel.specs.Places.{home}
use Rattle.spec_kernel.specs.Truth.{is_true}
use Rattle.spec_moves.specs.Standing.{threads_of}
use Rattle.spec_calls.specs.declared.call.Call.{Call}
use Rattle.spec_moves.specs.States.{with_threads, with_event, with_bits}
use Rattle.spec_threads.specs.Threads.{block, woken_in}

-- If event i is TRUE, all that wait for it wake, the first in its queue first [01, calls: Event 5].
unfoldable pub work_out : List Event → ℕ → ℕ → Threads → Threads
work_out events bits i p = cond (is_true bits (get_or events i no_event)) (woken_in (home of_events i) p) p

-- n events from i on, in id order
unfoldable pub work_out_from : List Event → ℕ → ℕ → ℕ → Threads → Threads
work_out_from events bits i zero p = p
work_out_from events bits i (suc n) p = work_out_from events bits (suc i) n (work_out events bits i p)

-- All events, the lowest id first; kinds 20, 22, 23, 29 and 30 end with this, in a region too [01, calls: Event 5].
unfoldable pub worked_out : Kernel → Kernel
worked_out k = with_threads (work_out_from k.events k.bits 0 event_count (threads_of k)) k

-- kind 20: load event a, mode b (0 all, 1 any), mask c, values d
unfoldable pub load_event : Kernel → Call → Kernel
load_event k c = worked_out (with_event c.a (record { any = eqb c.b 1; mask = c.c; values = c.d }) k)

-- kind 21: nothing changes if the event is TRUE, else the caller blocks [01, calls: Event 4].
unfoldable pub pend_event : Kernel → Call → Kernel
pend_event k c = cond (is_true k.bits (event k c.a)) k (block (ForEvent c.a) c.c k)

-- kinds 22 and 29, 23 and 30: set and clear event bit a
unfoldable pub set_bit : Kernel → Call → Kernel
set_bit k c = worked_out (with_bits (with_bit k.bits c.a) k)

unfoldable pub clear_bit : Kernel → Call → Kernel
clear_bit k c = worked_out (with_bits (without_bit k.bits c.a) k)
