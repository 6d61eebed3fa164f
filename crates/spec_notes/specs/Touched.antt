-- Who is touched by a call: whose record isn't what ageing alone explains, or who moves within a list though its record stays.
use Rattle.std.specs.Prelude.{ℕ, ◌+◌, ◌-◌, Bool, true, false, not, cond, ◌&&◌, ◌||◌, List, [], ◌∷◌, eqb, ltb}
use Rattle.spec_kernel.specs.declared.records.Thread.{Thread}
use Rattle.spec_kernel.specs.declared.records.Semaphore.{Semaphore}
use Rattle.spec_kernel.specs.declared.records.Event.{Event}
use Rattle.spec_kernel.specs.declared.records.Message.{Message}
use Rattle.spec_kernel.specs.declared.records.Kernel.{Kernel}
use Rattle.spec_kernel.specs.Records.{thread, semaphore, event, message}
use Rattle.spec_calls.specs.declared.call.Call.{Call}
use Rattle.spec_refusals.specs.Refusals.{is, is_one_of}
use Rattle.spec_notes.specs.Rows.{full_code, thread_row, semaphore_row, event_row, message_row}

-- two rows are the same
abbrev pub same_row : List ℕ → List ℕ → Bool
same_row [] [] = true
same_row [] (y ∷ ys) = false
same_row (x ∷ xs) [] = false
same_row (x ∷ xs) (y ∷ ys) = let r = same_row xs ys in eqb x y && r

unfoldable pub same_thread : Thread → Thread → Bool
same_thread r s = eqb (full_code r) (full_code s) && same_row (thread_row r 0 0) (thread_row s 0 0)

unfoldable pub same_semaphore : Semaphore → Semaphore → Bool
same_semaphore r s = same_row (semaphore_row r) (semaphore_row s)

unfoldable pub same_event : Event → Event → Bool
same_event r s = same_row (event_row r) (event_row s)

unfoldable pub same_message : Message → Message → Bool
same_message r s = same_row (message_row r 0) (message_row s 0)

-- one tick more, as far as the field goes
abbrev pub one_tick_more : ℕ → ℕ
one_tick_more n = cond (ltb n 4294967295) (n + 1) n

-- A tick is computed back: the record before, of the record after, where the call did not touch it
unfoldable pub younger_thread : Call → Thread → Thread
younger_thread c r =
    record {
      live = r.live;
      priority = r.priority;
      first = r.first;
      condition = r.condition;
      ticks = cond (is c 1 && ltb 0 r.ticks) (one_tick_more r.ticks) r.ticks;
      wake = r.wake;
      reply = r.reply;
    }

-- A periodic semaphore whose ticks are its period was posted: it had one left, and its count was one less, unless it is at 0, where a
-- waiter woke, or at its maximum, where it mostly was before.
abbrev pub ticks_before_pulse : Semaphore → ℕ
ticks_before_pulse r = cond (eqb r.ticks r.period) 1 (one_tick_more r.ticks)

abbrev pub count_before_pulse : Semaphore → ℕ
count_before_pulse r = cond (eqb r.ticks r.period) (cond (eqb r.count r.maximum) r.count (r.count - 1)) r.count

unfoldable pub younger_semaphore : Call → Semaphore → Semaphore
younger_semaphore c r =
    record {
      live = r.live;
      count = cond (is c 1 && ltb 0 r.period) (count_before_pulse r) r.count;
      maximum = r.maximum;
      ticks = cond (is c 1 && ltb 0 r.period) (ticks_before_pulse r) r.ticks;
      period = r.period;
    }

-- a yield, and a priority that is set or reset, move a thread though its record may stay
abbrev pub moves_in_place : ℕ → Call → ℕ → Bool
moves_in_place runner c t = (is c 6 && eqb t runner) || (is_one_of c (4 ∷ 5 ∷ []) && eqb t c.a)

-- `runner` is who ran before the call
abbrev pub changed_thread : ℕ → ℕ → Call → Thread → Thread → Bool
changed_thread t runner c old new = not (same_thread old (younger_thread c new)) || moves_in_place runner c t

abbrev pub changed_semaphore : Call → Semaphore → Semaphore → Bool
changed_semaphore c old new = not (same_semaphore old (younger_semaphore c new))

abbrev pub changed_event : Event → Event → Bool
changed_event old new = not (same_event old new)

abbrev pub changed_message : Message → Message → Bool
changed_message old new = not (same_message old new)

-- ---- the records of an id before and after
unfoldable pub touched_thread : Kernel → Call → Kernel → ℕ → Bool
touched_thread k c k' t = changed_thread t k.runner c (thread k t) (thread k' t)

unfoldable pub touched_semaphore : Kernel → Call → Kernel → ℕ → Bool
touched_semaphore k c k' i = changed_semaphore c (semaphore k i) (semaphore k' i)

unfoldable pub touched_event : Kernel → Call → Kernel → ℕ → Bool
touched_event k c k' i = changed_event (event k i) (event k' i)

unfoldable pub touched_message : Kernel → Call → Kernel → ℕ → Bool
touched_message k c k' m = changed_message (message k m) (message k' m)
