-- What of an old record can be told from the call and the record after it: the closer, the shorter the note.
-- Nothing here has to be right: a field that isn't as predicted is written.
use Rattle.std.specs.Prelude.{ℕ, ◌+◌, ◌-◌, ◌%◌, Bool, not, cond, ◌&&◌, ◌||◌, List, [], ◌∷◌, eqb, ltb}
use Rattle.base_bits.specs.Words.{with_bit}
use Rattle.spec_kernel.specs.declared.records.Condition.{Condition}
use Rattle.spec_kernel.specs.declared.records.Thread.{Thread}
use Rattle.spec_kernel.specs.declared.records.Semaphore.{Semaphore}
use Rattle.spec_kernel.specs.declared.records.Event.{Event}
use Rattle.spec_kernel.specs.declared.records.Message.{Message}
use Rattle.spec_kernel.specs.declared.records.Kernel.{Kernel}
use Rattle.spec_kernel.specs.Sizes.{flag_count}
use Rattle.spec_kernel.specs.Conditions.{ready_for, is_ready}
use Rattle.spec_calls.specs.declared.call.Call.{Call}
use Rattle.spec_refusals.specs.Refusals.{is, is_one_of}
use Rattle.spec_notes.specs.Rows.{thread_code, condition_data, wake_code, event_row, scheduler_row}

-- The code of a touched thread before. At a tick its wake reason tells it: one that was met slept, one that timed out waited. Else the kind
-- does: a new one wasn't live, who wakes waited for what the call is about, a priority is set where the thread is, and a caller was ready.
unfoldable pub predicted_code : Call → Thread → ℕ
predicted_code c r =
    cond (is c 1) (wake_code r.wake + 1)
    (cond (is c 2) 0
    (cond (is_one_of c (4 ∷ 5 ∷ [])) (thread_code r)
    (cond (is_one_of c (19 ∷ 28 ∷ [])) 3
    (cond (is_one_of c (20 ∷ 22 ∷ 23 ∷ 29 ∷ 30 ∷ [])) 4
    (cond (is c 26) 5 (cond (is c 34) 6 1))))))

-- the thread slept or waited, of its code
abbrev pub was_blocked : ℕ → Bool
was_blocked code = ltb 1 code

-- it was ready, and sleeps or waits now
abbrev pub blocks : ℕ → Thread → Bool
blocks code r = eqb code 1 && not (ready_for r.condition)

-- what it waits for now, as far as the field of that code goes
abbrev pub data_now : ℕ → Condition → ℕ
data_now code condition = cond (eqb code 5) (condition_data condition) (condition_data condition % 256)

-- A thread of this code before: one that wasn't live was all zero; a ready one had no ticks left, one whose time was up had one; a blocked
-- one that is ready now had no reason and no reply, one that blocks had been met; the caller stood first, and who waited for a flag behind
-- its poster; one that slept woke first.
unfoldable pub predicted_thread : Call → Thread → ℕ → List ℕ
predicted_thread c r code =
    cond (eqb code 0) 0 r.priority
    ∷ cond (eqb code 0) 0 r.first
    ∷ cond (ltb 2 code) (cond (is_one_of c (19 ∷ 28 ∷ 34 ∷ [])) c.a (data_now code r.condition)) 0
    ∷ cond (was_blocked code) (cond (is c 1) 1 r.ticks) 0
    ∷ cond (was_blocked code && is_ready r) 0 (cond (blocks code r) 1 (wake_code r.wake))
    ∷ cond (eqb code 0) 0 (cond (not r.live || (was_blocked code && is_ready r)) 255 r.reply)
    ∷ cond (is c 34) 1 (cond (eqb code 1 || eqb code 3 || eqb code 4 || eqb code 6) 0 255)
    ∷ cond (eqb code 2 || (is c 1 && was_blocked code)) 0 255
    ∷ []

-- A count before a pend that passed is one more, as far as the field goes; before a post that counted it is one less. At a tick ageing
-- tells a post already (`count_before_pulse`): an entry says that it was the other way, so that a full one has counted it.
abbrev pub count_before : Call → Semaphore → ℕ
count_before c r =
    cond (is c 18) (cond (ltb r.count 65535) (r.count + 1) r.count)
    (cond (is_one_of c (19 ∷ 28 ∷ []) || (is c 1 && eqb r.count r.maximum)) (r.count - 1) r.count)

-- A semaphore: one that a tick posted had one tick left; a new one was none; one that was destroyed was live.
unfoldable pub predicted_semaphore : Call → Semaphore → List ℕ
predicted_semaphore c r =
    cond (is c 14) 0 1
    ∷ cond (is c 14) 0 (count_before c r)
    ∷ cond (is c 14) 0 r.maximum
    ∷ cond (is c 1) 1 r.ticks
    ∷ r.period
    ∷ 0
    ∷ 0
    ∷ 0
    ∷ []

abbrev pub predicted_event : Event → List ℕ
predicted_event r = event_row r

-- A message: a new one was none; one that went was live and the owner's; one that was posted was its poster's, who held it.
unfoldable pub predicted_message : Call → ℕ → Message → List ℕ
predicted_message c runner r =
    cond (is c 24) 0 1
    ∷ cond (is c 24) 0 (cond (is c 3) c.a (cond (is c 25) runner (cond (is c 26) r.sender r.owner)))
    ∷ cond (is c 24) 0 (cond (is c 3) c.a (cond (is c 25) runner r.sender))
    ∷ cond (is c 24) 0 r.kind
    ∷ cond (is c 24) 0 r.size
    ∷ cond (is c 24) 0 r.address
    ∷ 0
    ∷ cond (is c 27) 0 255
    ∷ []

-- The flags: the one that was destroyed was live.
unfoldable pub predicted_flags : Call → ℕ → ℕ
predicted_flags c flags = cond (is c 32 && ltb c.a flag_count) (with_bit flags c.a) flags

-- The levels before a push and a pop, which a flag's pend is too; the runner as after.
abbrev pub predicted_levels : Call → ℕ → ℕ → ℕ → List ℕ
predicted_levels c unscheduled critical runner =
    scheduler_row
    (cond (is c 8) (unscheduled - 1) (cond (is c 9) (unscheduled + 1) unscheduled))
    (cond (is c 11) (critical - 1) (cond (is_one_of c (12 ∷ 33 ∷ [])) (critical + 1) critical))
    runner

unfoldable pub predicted_scheduler : Call → Kernel → List ℕ
predicted_scheduler c k' = predicted_levels c k'.unscheduled k'.critical k'.runner
