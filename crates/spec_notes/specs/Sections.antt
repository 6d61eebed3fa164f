-- The six sections of a note, over the parts of the two states that they speak of. Of threads, semaphores, events and messages there is an
-- entry for each touched record, in id order: for a run of ids, and for all ids in the section [01, notes 1; 02 §1].
use Rattle.std.specs.Prelude.{ℕ, zero, suc, ◌+◌, Bool, cond, List, [], ◌∷◌, ◌++◌, eqb, get_or}
use Rattle.base_queue.specs.Tables.{old_place}
use Rattle.base_queue.specs.Queues.{items}
use Rattle.base_rows.specs.Entries.{unless_predicted, entry_of}
use Rattle.spec_kernel.specs.declared.records.Thread.{Thread}
use Rattle.spec_kernel.specs.declared.records.Semaphore.{Semaphore}
use Rattle.spec_kernel.specs.declared.records.Event.{Event}
use Rattle.spec_kernel.specs.declared.records.Message.{Message}
use Rattle.spec_kernel.specs.declared.records.Kernel.{Kernel}
use Rattle.spec_kernel.specs.Sizes.{thread_count, semaphore_count, event_count, message_count, flag_count}
use Rattle.spec_kernel.specs.Records.{no_thread, no_semaphore, no_event, no_message}
use Rattle.spec_kernel.specs.Free.{lowest_clear}
use Rattle.spec_moves.specs.declared.parts.Threads.{Threads}
use Rattle.spec_moves.specs.declared.parts.Posts.{Posts}
use Rattle.spec_moves.specs.Moves.{thread_in}
use Rattle.spec_moves.specs.Standing.{threads_of, posts_of, message_in}
use Rattle.spec_calls.specs.declared.call.Call.{Call}
use Rattle.spec_notes.specs.Rows.{thread_code, thread_row, thread_widths, semaphore_row, semaphore_widths}
use Rattle.spec_notes.specs.Rows.{event_row, event_widths, message_row, message_widths, scheduler_row, scheduler_widths}
use Rattle.spec_notes.specs.Touched.{changed_thread, changed_semaphore, changed_event, changed_message}
use Rattle.spec_notes.specs.Predicted.{predicted_code, predicted_thread, predicted_semaphore, predicted_event, predicted_message}
use Rattle.spec_notes.specs.Predicted.{predicted_flags, predicted_levels}

-- the entries of the touched ones of n ids from i on
abbrev pub entries_from : (ℕ → Bool) → (ℕ → List ℕ) → ℕ → ℕ → List ℕ
entries_from touched entry i zero = []
entries_from touched entry i (suc n) = let r = entries_from touched entry (suc i) n in cond (touched i) (entry i ++ r) r

-- ---- threads
-- a thread before: its id, and what isn't as predicted of its code, its record and its two places
abbrev pub thread_noted : ℕ → Call → Thread → ℕ → ℕ → Thread → List ℕ
thread_noted t c old place due new =
    entry_of (thread_widths (thread_code old)) t (thread_code old) (predicted_code c new) (thread_row old place due)
    (predicted_thread c new (thread_code old))

abbrev pub thread_entry : Call → Threads → List Thread → ℕ → List ℕ
thread_entry c old new t =
    thread_noted t c (thread_in old t) (old_place t (items old.places)) (old_place t (items old.time)) (get_or new t no_thread)

-- `runner` is who ran before the call
abbrev pub thread_entries : Call → ℕ → Threads → List Thread → ℕ → ℕ → List ℕ
thread_entries c runner old new first count =
    entries_from (λ t. changed_thread t runner c (thread_in old t) (get_or new t no_thread)) (thread_entry c old new) first count

unfoldable pub threads_section : Kernel → Call → Kernel → List ℕ
threads_section k c k' = thread_entries c k.runner (threads_of k) k'.threads 0 thread_count

-- ---- semaphores
-- a semaphore before: its id, and what isn't as predicted of its record; an event likewise. Neither has a code, which is as if predicted
abbrev pub semaphore_noted : ℕ → Call → Semaphore → Semaphore → List ℕ
semaphore_noted i c old new = entry_of semaphore_widths i 0 0 (semaphore_row old) (predicted_semaphore c new)

abbrev pub semaphore_entry : Call → List Semaphore → List Semaphore → ℕ → List ℕ
semaphore_entry c old new i = semaphore_noted i c (get_or old i no_semaphore) (get_or new i no_semaphore)

abbrev pub semaphore_entries : Call → List Semaphore → List Semaphore → ℕ → ℕ → List ℕ
semaphore_entries c old new first count =
    entries_from (λ i. changed_semaphore c (get_or old i no_semaphore) (get_or new i no_semaphore)) (semaphore_entry c old new) first count

unfoldable pub semaphores_section : Kernel → Call → Kernel → List ℕ
semaphores_section k c k' = semaphore_entries c k.semaphores k'.semaphores 0 semaphore_count

-- ---- events
abbrev pub event_noted : ℕ → Event → Event → List ℕ
event_noted i old new = entry_of event_widths i 0 0 (event_row old) (predicted_event new)

abbrev pub event_entry : List Event → List Event → ℕ → List ℕ
event_entry old new i = event_noted i (get_or old i no_event) (get_or new i no_event)

abbrev pub event_entries : List Event → List Event → ℕ → ℕ → List ℕ
event_entries old new first count =
    entries_from (λ i. changed_event (get_or old i no_event) (get_or new i no_event)) (event_entry old new) first count

-- a byte 8 where bit a was the other way: no event has this id, so no entry begins so
abbrev pub bit_noted : ℕ → ℕ → List ℕ
bit_noted old new = cond (eqb old new) [] (8 ∷ [])

unfoldable pub events_section : Kernel → Call → Kernel → List ℕ
events_section k c k' = bit_noted k.bits k'.bits ++ event_entries k.events k'.events 0 event_count

-- ---- flags
-- the flag that was made, by its id: the lowest that was free before
abbrev pub flags_noted : ℕ → ℕ → List ℕ
flags_noted old predicted = cond (eqb old predicted) [] (lowest_clear old 0 flag_count ∷ [])

unfoldable pub flags_section : Kernel → Call → Kernel → List ℕ
flags_section k c k' = flags_noted k.flags (predicted_flags c k'.flags)

-- ---- messages
-- a message before: its id, and what isn't as predicted of its record and its place; `runner` is who runs after the call
abbrev pub message_noted : ℕ → Call → ℕ → Message → ℕ → Message → List ℕ
message_noted m c runner old place new = entry_of message_widths m 0 0 (message_row old place) (predicted_message c runner new)

abbrev pub message_entry : Call → ℕ → Posts → List Message → ℕ → List ℕ
message_entry c runner old new m =
    message_noted m c runner (message_in old m) (old_place m (items old.posted)) (get_or new m no_message)

abbrev pub message_entries : Call → ℕ → Posts → List Message → ℕ → ℕ → List ℕ
message_entries c runner old new first count =
    entries_from (λ m. changed_message (message_in old m) (get_or new m no_message)) (message_entry c runner old new) first count

unfoldable pub messages_section : Kernel → Call → Kernel → List ℕ
messages_section k c k' = message_entries c k'.runner (posts_of k) k'.messages 0 message_count

-- ---- the scheduler
-- Outside every region the first ready thread ran, which is found again; only inside one is the old runner written [01, state 8].
abbrev pub held_runner : ℕ → ℕ → ℕ → ℕ → ℕ
held_runner unscheduled critical runner after = cond (eqb (unscheduled + critical) 0) after runner

-- both levels and the runner before the call, as far as those after it don't tell them
abbrev pub levels_noted : Call → ℕ → ℕ → ℕ → ℕ → ℕ → ℕ → List ℕ
levels_noted c unscheduled critical runner unscheduled' critical' runner' =
    unless_predicted scheduler_widths (scheduler_row unscheduled critical (held_runner unscheduled critical runner runner'))
    (predicted_levels c unscheduled' critical' runner')

unfoldable pub scheduler_section : Kernel → Call → Kernel → List ℕ
scheduler_section k c k' = levels_noted c k.unscheduled k.critical k.runner k'.unscheduled k'.critical k'.runner
