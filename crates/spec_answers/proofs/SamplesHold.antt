-- The sample runs hold: one computation over the whole table.
use mathlib.Core.Path.{◌≡◌, refl}
use mathlib.Core.Bool.{true}
use mathlib.Core.List.{◌++◌}
use Rattle.base_bits.specs.Words.{has_bit, bit_at, with_bit, without_bit}
use Rattle.base_bytes.specs.Bytes.{le, un}
use Rattle.base_bytes.specs.Logs.{noted}
use Rattle.base_rows.specs.Entries.{head_of, tail_of, id_of, fields_from, code_in, flags_in, row_in, own_in, read_entries}
use Rattle.base_rows.specs.Rows.{flags_of, body_of, used_by, row_from}
use Rattle.base_queue.specs.Tables.{is_placed, moved}
use Rattle.base_queue.specs.Queues.{is_tidy}
use Rattle.spec_kernel.specs.Records.{fresh}
use Rattle.spec_kernel.specs.Places.{home_of, rank_of}
use Rattle.spec_kernel.specs.Runner.{chosen}
use Rattle.spec_calls.specs.Calls.{call_of}
use Rattle.spec_calls.specs.Kinds.{kind_of, is_known, unused_are_zero, from_interrupt, from_thread}
use Rattle.spec_refusals.specs.Named.{waiter_by, value_of, named}
use Rattle.spec_refusals.specs.Refusals.{unknown, interrupts_off, no_caller, bad_number, bad_id, is_in_channel, not_owner, has_waiters, not_periodic}
use Rattle.spec_refusals.specs.Refusals.{pops_nothing, stops_caller, blocks_in_region, none_free, number_of}
use Rattle.spec_moves.specs.Moves.{relocate}
use Rattle.spec_moves.specs.States.{scheduled}
use Rattle.spec_threads.specs.Threads.{block, create_thread, yielded, sleep, wake_in, woken_in}
use Rattle.spec_regions.specs.Regions.{push_unscheduled, pop_unscheduled, push_critical, pop_critical}
use Rattle.spec_semaphores.specs.Semaphores.{create_semaphore, pend_semaphore, post, post_semaphore}
use Rattle.spec_flags.specs.Flags.{create_flag, destroy_flag, pend_flag, post_flag}
use Rattle.spec_time.specs.Time.{time_up, due, age_all, time_passes, pulse, pulse_from, tick}
use Rattle.spec_effects.specs.Effects.{effect}
use Rattle.spec_rules.specs.Tests.{is_no_thread, is_no_semaphore, is_no_message, thread_kept, semaphore_kept, message_kept, threads_kept}
use Rattle.spec_rules.specs.Tests.{semaphores_kept, messages_kept, in_rank, in_time, in_stream, places_kept, time_kept, posted_kept, runner_kept}
use Rattle.spec_rules.specs.Tests.{condition_kept, live_thread_kept, live_semaphore_kept, live_message_kept, keeps_rules}
use Rattle.spec_notes.specs.Touched.{same_thread, same_semaphore, same_event, same_message, younger_thread, younger_semaphore, touched_thread}
use Rattle.spec_notes.specs.Touched.{touched_semaphore, touched_event, touched_message}
use Rattle.spec_notes.specs.Rows.{condition_from, wake_from, thread_from, semaphore_from, event_from, message_from}
use Rattle.spec_notes.specs.Predicted.{predicted_code, predicted_thread, predicted_semaphore, predicted_flags, predicted_message}
use Rattle.spec_notes.specs.Predicted.{predicted_scheduler}
use Rattle.spec_notes.specs.Sections.{threads_section, semaphores_section, events_section, flags_section, messages_section, scheduler_section}
use Rattle.spec_notes.specs.Notes.{before_length, note_of}
use Rattle.spec_notes.specs.Frames.{is_whole, first_section, behind_section, sections_at, are_whole, section_bytes, frames_of}
use Rattle.spec_notes.specs.Back.{put_back_all, thread_own, thread_read, threads_before, semaphore_read, semaphores_before, event_read}
use Rattle.spec_notes.specs.Back.{bits_before, events_before, flags_before, message_read, messages_before, levels_before, threads_back}
use Rattle.spec_notes.specs.Back.{posts_back, before_at}
use Rattle.spec_notes.specs.Back.{state_before}
use Rattle.spec_notes.specs.Undo.{last_length, has_last, last_note}
use Rattle.spec_notes.specs.Same.{same_queue, same_numbers, same_kernel}
use Rattle.spec_notes.specs.Undoes.{call_bytes, back_from, levels_fit, yields_again, undoes_note, undoes}
use Rattle.spec_answers.specs.Logs.{note_for, recorded, log_after, called_with, log_called, undone}
use Rattle.spec_answers.specs.Samples.{all, samples}
use Rattle.spec_answers.specs.FlagSamples.{flag_samples}

-- Unfolded is every definition that the runs come through, crate by crate: with one shut, the computation stands still there.
pub samples_hold : all (samples ++ flag_samples) ≡ true
unfolding
    -- base_bytes
    le un noted
    -- base_rows
    flags_of body_of used_by row_from head_of tail_of id_of fields_from code_in flags_in row_in own_in read_entries
    -- base_bits
    has_bit bit_at with_bit without_bit
    -- base_queue
    is_placed moved is_tidy
    -- spec_kernel
    fresh home_of rank_of chosen
    -- spec_calls
    call_of kind_of is_known unused_are_zero from_interrupt from_thread
    -- spec_refusals
    unknown interrupts_off no_caller bad_number bad_id is_in_channel not_owner has_waiters not_periodic pops_nothing stops_caller blocks_in_region
    none_free number_of waiter_by value_of named
    -- spec_moves
    relocate scheduled
    -- spec_threads
    block create_thread yielded sleep wake_in woken_in
    -- spec_regions
    push_unscheduled pop_unscheduled push_critical pop_critical
    -- spec_semaphores
    create_semaphore pend_semaphore post post_semaphore
    -- spec_flags
    create_flag destroy_flag pend_flag post_flag
    -- spec_time
    time_up due age_all time_passes pulse pulse_from tick
    -- spec_effects
    effect
    -- spec_rules
    is_no_thread is_no_semaphore is_no_message thread_kept semaphore_kept message_kept threads_kept semaphores_kept messages_kept in_rank in_time
    in_stream places_kept time_kept posted_kept runner_kept condition_kept live_thread_kept live_semaphore_kept live_message_kept keeps_rules
    -- spec_notes
    condition_from wake_from thread_from semaphore_from event_from message_from
    same_thread same_semaphore same_event same_message younger_thread younger_semaphore touched_thread touched_semaphore touched_event
    touched_message
    predicted_code predicted_thread predicted_semaphore predicted_flags predicted_message predicted_scheduler
    threads_section semaphores_section events_section flags_section messages_section scheduler_section
    before_length note_of
    is_whole first_section behind_section sections_at are_whole section_bytes frames_of
    put_back_all thread_own thread_read threads_before semaphore_read semaphores_before event_read bits_before events_before
    flags_before message_read
    messages_before levels_before threads_back posts_back before_at state_before
    last_length has_last last_note
    same_queue same_numbers same_kernel
    call_bytes back_from levels_fit yields_again undoes_note undoes
    -- spec_answers
    note_for recorded log_after called_with log_called undone
samples_hold = refl
