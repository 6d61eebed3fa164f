-- What each kind does.
use Rattle.std.specs.Prelude.{List, [], ◌∷◌, get_or}
use Rattle.spec_kernel.specs.declared.records.Kernel.{Kernel}
use Rattle.spec_calls.specs.declared.call.Call.{Call}
use Rattle.spec_threads.specs.Threads.{create_thread, destroy_thread, set_priority, reset_priority, yielded, sleep}
use Rattle.spec_regions.specs.Regions.{push_unscheduled, pop_unscheduled, pop_all_unscheduled, push_critical, pop_critical, pop_all_critical}
use Rattle.spec_semaphores.specs.Semaphores.{create_semaphore, destroy_semaphore, make_periodic, remove_periodic, pend_semaphore, post_semaphore}
use Rattle.spec_events.specs.Events.{load_event, pend_event, set_bit, clear_bit}
use Rattle.spec_flags.specs.Flags.{create_flag, destroy_flag, pend_flag, post_flag}
use Rattle.spec_messages.specs.Messages.{create_message, destroy_message, post_message, pend_message}
use Rattle.spec_time.specs.Time.{tick}

-- what a kind does to the state
abbrev pub Does : Type 0
Does = Kernel → Call → Kernel

abbrev pub nothing : Does
nothing k c = k

-- What each kind does [01, calls; 02 §1]; 0 is no kind.
abbrev pub effects_of_kinds : List Does
effects_of_kinds =
    nothing
    ∷ tick  -- 1
    ∷ create_thread  -- 2
    ∷ destroy_thread  -- 3
    ∷ set_priority  -- 4
    ∷ reset_priority  -- 5
    ∷ yielded  -- 6
    ∷ sleep  -- 7
    ∷ push_unscheduled  -- 8
    ∷ pop_unscheduled  -- 9
    ∷ pop_all_unscheduled  -- 10
    ∷ push_critical  -- 11
    ∷ pop_critical  -- 12
    ∷ pop_all_critical  -- 13
    ∷ create_semaphore  -- 14
    ∷ destroy_semaphore  -- 15
    ∷ make_periodic  -- 16
    ∷ remove_periodic  -- 17
    ∷ pend_semaphore  -- 18
    ∷ post_semaphore  -- 19
    ∷ load_event  -- 20
    ∷ pend_event  -- 21
    ∷ set_bit  -- 22
    ∷ clear_bit  -- 23
    ∷ create_message  -- 24
    ∷ destroy_message  -- 25
    ∷ post_message  -- 26
    ∷ pend_message  -- 27
    ∷ post_semaphore  -- 28
    ∷ set_bit  -- 29
    ∷ clear_bit  -- 30
    ∷ create_flag  -- 31
    ∷ destroy_flag  -- 32
    ∷ pend_flag  -- 33
    ∷ post_flag  -- 34
    ∷ []

unfoldable pub effect : Kernel → Call → Kernel
effect k c = get_or effects_of_kinds c.kind nothing k c
