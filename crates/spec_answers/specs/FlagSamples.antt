-- Sample runs with device flags [02 §1], as those of document 01: each goes through the public call and is undone to its start.
use Rattle.std.specs.Prelude.{ℕ, Bool, true, false, ◌&&◌, List, [], ◌∷◌, eqb}
use Rattle.base_queue.specs.Lists.{is_empty}
use Rattle.spec_kernel.specs.declared.records.Object.{Object}
use Rattle.spec_kernel.specs.declared.records.Wake.{Wake}
use Rattle.spec_kernel.specs.declared.records.Kernel.{Kernel}
use Rattle.spec_kernel.specs.Records.{fresh, thread, flag}
use Rattle.spec_kernel.specs.Places.{ready_list, flag_queue, time_queue}
use Rattle.spec_calls.specs.declared.call.Call.{Call}
use Rattle.spec_moves.specs.States.{with_flags}
use Rattle.spec_notes.specs.Touched.{same_row}
use Rattle.spec_answers.specs.Steps.{answer}
use Rattle.spec_answers.specs.Samples.{Sample, call, tick, create}

abbrev pub create_flag : Call
create_flag = call 31 0 0 0 0

abbrev pub destroy_flag : Call
destroy_flag = call 32 0 0 0 0

abbrev pub pend_flag : ℕ → Call
pend_flag timeout = call 33 0 0 timeout 0

abbrev pub post_flag : Call
post_flag = call 34 0 0 0 0

abbrev pub push_unscheduled : Call
push_unscheduled = call 8 0 0 0 0

abbrev pub pop_unscheduled : Call
pop_unscheduled = call 9 0 0 0 0

abbrev pub push_critical : Call
push_critical = call 11 0 0 0 0

abbrev pub pop_critical : Call
pop_critical = call 12 0 0 0 0

abbrev pub timed_out_on_flag : Wake → Bool
timed_out_on_flag Wake.None = false
timed_out_on_flag Wake.Met = false
timed_out_on_flag (Wake.TimedOut Object.Semaphore) = false
timed_out_on_flag (Wake.TimedOut Object.Event) = false
timed_out_on_flag (Wake.TimedOut Object.Message) = false
timed_out_on_flag (Wake.TimedOut Object.Flag) = true

-- nobody waits for flag 0
abbrev pub nobody_waits : Kernel → Bool
nobody_waits k = is_empty (flag_queue k 0) && is_empty (time_queue k)

abbrev pub flag_samples : List Sample
flag_samples =
    -- A pend with both levels 0, with critical level 2, and with both levels 1 is refused with 6; with critical level 1 alone it takes
    -- that level off, and the caller waits.
    record {
      start = fresh;
      calls =
          create 5
          ∷ create_flag
          ∷ pend_flag 0
          ∷ push_critical
          ∷ push_critical
          ∷ pend_flag 0
          ∷ pop_critical
          ∷ push_unscheduled
          ∷ pend_flag 0
          ∷ pop_unscheduled
          ∷ pend_flag 0
          ∷ [];
      answers =
          answer 0 0 0
          ∷ answer 0 0 0
          ∷ answer 6 255 0
          ∷ answer 0 255 0
          ∷ answer 0 255 0
          ∷ answer 6 255 0
          ∷ answer 0 255 0
          ∷ answer 0 255 0
          ∷ answer 6 255 0
          ∷ answer 0 255 0
          ∷ answer 0 255 255
          ∷ [];
      then = λ k. eqb k.critical 0 && (eqb k.unscheduled 0 && same_row (flag_queue k 0) (0 ∷ []));
    }
    -- Threads 1 and 2 of priority 5 wait, then thread 3 of priority 3 with a timeout: a post releases 3, then 1, then 2.
    ∷ record {
      start = fresh;
      calls =
          create 10
          ∷ create_flag
          ∷ create 5
          ∷ push_critical
          ∷ pend_flag 0
          ∷ create 5
          ∷ push_critical
          ∷ pend_flag 0
          ∷ create 3
          ∷ push_critical
          ∷ pend_flag 9
          ∷ post_flag
          ∷ [];
      answers =
          answer 0 0 0
          ∷ answer 0 0 0
          ∷ answer 0 1 1
          ∷ answer 0 255 1
          ∷ answer 0 255 0
          ∷ answer 0 2 2
          ∷ answer 0 255 2
          ∷ answer 0 255 0
          ∷ answer 0 3 3
          ∷ answer 0 255 3
          ∷ answer 0 255 0
          ∷ answer 0 255 3
          ∷ [];
      then = λ k. same_row (ready_list k 3) (3 ∷ []) && (same_row (ready_list k 5) (1 ∷ 2 ∷ []) && nobody_waits k);
    }
    -- Thread 1 waits for one tick, thread 2 for ever: the tick wakes 1, timed out, and leaves 2 in the queue.
    ∷ record {
      start = fresh;
      calls =
          create 10 ∷ create_flag ∷ create 5 ∷ push_critical ∷ pend_flag 1 ∷ create 5 ∷ push_critical ∷ pend_flag 0 ∷ tick ∷ [];
      answers =
          answer 0 0 0
          ∷ answer 0 0 0
          ∷ answer 0 1 1
          ∷ answer 0 255 1
          ∷ answer 0 255 0
          ∷ answer 0 2 2
          ∷ answer 0 255 2
          ∷ answer 0 255 0
          ∷ answer 0 255 1
          ∷ [];
      then = λ k. timed_out_on_flag (thread k 1).wake && same_row (flag_queue k 0) (2 ∷ []);
    }
    -- With a waiter the flag isn't destroyed (10); once it is posted it is, and then it is unknown (4).
    ∷ record {
      start = fresh;
      calls =
          create 10 ∷ create_flag ∷ create 5 ∷ push_critical ∷ pend_flag 0 ∷ destroy_flag ∷ post_flag ∷ destroy_flag ∷ post_flag ∷ [];
      answers =
          answer 0 0 0
          ∷ answer 0 0 0
          ∷ answer 0 1 1
          ∷ answer 0 255 1
          ∷ answer 0 255 0
          ∷ answer 10 255 0
          ∷ answer 0 255 1
          ∷ answer 0 255 1
          ∷ answer 4 255 1
          ∷ [];
      then = λ k. nobody_waits k;
    }
    -- With fifteen there, the sixteenth gets id 15, and for a seventeenth no id is free (7).
    ∷ record {
      start = with_flags 32767 fresh;
      calls = create 5 ∷ create_flag ∷ create_flag ∷ [];
      answers = answer 0 0 0 ∷ answer 0 15 0 ∷ answer 7 255 0 ∷ [];
      then = λ k. flag k 15;
    }
    ∷ []
