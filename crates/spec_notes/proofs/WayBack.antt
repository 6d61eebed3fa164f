-- The state before a call, from the state after it, the call and the note's sections.
use Prim.Native.Nat.{ℕ, ◌+◌, ◌<◌}
use mathlib.Core.Path.{◌≡◌, sym, ◌∙◌}
use mathlib.Core.Bool.{true, false, cond, false≢true}
use mathlib.Core.List.{List, [], append-nil}
use lib.Dec.{eqb}
use borrow.Author.Tests.{eqb-true}
use borrow.Table.Steps.{cases}
use Rattle.base_queue.proofs.Counts.{same}
use Rattle.base_rows.specs.Rows.{flags_of}
use Rattle.spec_kernel.specs.declared.records.Kernel.{Kernel}
use Rattle.spec_kernel.specs.Runner.{chosen}
use Rattle.spec_rules.specs.Rules.{Sized, Rules, FirstRuns}
use Rattle.spec_rules.proofs.FromRules.{chosen_first}
use Rattle.spec_moves.specs.States.{with_runner, scheduled}
use Rattle.spec_calls.specs.declared.call.Call.{Call}
use Rattle.spec_notes.specs.Rows.{scheduler_row, scheduler_widths}
use Rattle.spec_notes.specs.Predicted.{predicted_scheduler}
use Rattle.spec_notes.specs.Sections.{held_runner, scheduler_section}
use Rattle.spec_notes.specs.Notes.{sections_of}
use Rattle.spec_notes.specs.Back.{levels_before, threads_back, posts_back, before_at, state_before}
use Rattle.spec_notes.specs.Within.{Within}
use Rattle.spec_notes.specs.LeftAlone.{LeftAlone}
use Rattle.base_rows.proofs.EntriesRead.{body_none}
use Rattle.spec_notes.proofs.RowsBack.{Fit, field, unused, row_back}
use Rattle.spec_notes.proofs.ThreadsBack.{threads_back_lem, places-back, time-back}
use Rattle.spec_notes.proofs.SemaphoresBack.{semaphores_back}
use Rattle.spec_notes.proofs.EventsBack.{bits_back, events_back}
use Rattle.spec_notes.proofs.FlagsBack.{flags_back}
use Rattle.spec_notes.proofs.MessagesBack.{messages_back, posted_back}

-- ---- the scheduler
module _ (k : Kernel) (c : Call) (k' : Kernel) (W : Within k) where
  abbrev held : ℕ
  held = held_runner k.unscheduled k.critical k.runner k'.runner

  -- a runner that isn't the one after is the old one
  runner_below : eqb held k'.runner ≡ false → held < 256
  runner_below h =
      cases (eqb (k.unscheduled + k.critical) 0) (λ e. absurd (false≢true (sym (rw e at h) ∙ same k'.runner))) (λ e. rw e W.runner)

  abbrev old : List ℕ
  old = scheduler_row k.unscheduled k.critical held

  fits : Fit scheduler_widths old (predicted_scheduler c k')
  unfolding predicted_scheduler
  fits = field (λ _. W.unscheduled) (field (λ _. W.critical) (field runner_below (unused 5)))

  scheduler_back : levels_before c k'.unscheduled k'.critical k'.runner (scheduler_section k c k') ≡ old
  unfolding levels_before scheduler_section predicted_scheduler
  scheduler_back =
      cases (eqb (flags_of old (predicted_scheduler c k')) 0)
      (λ e. let z = eqb-true (flags_of old (predicted_scheduler c k')) 0 e in
      rw e (rw (z, body_none scheduler_widths old (predicted_scheduler c k') z) at (row_back [] fits)))
      (λ e. rw e (rw append-nil at (row_back [] fits)))

-- ---- all of it
module _ (k : Kernel) (c : Call) (k' : Kernel) (Z : Sized k) (Z' : Sized k') (R : Rules k) (R' : Rules k') (W : Within k)
    (F : LeftAlone k c k') where
  -- with who ran as it is noted
  rest_back : before_at c k' (sections_of k c k') k.unscheduled k.critical (held k c k' W) ≡ with_runner (held k c k' W) k
  unfolding before_at threads_back posts_back
  rest_back =
      λ i. record {
        threads = threads_back_lem k c k' Z R W Z' R' i;
        semaphores = semaphores_back k c k' W Z Z' i;
        events = events_back k c k' W Z Z' i;
        messages = messages_back k c k' Z W Z' i;
        places = places-back k c k' Z R W Z' R' F i;
        time = time-back k c k' Z R W Z' R' F i;
        posted = posted_back k c k' Z W Z' R R' F i;
        bits = bits_back k c k' F i;
        uptime = sym F.uptime i;
        unscheduled = k.unscheduled;
        critical = k.critical;
        runner = held k c k' W;
        flags = flags_back k c k' F i;
      }

  -- with both levels 0 the first ready one ran
  runner_back : cond (eqb (k.unscheduled + k.critical) 0) (chosen k) (held k c k' W) ≡ k.runner
  unfolding FirstRuns
  runner_back =
      cases (eqb (k.unscheduled + k.critical) 0)
      (λ e. rw e (chosen_first k Z R ∙ sym (R.first_runs (eqb-true (k.unscheduled + k.critical) 0 e)))) (λ e. rw e)

  pub way_back : state_before c k' (sections_of k c k') ≡ k
  unfolding state_before scheduled chosen
  way_back = rw (scheduler_back k c k' W, rest_back, runner_back)
