-- Every accepted call leaves what it doesn't touch where it was.
use mathlib.Core.Path.{◌≡◌, refl, sym, ◌∙◌}
use Rattle.spec_kernel.specs.declared.records.Kernel.{Kernel}
use Rattle.spec_rules.specs.Rules.{Sized, Rules}
use Rattle.spec_calls.specs.declared.call.Call.{Call}
use Rattle.spec_refusals.specs.Refusals.{number_of}
use Rattle.spec_moves.specs.States.{scheduled}
use Rattle.spec_regions.specs.Regions.{push_unscheduled, pop_unscheduled, pop_all_unscheduled, push_critical, pop_critical, pop_all_critical}
use Rattle.spec_semaphores.specs.Semaphores.{create_semaphore, destroy_semaphore, make_periodic, remove_periodic}
use Rattle.spec_effects.specs.Effects.{effect}
use Rattle.proof_rules.proofs.Ends.{Before, before}
use Rattle.proof_rules.proofs.Accepted.{Accepted, accepted}
use Rattle.spec_effects.proofs.ByKind.{◌▸◌, end, effect_of}
use Rattle.spec_effects.proofs.RulesKept.{rules_kept}
use Rattle.spec_notes.specs.Touched.{touched_thread, touched_message}
use Rattle.spec_notes.specs.Within.{Within, CallWithin}
use Rattle.spec_notes.specs.LeftAlone.{LeftAlone}
use Rattle.spec_notes.proofs.Stays.{Left, quiet, kind_2, kind_4, kind_5, kind_6, kind_7}
use Rattle.spec_notes.proofs.StaysAtObjects.{kind_18, kind_19, kind_20, kind_21, kind_28, set_left, clear_left}
use Rattle.spec_notes.proofs.StaysAtFlags.{kind_31, kind_32, kind_33, kind_34}
use Rattle.spec_notes.proofs.StaysAtTicks.{kind_1}
use Rattle.spec_notes.proofs.StaysAtMessages.{kind_3, kind_24, kind_25, kind_26, kind_27}

-- levels, and semaphores that are created, destroyed and made periodic, leave everybody in place
effect_left : {k : Kernel} {c : Call} → Before k → Accepted k c → Left k c (effect k c)
unfolding push_unscheduled pop_unscheduled pop_all_unscheduled push_critical pop_critical pop_all_critical
    create_semaphore destroy_semaphore make_periodic remove_periodic
effect_left {k} {c} B A =
    effect_of A (Left k c) λ kind_0.
    kind_0
    ▸ kind_1 B A
    ▸ kind_2 B A
    ▸ kind_3 B A
    ▸ kind_4 B A
    ▸ kind_5 B A
    ▸ kind_6 B A
    ▸ kind_7 B A
    ▸ quiet (refl, refl) (refl, refl, refl) (refl, refl) refl  -- 8
    ▸ quiet (refl, refl) (refl, refl, refl) (refl, refl) refl  -- 9
    ▸ quiet (refl, refl) (refl, refl, refl) (refl, refl) refl  -- 10
    ▸ quiet (refl, refl) (refl, refl, refl) (refl, refl) refl  -- 11
    ▸ quiet (refl, refl) (refl, refl, refl) (refl, refl) refl  -- 12
    ▸ quiet (refl, refl) (refl, refl, refl) (refl, refl) refl  -- 13
    ▸ quiet (refl, refl) (refl, refl, refl) (refl, refl) refl  -- 14
    ▸ quiet (refl, refl) (refl, refl, refl) (refl, refl) refl  -- 15
    ▸ quiet (refl, refl) (refl, refl, refl) (refl, refl) refl  -- 16
    ▸ quiet (refl, refl) (refl, refl, refl) (refl, refl) refl  -- 17
    ▸ kind_18 B A
    ▸ kind_19 B A
    ▸ kind_20 B A
    ▸ kind_21 B A
    ▸ set_left B A (refl, refl)  -- 22
    ▸ clear_left B A (refl, refl)  -- 23
    ▸ kind_24 B A
    ▸ kind_25 B A
    ▸ kind_26 B A
    ▸ kind_27 B A
    ▸ kind_28 B A
    ▸ set_left B A (refl, refl)  -- 29
    ▸ clear_left B A (refl, refl)  -- 30
    ▸ kind_31 B A
    ▸ kind_32 B A
    ▸ kind_33 B A
    ▸ kind_34 B A
    ▸ end

pub call_leaves : (k : Kernel) (c : Call) → Sized k → Rules k → Within k → CallWithin c → number_of k c ≡ 0
    → LeftAlone k c (scheduled (effect k c))
unfolding scheduled touched_thread touched_message
call_leaves k c Z R _ _ h =
    let L = effect_left (before k Z R) (accepted k c h) in
    let (Z', _) = rules_kept k c Z R h in
    record {
      thread_count = Z.threads ∙ sym Z'.threads;
      semaphore_count = Z.semaphores ∙ sym Z'.semaphores;
      event_count = Z.events ∙ sym Z'.events;
      message_count = Z.messages ∙ sym Z'.messages;
      places = L.threads.0;
      time = L.threads.1;
      posted = L.posts;
      bits = L.bits;
      flags = L.flags;
      uptime = L.uptime;
    }
