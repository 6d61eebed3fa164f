-- Every accepted call keeps the rules: what each kind does is good, and then the scheduler chooses.
use mathlib.Core.Path.{◌≡◌}
use Rattle.spec_kernel.specs.declared.records.Kernel.{Kernel}
use Rattle.spec_rules.specs.Rules.{Sized, Rules}
use Rattle.spec_calls.specs.declared.call.Call.{Call}
use Rattle.spec_refusals.specs.Refusals.{number_of}
use Rattle.spec_moves.specs.States.{scheduled}
use Rattle.proof_rules.proofs.Ends.{Good, Before, before, scheduled_kept}
use Rattle.proof_rules.proofs.Accepted.{Accepted, accepted}
use Rattle.proof_rules.proofs.Threads.{kind_2, kind_4, kind_5, kind_6, kind_7}
use Rattle.proof_rules.proofs.OfTime.{kind_1}
use Rattle.proof_rules.proofs.OfDestroy.{kind_3}
use Rattle.proof_rules.proofs.OfEvents.{kind_20, kind_21, kind_22, kind_23, kind_29, kind_30}
use Rattle.proof_rules.proofs.OfFlags.{kind_31, kind_32, kind_33, kind_34}
use Rattle.proof_rules.proofs.OfMessages.{kind_24, kind_25, kind_26, kind_27}
use Rattle.proof_rules.proofs.Regions.{kind_8, kind_9, kind_10, kind_11, kind_12, kind_13}
use Rattle.proof_rules.proofs.Semaphores.{kind_14, kind_15, kind_16, kind_17, kind_18, kind_19, kind_28}
use Rattle.spec_effects.specs.Effects.{effect}
use Rattle.spec_effects.proofs.ByKind.{◌▸◌, end, effect_of}

module _ {k : Kernel} {c : Call} (B : Before k) (A : Accepted k c) where
  effect_good : Good (effect k c)
  effect_good =
      effect_of A Good λ kind_0.
      kind_0
      ▸ kind_1 B A
      ▸ kind_2 B A
      ▸ kind_3 B A
      ▸ kind_4 B A
      ▸ kind_5 B A
      ▸ kind_6 B A
      ▸ kind_7 B A
      ▸ kind_8 B A
      ▸ kind_9 B A
      ▸ kind_10 B A
      ▸ kind_11 B A
      ▸ kind_12 B A
      ▸ kind_13 B A
      ▸ kind_14 B A
      ▸ kind_15 B A
      ▸ kind_16 B A
      ▸ kind_17 B A
      ▸ kind_18 B A
      ▸ kind_19 B A
      ▸ kind_20 B A
      ▸ kind_21 B A
      ▸ kind_22 B A
      ▸ kind_23 B A
      ▸ kind_24 B A
      ▸ kind_25 B A
      ▸ kind_26 B A
      ▸ kind_27 B A
      ▸ kind_28 B A
      ▸ kind_29 B A
      ▸ kind_30 B A
      ▸ kind_31 B A
      ▸ kind_32 B A
      ▸ kind_33 B A
      ▸ kind_34 B A
      ▸ end

pub rules_kept : (k : Kernel) (c : Call) → Sized k → Rules k → number_of k c ≡ 0
    → Sized (scheduled (effect k c)) × Rules (scheduled (effect k c))
rules_kept k c Z R h = scheduled_kept (effect k c) (effect_good (before k Z R) (accepted k c h))
