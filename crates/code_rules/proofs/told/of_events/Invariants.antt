-- `code_rules::told::of_events` meets its contract: `untrue` tells of the i events passed.
use mathlib.Core.Bool.{not}
use lib.ListN.{get_or}
use Rattle.base_bits.specs.Sets.{Tells}
use Rattle.spec_kernel.specs.Records.{no_event}
use Rattle.spec_kernel.specs.Truth.{is_true}
use Rattle.code_rules.proofs.told.of_events.Given as goal

abbrev pub invariant-loop-i : goal.invariant-loop-i
invariant-loop-i l =
    Tells l.untrue l.i (λ x. not (is_true l.bits (get_or l.events x no_event)))
