-- `code_events::worked_in` meets its contract: the first i events are worked out.
use mathlib.Core.Path.{◌≡◌}
use Rattle.spec_events.specs.Events.{work_out_from}
use Rattle.code_events.proofs.worked_in.Given as goal

abbrev pub invariant-loop-i : goal.invariant-loop-i
invariant-loop-i l = l.next ≡ work_out_from l.fn.events l.bits 0 l.i l.initial.next
