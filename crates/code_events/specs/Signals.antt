-- The kinds after which events are worked out.
use Rattle.std.specs.Prelude.{cond, [], ◌∷◌}
use Rattle.spec_kernel.specs.declared.records.Kernel.{Kernel}
use Rattle.spec_calls.specs.declared.call.Call.{Call}
use Rattle.spec_refusals.specs.Refusals.{is, is_one_of}
use Rattle.spec_events.specs.Events.{load_event, set_bit, clear_bit}

-- kind 20 loads, 22 and 29 set, 23 and 30 clear
abbrev pub signalled : Kernel → Call → Kernel
signalled k c = cond (is c 20) (load_event k c) (cond (is_one_of c (22 ∷ 29 ∷ [])) (set_bit k c) (clear_bit k c))
