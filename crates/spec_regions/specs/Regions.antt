-- Regions: a push makes its level one higher, a pop one lower, and a pop all 0 [01, calls: Regions 1].
use Rattle.std.specs.Prelude.{ℕ, ◌+◌, ◌-◌, cond, ltb}
use Rattle.spec_kernel.specs.declared.records.Kernel.{Kernel}
use Rattle.spec_calls.specs.declared.call.Call.{Call}
use Rattle.spec_moves.specs.States.{with_levels}

-- a level is at most 255
abbrev pub one_more : ℕ → ℕ
one_more level = cond (ltb level 255) (level + 1) level

-- kinds 8, 9 and 10
unfoldable pub push_unscheduled : Kernel → Call → Kernel
push_unscheduled k c = with_levels (one_more k.unscheduled) k.critical k

unfoldable pub pop_unscheduled : Kernel → Call → Kernel
pop_unscheduled k c = with_levels (k.unscheduled - 1) k.critical k

unfoldable pub pop_all_unscheduled : Kernel → Call → Kernel
pop_all_unscheduled k c = with_levels 0 k.critical k

-- kinds 11, 12 and 13
unfoldable pub push_critical : Kernel → Call → Kernel
push_critical k c = with_levels k.unscheduled (one_more k.critical) k

unfoldable pub pop_critical : Kernel → Call → Kernel
pop_critical k c = with_levels k.unscheduled (k.critical - 1) k

unfoldable pub pop_all_critical : Kernel → Call → Kernel
pop_all_critical k c = with_levels k.unscheduled 0 k
