-- Device flags: create, destroy, pend and post [02 §1].
use Rattle.std.specs.Prelude.{ℕ}
use Rattle.base_bits.specs.Words.{with_bit, without_bit}
use Rattle.spec_kernel.specs.declared.records.Condition.TheVariants.{ForFlag}
use Rattle.spec_kernel.specs.declared.records.Kernel.{Kernel}
use Rattle.spec_kernel.specs.Conditions.{of_flags}
use Rattle.spec_kernel.specs.Places.{home}
use Rattle.spec_kernel.specs.Free.{free_flag}
use Rattle.spec_calls.specs.declared.call.Call.{Call}
use Rattle.spec_moves.specs.Standing.{threads_of}
use Rattle.spec_moves.specs.States.{with_threads, with_flags}
use Rattle.spec_regions.specs.Regions.{pop_critical}
use Rattle.spec_threads.specs.Threads.{block, woken_in}

-- kind 31: create flag; what is created gets the lowest free id [01, modelled 5].
unfoldable pub create_flag : Kernel → Call → Kernel
create_flag k c = with_flags (with_bit k.flags (free_flag k)) k

-- kind 32: destroy flag a
unfoldable pub destroy_flag : Kernel → Call → Kernel
destroy_flag k c = with_flags (without_bit k.flags c.a) k

-- kind 33: the pend "takes that level off and always blocks": the critical region ends, and the caller waits for flag a, timeout c.
unfoldable pub pend_flag : Kernel → Call → Kernel
pend_flag k c = block (ForFlag c.a) c.c (pop_critical k c)

-- kind 34: all that wait for flag a wake, the first in its queue first.
unfoldable pub post_flag : Kernel → Call → Kernel
post_flag k c = with_threads (woken_in (home of_flags c.a) (threads_of k)) k
