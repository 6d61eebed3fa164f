-- Who runs: the first ready thread.
use Rattle.std.specs.Prelude.{ℕ, zero, suc, cond, List, [], ◌++◌, ltb}
use Rattle.base_queue.specs.Lists.{first_of}
use Rattle.base_queue.specs.Queues.{items}
use Rattle.spec_kernel.specs.declared.records.Kernel.{Kernel}
use Rattle.spec_kernel.specs.Sizes.{priority_count}
use Rattle.spec_kernel.specs.Records.{thread}
use Rattle.spec_kernel.specs.Conditions.{of_semaphores}
use Rattle.spec_kernel.specs.Places.{ready_list, home_of, home}

-- the ready lists of n priorities from p on, one behind the other
unfoldable pub ready_from : Kernel → ℕ → ℕ → List ℕ
ready_from k p zero = []
ready_from k p (suc n) = ready_list k p ++ ready_from k (suc p) n

-- the first ready one of the highest priority (1 is highest), or 255 for none
unfoldable pub first_ready : Kernel → ℕ
first_ready k = first_of (ready_from k 1 priority_count)

-- the first place, where it is in a ready list; in a state that keeps the rules this is the first ready one
unfoldable pub chosen : Kernel → ℕ
chosen k = cond (ltb (home_of (thread k (first_of (items k.places)))) (home of_semaphores 0)) (first_of (items k.places)) 255
