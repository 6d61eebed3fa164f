-- `code_threads::woken_in` meets its contract: of the members passed, those whose home is h have woken.
use mathlib.Core.Path.{◌≡◌}
use Rattle.base_queue.specs.Queues.{items}
use Rattle.code_kernel_find.proofs.OfHomes.{is_home}
use Rattle.spec_threads.specs.Threads.{wake_in}
use Rattle.code_threads.proofs.Walks.{Walked}
use Rattle.code_threads.proofs.woken_in.Given as goal

abbrev pub invariant-loop-t : goal.invariant-loop-t
invariant-loop-t l =
    (l.t-items ≡ items l.fn.p.places) × Walked wake_in (is_home l.fn.p.records l.h) l.fn.p l.t-items l.t-index l.next
