-- `code_time::due_woken` meets its contract: of the members passed, those with one tick left have woken.
use Prim.Native.Nat.{ℕ}
use mathlib.Core.Path.{◌≡◌}
use mathlib.Core.Bool.{Bool}
use mathlib.Core.List.{List}
use lib.Dec.{eqb}
use lib.ListN.{get_or}
use Rattle.base_queue.specs.Queues.{items}
use Rattle.spec_kernel.specs.declared.records.Thread.{Thread}
use Rattle.spec_kernel.specs.Records.{no_thread}
use Rattle.code_threads.proofs.Walks.{Walked}
use Rattle.spec_time.specs.Time.{time_up}
use Rattle.code_time.proofs.due_woken.Given as goal

abbrev pub is_due : List Thread → ℕ → Bool
is_due before t = eqb (get_or before t no_thread).ticks 1

abbrev pub invariant-loop-t : goal.invariant-loop-t
invariant-loop-t l = (l.t-items ≡ items l.fn.p.time) × Walked time_up (is_due l.fn.p.records) l.fn.p l.t-items l.t-index l.next
