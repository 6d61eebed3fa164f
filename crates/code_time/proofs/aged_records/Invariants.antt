-- `code_time::aged_records` meets its contract: the first t threads are as they will be, the others as they were.
use mathlib.Core.Path.{◌≡◌}
use mathlib.Core.List.{◌++◌, map}
use lib.ListN.{length, take, drop}
use Rattle.spec_kernel.specs.Sizes.{thread_count}
use Rattle.spec_time.specs.Time.{aged}
use Rattle.code_time.proofs.aged_records.Given as goal

abbrev pub invariant-loop-t : goal.invariant-loop-t
invariant-loop-t l =
    (length l.threads ≡ thread_count) × (length l.next ≡ thread_count) × (l.next ≡ take l.t (map aged l.threads) ++ drop l.t l.threads)
