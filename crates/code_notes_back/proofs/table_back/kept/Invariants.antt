-- `code_notes_back::table_back::kept` meets its contract: the rest is those of the members passed that nobody touched.
use Prim.Native.Nat.{◌≤◌}
use mathlib.Core.Path.{◌≡◌}
use lib.ListN.{length, take}
use Rattle.base_queue.specs.Lists.{keep}
use Rattle.base_queue.specs.Queues.{capacity, pack}
use Rattle.code_notes_back.proofs.Merging.{untouched}
use Rattle.code_notes_back.proofs.table_back.kept.Given as goal

abbrev pub invariant-loop-x : goal.invariant-loop-x
invariant-loop-x l =
    (length l.x-items ≤ capacity)
    × (length (keep (untouched l.out) (take l.x-index l.x-items)) ≤ l.x-index)
    × (l.rest ≡ pack (keep (untouched l.out) (take l.x-index l.x-items)))
