-- `code_notes_back::table_back::merged` meets its contract: i places are filled, with j of those that stayed.
use mathlib.Core.Path.{◌≡◌}
use mathlib.Core.List.{◌++◌}
use lib.ListN.{length, take, drop}
use Rattle.base_queue.specs.Queues.{capacity, pad}
use Rattle.spec_notes.specs.Back.{merge}
use Rattle.code_notes_back.proofs.Merging.{merge_from}
use Rattle.code_notes_back.proofs.table_back.merged.Given as goal

abbrev pub invariant-loop-i : goal.invariant-loop-i
invariant-loop-i l =
    (length l.a ≡ capacity)
    × (l.a ≡ pad (take l.i l.a))
    × (merge (length l.at) l.at l.stayed ≡ take l.i l.a ++ merge_from l.i l.at (drop l.j l.stayed))
