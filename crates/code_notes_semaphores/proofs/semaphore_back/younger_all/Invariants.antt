-- `code_notes_semaphores::semaphore_back::younger_all` meets its contract: the first i records are younger, the others as they were.
use mathlib.Core.Path.{◌≡◌}
use mathlib.Core.List.{◌++◌, map}
use lib.ListN.{length, take, drop}
use Rattle.spec_kernel.specs.Sizes.{semaphore_count}
use Rattle.spec_notes.specs.Touched.{younger_semaphore}
use Rattle.code_notes_semaphores.proofs.semaphore_back.younger_all.Given as goal

abbrev pub invariant-loop-i : goal.invariant-loop-i
invariant-loop-i l =
    (length l.new ≡ semaphore_count) × (length l.old ≡ semaphore_count)
    × (l.old ≡ take l.i (map (younger_semaphore l.c) l.new) ++ drop l.i l.new)
