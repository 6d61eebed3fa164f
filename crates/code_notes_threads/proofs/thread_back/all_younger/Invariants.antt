-- `code_notes_threads::thread_back::all_younger` meets its contract: the first t records are younger, the others as they were.
use mathlib.Core.Path.{◌≡◌}
use mathlib.Core.List.{◌++◌, map}
use lib.ListN.{length, take, drop}
use Rattle.spec_kernel.specs.Sizes.{thread_count}
use Rattle.spec_notes.specs.Touched.{younger_thread}
use Rattle.code_notes_threads.proofs.thread_back.all_younger.Given as goal

abbrev pub invariant-loop-t : goal.invariant-loop-t
invariant-loop-t l =
    (length l.new ≡ thread_count) × (length l.old ≡ thread_count) × (l.old ≡ take l.t (map (younger_thread l.c) l.new) ++ drop l.t l.new)
