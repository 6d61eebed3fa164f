-- `code_notes_semaphores::semaphore_notes::put_semaphores` meets its contract: what is still to write are the entries from i on.
use Prim.Native.Nat.{◌+◌, ◌-◌}
use mathlib.Core.Path.{◌≡◌}
use lib.ListN.{length}
use Rattle.base_bytes.specs.Pens.{pen, puts}
use Rattle.spec_notes.specs.Sections.{semaphore_entries}
use Rattle.code_notes_semaphores.proofs.semaphore_notes.put_semaphores.Given as goal

abbrev pub invariant-loop-i : goal.invariant-loop-i
invariant-loop-i l =
    (length l.log ≡ length l.initial.log)
    × (puts (pen l.initial.log l.at) (semaphore_entries l.c l.old l.new l.first l.count)
    ≡ puts (pen l.log l.p) (semaphore_entries l.c l.old l.new l.i (l.first + l.count - l.i)))
