-- `code_notes_semaphores::semaphore_back::semaphores_before` meets its contract: what is still to read are the entries from p on.
use Prim.Native.Nat.{◌-◌}
use mathlib.Core.Path.{◌≡◌}
use lib.ListN.{length}
use Rattle.base_rows.specs.Entries.{own_in}
use Rattle.base_rows.proofs.EntriesRead.{entries_from}
use Rattle.spec_kernel.specs.Sizes.{semaphore_count}
use Rattle.spec_notes.specs.Rows.{semaphore_widths}
use Rattle.spec_notes.specs.Back.{semaphore_read, semaphores_before}
use Rattle.code_notes_semaphores.proofs.semaphore_back.semaphores_before.Given as goal

abbrev pub invariant-loop-p : goal.invariant-loop-p
invariant-loop-p l =
    (length l.new ≡ semaphore_count) × (length l.a ≡ semaphore_count)
    × (semaphores_before l.c l.new l.s ≡ entries_from (own_in semaphore_widths) (semaphore_read l.c l.new) l.s l.p l.a)

abbrev pub decreases-loop-p : goal.decreases-loop-p
decreases-loop-p l = length l.s - l.p
