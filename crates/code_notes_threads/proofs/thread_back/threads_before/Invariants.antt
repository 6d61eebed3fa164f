-- `code_notes_threads::thread_back::threads_before` meets its contract: what is still to read are the entries from p on.
use Prim.Native.Nat.{◌-◌, ◌≤◌}
use mathlib.Core.Path.{◌≡◌}
use lib.ListN.{length}
use Rattle.base_rows.proofs.EntriesRead.{entries_from}
use Rattle.spec_notes.specs.Back.{thread_own, thread_read, threads_before}
use Rattle.code_notes_threads.specs.ReadThreads.{meant_threads}
use Rattle.code_notes_threads.proofs.thread_back.threads_before.Given as goal

abbrev pub invariant-loop-p : goal.invariant-loop-p
invariant-loop-p l =
    (l.p ≤ length l.s) × (threads_before l.c l.new l.s ≡ entries_from (thread_own l.c l.new) (thread_read l.c l.new) l.s l.p (meant_threads l.a))

abbrev pub decreases-loop-p : goal.decreases-loop-p
decreases-loop-p l = length l.s - l.p
