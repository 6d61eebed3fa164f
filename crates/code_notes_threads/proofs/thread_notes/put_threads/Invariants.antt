-- `code_notes_threads::thread_notes::put_threads` meets its contract: what is still to write are the entries of the ids from t on.
use Prim.Native.Nat.{◌+◌, ◌-◌}
use mathlib.Core.Path.{◌≡◌}
use lib.ListN.{length}
use Rattle.base_bytes.specs.Pens.{pen, puts}
use Rattle.spec_notes.specs.Sections.{thread_entries}
use Rattle.code_notes_threads.proofs.thread_notes.put_threads.Given as goal

abbrev pub invariant-loop-t : goal.invariant-loop-t
invariant-loop-t l =
    (length l.log ≡ length l.initial.log)
    × (puts (pen l.initial.log l.at) (thread_entries l.c l.runner l.old l.new l.first l.count)
    ≡ puts (pen l.log l.p) (thread_entries l.c l.runner l.old l.new l.t (l.first + l.count - l.t)))
