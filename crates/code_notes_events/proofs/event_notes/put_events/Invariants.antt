-- `code_notes_events::event_notes::put_events` meets its contract: what is still to write are the entries from i on.
use Prim.Native.Nat.{◌+◌, ◌-◌}
use mathlib.Core.Path.{◌≡◌}
use lib.ListN.{length}
use Rattle.base_bytes.specs.Pens.{pen, puts}
use Rattle.spec_notes.specs.Sections.{event_entries}
use Rattle.code_notes_events.proofs.event_notes.put_events.Given as goal

abbrev pub invariant-loop-i : goal.invariant-loop-i
invariant-loop-i l =
    (length l.log ≡ length l.initial.log)
    × (puts (pen l.initial.log l.at) (event_entries l.old l.new l.first l.count)
    ≡ puts (pen l.log l.p) (event_entries l.old l.new l.i (l.first + l.count - l.i)))
