-- `code_notes_events::event_back::events_before` meets its contract: what is still to read are the entries from p on.
use Prim.Native.Nat.{◌-◌}
use mathlib.Core.Path.{◌≡◌}
use lib.ListN.{length}
use Rattle.base_rows.specs.Entries.{own_in}
use Rattle.base_rows.proofs.EntriesRead.{entries_from}
use Rattle.spec_kernel.specs.Sizes.{event_count}
use Rattle.spec_notes.specs.Rows.{event_widths}
use Rattle.spec_notes.specs.Back.{event_read, events_before}
use Rattle.code_notes_events.proofs.event_back.events_before.Given as goal

abbrev pub invariant-loop-p : goal.invariant-loop-p
invariant-loop-p l =
    (length l.new ≡ event_count) × (length l.a ≡ event_count)
    × (events_before l.new l.s ≡ entries_from (own_in event_widths) (event_read l.new) l.s l.p l.a)

abbrev pub decreases-loop-p : goal.decreases-loop-p
decreases-loop-p l = length l.s - l.p
