-- `code_notes_messages::message_back::messages_before` meets its contract: what is still to read are the entries from p on.
use Prim.Native.Nat.{◌-◌}
use mathlib.Core.Path.{◌≡◌}
use lib.ListN.{length}
use Rattle.base_rows.specs.Entries.{own_in}
use Rattle.base_rows.proofs.EntriesRead.{entries_from}
use Rattle.spec_notes.specs.Rows.{message_widths}
use Rattle.spec_notes.specs.Back.{message_read, messages_before}
use Rattle.code_notes_messages.proofs.message_back.messages_before.Given as goal

abbrev pub invariant-loop-p : goal.invariant-loop-p
invariant-loop-p l =
    messages_before l.c l.runner l.new l.s
    ≡ entries_from (own_in message_widths) (message_read l.c l.runner l.new) l.s l.p
    (record { messages = l.messages; out = l.out; at = l.at })

abbrev pub decreases-loop-p : goal.decreases-loop-p
decreases-loop-p l = length l.s - l.p
