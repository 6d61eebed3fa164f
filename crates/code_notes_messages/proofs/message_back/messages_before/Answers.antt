-- `code_notes_messages::message_back::messages_before` meets its contract: what is still to read are the entries from p on.
use Prim.Native.Nat.{ℕ}
use mathlib.Core.Path.{◌≡◌, refl, sym, ap, ◌∙◌}
use mathlib.Core.List.{List}
use native.Mathlib.Omega.{arith}
use lib.ListN.{get_or, set}
use Rattle.base_rows.specs.Entries.{id_of, row_in, own_in}
use Rattle.base_rows.proofs.EntriesRead.{entries_end}
use Rattle.spec_kernel.specs.declared.records.Message.{Message}
use Rattle.spec_kernel.specs.Records.{no_message}
use Rattle.spec_calls.specs.declared.call.Call.{Call}
use Rattle.spec_notes.specs.Rows.{message_from, message_widths}
use Rattle.spec_notes.specs.Predicted.{predicted_message}
use Rattle.spec_notes.specs.Back.{Filing, message_read, messages_before}
use Rattle.code_notes_entries.proofs.EntryTurns.{turn_on, turned}
use Rattle.code_notes_messages.proofs.message_back.messages_before.Goals as goal

-- what the three stores leave is what the entry does
stores : (c : Call) (runner : ℕ) (new : List Message) (h m : ℕ) (t : List ℕ) (a : Filing) {r : Message} {row : List ℕ}
    {messages : List Message} {out at : List ℕ}
    → m ≡ id_of h
    → r ≡ get_or new m no_message
    → row ≡ row_in message_widths (predicted_message c runner r) h t
    → messages ≡ set a.messages m (message_from row)
    → out ≡ set a.out m 1
    → at ≡ set a.at (get_or row 7 0) m
    → record { messages = messages; out = out; at = at } ≡ message_read c runner new h t a
unfolding message_read
stores c runner new h m t a is found read e f g = rw (e, f, g, read, found, is)

pub loop-p-init : goal.loop-p-init
unfolding messages_before
loop-p-init c = refl

pub loop-p-smaller : goal.loop-p-smaller
loop-p-smaller c =
    let a = c.args in
    let on = turn_on (own_in message_widths) (message_read a.c a.runner a.new) a.s.now c.loop-p-test.true c.size_in-p.ensures in
    omega (arith, on)

pub loop-p-preserved : goal.loop-p-preserved
loop-p-preserved c =
    let a = c.args in
    let l = c.loop-p in
    let old : Filing = record { messages = l.messages; out = l.out; at = l.at } in
    let row = c.row_before-row.ensures in
    let record_stored = c.store.ensures ∙ ap (set l.messages _) (c.from_row.ensures ∙ ap message_from row.1) in
    turned (own_in message_widths) (message_read a.c a.runner a.new) a.s.now c.loop-p-test.true c.size_in-p.ensures old
    (stores a.c a.runner a.new _ _ _ old c.id_in-m.ensures c.message_at.ensures row.0 record_stored c.store-in-loop-p.ensures
    c.store-in-loop-p-2.ensures)
    l.invariant

pub returns : goal.returns
returns c =
    let l = c.loop-p in
    sym (l.invariant ∙ entries_end _ _ c.args.s.now l.p _ c.loop-p-test.false)
