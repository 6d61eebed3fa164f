-- `code_notes_messages::message_back::row_before` meets its contract: no width is above four, and what is read fits.
use Prim.Native.Nat.{ℕ}
use mathlib.Core.Path.{◌≡◌}
use mathlib.Core.List.{List}
use native.Mathlib.Omega.{arith}
use lib.ListN.{get_or, drop}
use Rattle.base_rows.specs.Entries.{row_in}
use Rattle.base_rows.proofs.Fitted.{Bytes, drop_bytes}
use Rattle.spec_notes.specs.Rows.{message_widths}
use Rattle.spec_notes.specs.Predicted.{predicted_message}
use Rattle.code_notes_entries.proofs.Fits.{read_fits, cut_message, message_fits}
use borrow.Author.Rules.{rules}
use Rattle.code_notes_messages.proofs.message_back.row_before.Goals as goal

pub returns : goal.returns
returns c =
    let a = c.args in
    let s : List ℕ = a.e.now in
    let b : Bytes s = λ i. omega (arith, c.type_inv.e i) in
    let told = predicted_message a.c a.runner a.r in
    let f =
    message_fits a.c a.runner a.r (search rules) (search rules) (search rules) (search rules) (search rules) (search rules)
    (search rules) in
    let e : c.row_in.result.fields ≡ row_in message_widths told (get_or s 0 0) (drop 1 s) =
    rw (c.row_in.ensures, c.predicted-predicted.ensures) (rw cut_message) in
    (e, rw e (rw cut_message at (read_fits message_widths told (get_or s 0 0) (drop 1 s) cut_message (drop_bytes 1 s b) f)))
