-- `code_notes_events::event_back::record_in` meets its contract: what is read fits, so nothing is cut.
use Prim.Native.Nat.{ℕ}
use mathlib.Core.Path.{ap, ◌∙◌}
use mathlib.Core.List.{List}
use native.Mathlib.Omega.{arith}
use Rattle.base_rows.proofs.Fitted.{Bytes, drop_bytes}
use Rattle.spec_notes.specs.Rows.{event_from, event_widths}
use Rattle.code_notes_entries.proofs.Fits.{read_fits, cut_event, event_fits}
use borrow.Author.Rules.{rules}
use Rattle.code_notes_events.proofs.event_back.record_in.Goals as goal

pub returns : goal.returns
returns c =
    let a = c.args in
    let s : List ℕ = a.e.now in
    let b : Bytes s = λ i. omega (arith, c.type_inv.e i) in
    let f = event_fits a.r (search rules) (search rules) in
    c.from_row.ensures
    ∙ ap event_from
    (rw (c.row_in-row.ensures, c.row_of-predicted.ensures)
    (read_fits event_widths _ _ _ cut_event (drop_bytes 1 s b) f))
