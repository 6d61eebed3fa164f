-- `code_notes_semaphores::semaphore_back::record_in` meets its contract: what is read fits, so nothing is cut.
use Prim.Native.Nat.{ℕ}
use mathlib.Core.Path.{ap, ◌∙◌}
use mathlib.Core.List.{List}
use native.Mathlib.Omega.{arith}
use Rattle.base_rows.proofs.Fitted.{Bytes, drop_bytes}
use Rattle.spec_notes.specs.Rows.{semaphore_from, semaphore_widths}
use Rattle.code_notes_entries.proofs.Fits.{read_fits, cut_semaphore, semaphore_fits}
use borrow.Author.Rules.{rules}
use Rattle.code_notes_semaphores.proofs.semaphore_back.record_in.Goals as goal

pub returns : goal.returns
returns c =
    let a = c.args in
    let s : List ℕ = a.e.now in
    let b : Bytes s = λ i. omega (arith, c.type_inv.e i) in
    let f = semaphore_fits a.c a.r (search rules) (search rules) (search rules) (search rules) in
    c.from_row.ensures
    ∙ ap semaphore_from
    (rw (c.row_in-row.ensures, c.predicted-predicted.ensures)
    (read_fits semaphore_widths _ _ _ cut_semaphore (drop_bytes 1 s b) f))
