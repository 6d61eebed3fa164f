-- `code_notes_back::state_back::levels_before` meets its contract: no width is above four, and the runner is a byte.
use Prim.Native.Nat.{ℕ}
use mathlib.Core.Path.{◌≡◌}
use mathlib.Core.List.{List}
use native.Mathlib.Omega.{arith}
use lib.ListN.{get_or, drop}
use Rattle.base_rows.specs.Rows.{row_from}
use Rattle.base_rows.proofs.Fitted.{Bytes, drop_bytes, row_at}
use Rattle.spec_notes.specs.Rows.{scheduler_widths}
use Rattle.spec_notes.specs.Predicted.{predicted_levels}
use Rattle.spec_notes.specs.Back.{levels_before}
use Rattle.code_notes_back.proofs.Restoring.{cut_scheduler}
use borrow.Author.Rules.{rules}
use Rattle.code_notes_back.proofs.state_back.levels_before.Goals as goal

pub returns : goal.returns
unfolding levels_before
returns c =
    let a = c.args in
    let s : List ℕ = a.s.now in
    let b : Bytes s = λ i. omega (arith, c.type_inv.s i) in
    let e : c.row_at.result.fields
    ≡ row_from scheduler_widths (get_or s 0 0) (predicted_levels a.c a.unscheduled a.critical a.runner) (drop 1 s) =
    rw (c.row_at.ensures, c.predicted-told.ensures, c.byte_at.ensures) (rw cut_scheduler) in
    (e, rw e (row_at scheduler_widths (get_or s 0 0) _ (drop 1 s) (drop_bytes 1 s b) 2 (search rules)))
