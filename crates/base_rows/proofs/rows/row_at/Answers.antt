-- `base_rows::rows::row_at` meets its contract: the fields before i are read, and what is still to come is the row of the others. A place
-- that begins within the bytes and goes on by at most eight widths fits its type.
use mathlib.Core.Path.{◌∙◌}
use native.Mathlib.Omega.{arith}
use lib.ListN.{drop, length-set}
use borrow.Author.Rules.{rules}
use Rattle.base_rows.proofs.RowTurns.{row_next, row_end, filled_next, filled_end}
use Rattle.base_rows.proofs.rows.row_at.Goals as goal

pub loop-i-preserved : goal.loop-i-preserved
loop-i-preserved c =
    let a = c.args in
    let l = c.loop-i in
    let n = row_next a.widths a.predicted a.s.now l.left l.i l.p (search rules) (search rules) in (
      simp length-set l.invariant.0,
      omega (arith, c.taken_by.type_inv, c.from-p.ensures),
      l.invariant.2 ∙ rw (n, c.field_at.ensures, c.from-p.ensures, c.taken_by.ensures, c.min.ensures) (filled_next _ l.i _ _ (omega arith)),
    )

pub returns : goal.returns
returns c =
    let a = c.args in
    let l = c.loop-i in
    rw (
      l.invariant.2,
      row_end a.widths (drop l.i a.predicted) (drop l.p a.s.now) l.left l.i (search rules),
      filled_end l.fields l.i (omega arith),
    )
