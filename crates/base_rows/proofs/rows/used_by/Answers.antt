-- `base_rows::rows::used_by` meets its contract: what is still to count are the fields from the index on.
use Prim.Native.Nat.{◌≤◌, ◌<◌}
use native.Mathlib.Omega.{arith}
use lib.ListN.{length}
use borrow.Author.Rules.{rules}
use Rattle.base_rows.proofs.RowTurns.{used_next, used_end}
use Rattle.base_rows.proofs.rows.used_by.Goals as goal

pub loop-w-preserved : goal.loop-w-preserved
loop-w-preserved c =
    let l = c.loop-w in
    let full : l.w-index < length c.args.widths = search rules in
    omega (arith, c.taken_by.type_inv, used_next c.args.widths l.left l.w-index full, c.taken_by.ensures, c.from-used.ensures)

pub returns : goal.returns
returns c =
    let l = c.loop-w in
    let all : length c.args.widths ≤ l.w-index = search rules in
    omega (arith, l.invariant.1, used_end c.args.widths l.left l.w-index all)
