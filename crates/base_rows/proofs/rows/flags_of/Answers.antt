-- `base_rows::rows::flags_of` meets its contract. The fields are compared from the last to the first: so far the flags are those of the
-- fields from i on.
use Prim.Native.Nat.{◌+◌, ◌-◌, ◌*◌, ◌<◌}
use mathlib.Core.Path.{◌≡◌, sym, ◌∙◌}
use native.Mathlib.Omega.{arith}
use lib.ListN.{get_or, drop}
use borrow.Author.Rules.{rules}
use Rattle.base_rows.specs.Rows.{flag_of, flags_of}
use Rattle.base_rows.proofs.RowTurns.{flags_next, flags_byte, flags_end}
use Rattle.base_rows.proofs.rows.flags_of.Goals as goal
use Rattle.base_rows.proofs.rows.flags_of.Goals.{In-loop-i}

-- with the field before
step : (c : In-loop-i) → let a = c.args in let k = c.loop-i.i - 1 in
    flags_of (drop k a.old) (drop k a.predicted) ≡ flag_of (get_or a.old k 0) (get_or a.predicted k 0) + 2 * c.loop-i.flags
step c =
    let a = c.args in
    let l = c.loop-i in
    rw l.invariant (flags_next a.old a.predicted (l.i - 1) l.i (omega arith) (search rules) (search rules))

small : (c : In-loop-i) → let a = c.args in let k = c.loop-i.i - 1 in
    flag_of (get_or a.old k 0) (get_or a.predicted k 0) + 2 * c.loop-i.flags < 256
small c =
    let a = c.args in
    rw (← step c) (flags_byte a.old a.predicted (c.loop-i.i - 1) (search rules))

pub loop-i-init : goal.loop-i-init
loop-i-init c = sym (flags_end c.args.old c.args.predicted 8 (search rules))

pub overflow_mul-flags : goal.overflow_mul-flags
overflow_mul-flags c = omega (arith, small (goal.at.overflow_mul-flags c).In-loop-i)

pub overflow_add-flags : goal.overflow_add-flags
overflow_add-flags c = omega (arith, small (goal.at.overflow_add-flags c).In-loop-i, c.flag_of.ensures)

pub loop-i-preserved : goal.loop-i-preserved
loop-i-preserved c = sym (step (goal.at.loop-i-preserved c).In-loop-i ∙ rw c.flag_of.ensures)
