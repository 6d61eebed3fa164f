-- `base_rows::rows::row_at` meets its contract: the fields before i are read, and what is still to come is the row of the others. A place
-- that begins within the bytes and goes on by at most eight widths fits its type.
use Prim.Native.Nat.{◌+◌, ◌*◌, ◌≤◌}
use mathlib.Core.Path.{◌≡◌}
use mathlib.Core.List.{◌++◌}
use lib.ListN.{length, drop, take}
use Rattle.base_rows.specs.Rows.{row_from, cut}
use Rattle.base_rows.proofs.rows.row_at.Given as goal

abbrev pub invariant-loop-i : goal.invariant-loop-i
invariant-loop-i l =
    (length l.fields ≡ 8) × (l.p ≤ length l.s + 255 * l.i)
    × (row_from (cut l.widths) l.flags l.predicted (drop l.at l.s) ≡ take l.i l.fields ++ row_from (cut (drop l.i l.widths)) l.left (drop l.i l.predicted) (drop l.p l.s))
