-- `base_rows::rows::used_by` meets its contract: what is still to count are the fields from the index on.
use Prim.Native.Nat.{◌+◌, ◌*◌, ◌≤◌}
use mathlib.Core.Path.{◌≡◌}
use lib.ListN.{drop}
use Rattle.base_rows.specs.Rows.{used_by}
use Rattle.base_rows.proofs.rows.used_by.Given as goal

abbrev pub invariant-loop-w : goal.invariant-loop-w
invariant-loop-w l =
    (l.used ≤ 255 * l.w-index) × (used_by l.fn.widths l.flags ≡ l.used + used_by (drop l.w-index l.fn.widths) l.left)
