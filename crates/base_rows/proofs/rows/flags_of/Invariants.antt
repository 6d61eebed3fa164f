-- `base_rows::rows::flags_of` meets its contract. The fields are compared from the last to the first: so far the flags are those of the
-- fields from i on.
use mathlib.Core.Path.{◌≡◌}
use lib.ListN.{drop}
use Rattle.base_rows.specs.Rows.{flags_of}
use Rattle.base_rows.proofs.rows.flags_of.Given as goal

abbrev pub invariant-loop-i : goal.invariant-loop-i
invariant-loop-i l = l.flags ≡ flags_of (drop l.i l.old) (drop l.i l.predicted)
