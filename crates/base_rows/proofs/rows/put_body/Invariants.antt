-- `base_rows::rows::put_body` meets its contract: what is still to write is the body of the fields from i on.
use mathlib.Core.Path.{◌≡◌}
use lib.ListN.{drop}
use Rattle.base_bytes.specs.Pens.{pen, puts}
use Rattle.base_rows.specs.Rows.{body_of}
use Rattle.base_rows.proofs.rows.put_body.Given as goal

abbrev pub invariant-loop-i : goal.invariant-loop-i
invariant-loop-i l =
    puts (pen l.initial.log l.at) (body_of l.widths l.old l.predicted)
    ≡ puts (pen l.log l.p) (body_of (drop l.i l.widths) (drop l.i l.old) (drop l.i l.predicted))
