-- `base_tables::is_taken` meets its contract: the members passed are taken out of the set and their keys rise up to `low`, so the
-- rest decides.
use mathlib.Core.Path.{◌≡◌}
use lib.ListN.{drop}
use Rattle.base_tables.specs.Taken.{is_taken}
use Rattle.base_tables.proofs.is_taken.Given as goal

abbrev pub invariant-loop-x : goal.invariant-loop-x
invariant-loop-x l = is_taken l.set 0 l.keys l.members ≡ is_taken l.left l.low l.keys (drop l.x-index l.members)
