-- `base_bytes::bytes::number_at` meets its contract. The bytes are read from the last to the first: so far x is the number in those
-- from i on.
use Prim.Native.Nat.{◌+◌, ◌-◌, min}
use mathlib.Core.Path.{◌≡◌}
use lib.ListN.{drop}
use Rattle.base_bytes.specs.Bytes.{un}
use Rattle.base_bytes.proofs.bytes.number_at.Given as goal

abbrev pub invariant-loop-i : goal.invariant-loop-i
invariant-loop-i l = l.x ≡ un (min l.w 4 - l.i) (drop (l.start + l.i) l.s)
