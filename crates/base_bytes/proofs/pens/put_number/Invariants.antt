-- `base_bytes::pens::put_number` meets its contract: what is still to write are the lowest bytes of `rest`.
use Prim.Native.Nat.{◌-◌}
use mathlib.Core.Path.{◌≡◌}
use Rattle.base_bytes.specs.Bytes.{le}
use Rattle.base_bytes.specs.Pens.{pen, puts}
use Rattle.base_bytes.proofs.pens.put_number.Given as goal

abbrev pub invariant-loop : goal.invariant-loop
invariant-loop l = puts (pen l.initial.log l.at) (le l.w l.x) ≡ puts (pen l.log l.p) (le (l.w - l.counter) l.rest)
