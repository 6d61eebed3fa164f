-- `base_lines::put_digits`: the digits that are there, behind those that are still to write.
use Rattle.std.proofs.Common.{◌≡◌, ◌++◌, length, drop}
use Rattle.base_lines.specs.Lines.{decimal, decimal_in}
use Rattle.base_lines.proofs.put_digits.Given as goal

abbrev pub invariant-loop-i : goal.invariant-loop-i
invariant-loop-i l = (length l.digits ≡ 20) × (decimal_in l.i l.rest ++ drop l.i l.digits ≡ decimal l.n)
