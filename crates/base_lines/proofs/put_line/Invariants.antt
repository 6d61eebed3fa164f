-- `base_lines::put_line`: what is still to write is the line of the numbers from i on.
use Rattle.std.proofs.Common.{◌≡◌, drop}
use Rattle.base_bytes.specs.Pens.{pen, puts}
use Rattle.base_lines.specs.Lines.{line}
use Rattle.base_lines.proofs.put_line.Given as goal

abbrev pub invariant-loop-i : goal.invariant-loop-i
invariant-loop-i l = puts (pen l.initial.out l.fn.at) (line l.numbers) ≡ puts (pen l.out l.p) (line (drop l.i l.numbers))
