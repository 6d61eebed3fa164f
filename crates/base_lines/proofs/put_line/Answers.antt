-- `base_lines::put_line` meets its contract.
use Rattle.std.proofs.Common.{sym, ◌∙◌}
use lib.ListN.{drop_of_length-le}
use Rattle.base_bytes.specs.Pens.{puts}
use Rattle.base_bytes.proofs.Writing.{puts_append}
use Rattle.base_lines.specs.Lines.{line}
use Rattle.base_lines.proofs.Lines.{line_next}
use Rattle.base_lines.proofs.put_line.Goals as goal

pub loop-i-preserved : goal.loop-i-preserved
loop-i-preserved c =
    let ns = c.args.numbers.now in
    c.loop-i.invariant ∙ rw (line_next ns c.loop-i.i c.loop-i-test.true, puts_append, c.put_number-p.ensures, c.end_of.ensures)

pub returns : goal.returns
unfolding puts line
returns c = sym (c.loop-i.invariant ∙ rw (drop_of_length-le c.args.numbers.now c.loop-i-test.false))
