-- `base_bits::sets::joined` meets its contract: `|` puts the bit in.
-- Assumes nothing.
use mathlib.Core.Bool.{and-false}
use borrow.Author.Tests.{lt-ltb, le-ltb}
use Rattle.base_bits.specs.Sets.{joined}
use Rattle.base_bits.proofs.Laws.{one_shifted}
use Rattle.base_bits.proofs.sets.joined.Goals as goal
use Rattle.base_bits.proofs.sets.joined.Goals.{else-joins-via-then-joins+else-x, else-joins-via-else-joins}

pub returns-then-x : goal.returns-then-x
unfolding joined
returns-then-x c = rw (one_shifted 64 _ c.if-x.true, lt-ltb _ _ c.if-x.true, c.if-joins.true)

pub returns-else-joins : goal.returns-else-joins
unfolding joined
returns-else-joins c =
    elim c.else-joins.branch [
      | else-joins-via-then-joins+else-x w ↦ rw (le-ltb _ _ w.if-x.false)
      | else-joins-via-else-joins w ↦ rw (w.if-joins.false, and-false)
    ]
