-- `base_bits::sets::has` meets its contract. The shift brings bit x down to the lowest digit, and a word has none past the last.
-- Assumes nothing.
use mathlib.Core.Path.{sym, ◌∙◌}
use Rattle.base_bits.proofs.Digits.{has_low}
use Rattle.base_bits.proofs.Members.{has_past}
use borrow.Author.Tests.{le-ltb}
use Rattle.base_bits.proofs.sets.has.Goals as goal

pub returns-then-x-lt-WIDTH : goal.returns-then-x-lt-WIDTH
returns-then-x-lt-WIDTH c = sym (has_low _ _)

pub returns-else-x-lt-WIDTH : goal.returns-else-x-lt-WIDTH
returns-else-x-lt-WIDTH c = le-ltb _ _ c.if-x-lt-WIDTH.false ∙ sym (has_past c.args.set 64 c.ranges.set.fits _ c.if-x-lt-WIDTH.false)
