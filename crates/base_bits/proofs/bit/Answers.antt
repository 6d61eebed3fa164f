-- `base_bits::bit` meets its contract. A word of 32 bits has none above 31.
-- Assumes nothing.
use mathlib.Core.Path.{sym, ◌∙◌}
use Rattle.base_bits.proofs.Laws.{word_has}
use Rattle.base_bits.proofs.bit.Goals as goal

pub returns : goal.returns
returns c = c.has.ensures ∙ rw c.from.ensures (sym (word_has _ _ c.ranges.word.fits))
