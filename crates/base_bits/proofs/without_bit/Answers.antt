-- `base_bits::without_bit` meets its contract. What is left is the word with the bit clear.
-- Assumes nothing.
use mathlib.Core.Path.{sym}
use Rattle.base_bits.proofs.Digits.{bit_high}
use Rattle.base_bits.proofs.Laws.{one_shifted, without_mask, without_clear}
use Rattle.base_bits.proofs.without_bit.Goals as goal

pub returns-then-i-lt32 : goal.returns-then-i-lt32
returns-then-i-lt32 c = rw (one_shifted 32 _ c.if-i-lt32.true) (sym (without_mask _ _ c.if-i-lt32.true c.ranges.word.fits))

pub returns-else-i-lt32 : goal.returns-else-i-lt32
returns-else-i-lt32 c = sym (without_clear _ _ (bit_high _ _ c.if-i-lt32.false))
