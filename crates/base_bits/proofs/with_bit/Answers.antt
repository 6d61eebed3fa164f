-- `base_bits::with_bit` meets its contract. `|` adds the bit where it is clear.
-- Assumes nothing.
use mathlib.Core.Path.{sym}
use Rattle.base_bits.proofs.Laws.{one_shifted, with_or, with_high}
use Rattle.base_bits.proofs.with_bit.Goals as goal

pub returns-then-i-lt32 : goal.returns-then-i-lt32
returns-then-i-lt32 c = rw (one_shifted 32 _ c.if-i-lt32.true) (sym (with_or _ _ c.if-i-lt32.true))

pub returns-else-i-lt32 : goal.returns-else-i-lt32
returns-else-i-lt32 c = sym (with_high _ _ c.if-i-lt32.false)
