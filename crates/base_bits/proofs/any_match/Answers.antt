-- `base_bits::any_match` meets its contract. Not every masked bit differs from its value.
-- Assumes nothing.
use Rattle.base_bits.proofs.Matches.{some_right}
use Rattle.base_bits.proofs.any_match.Goals as goal

pub returns : goal.returns
returns c = some_right _ _ _ c.ranges.mask.fits
