-- `base_bits::all_match` meets its contract. No masked bit differs from its value.
-- Assumes nothing.
use Rattle.base_bits.proofs.Matches.{none_wrong}
use Rattle.base_bits.proofs.all_match.Goals as goal

pub returns : goal.returns
returns c = none_wrong _ _ _ c.ranges.mask.fits
