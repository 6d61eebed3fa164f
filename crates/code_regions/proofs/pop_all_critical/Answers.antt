-- `code_regions::pop_all_critical` meets its contract.
use mathlib.Core.Path.{refl}
use Rattle.spec_regions.specs.Regions.{pop_all_critical}
use Rattle.code_regions.proofs.pop_all_critical.Goals as goal

pub returns : goal.returns
unfolding pop_all_critical
returns c = refl
