-- `code_regions::pop_all_unscheduled` meets its contract.
use mathlib.Core.Path.{refl}
use Rattle.spec_regions.specs.Regions.{pop_all_unscheduled}
use Rattle.code_regions.proofs.pop_all_unscheduled.Goals as goal

pub returns : goal.returns
unfolding pop_all_unscheduled
returns c = refl
