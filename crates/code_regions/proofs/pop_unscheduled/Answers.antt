-- `code_regions::pop_unscheduled` meets its contract.
use Rattle.spec_regions.specs.Regions.{pop_unscheduled}
use Rattle.code_regions.proofs.pop_unscheduled.Goals as goal

pub returns : goal.returns
unfolding pop_unscheduled
returns c = rw c.saturating_sub.ensures
