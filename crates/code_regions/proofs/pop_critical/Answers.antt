-- `code_regions::pop_critical` meets its contract.
use Rattle.spec_regions.specs.Regions.{pop_critical}
use Rattle.code_regions.proofs.pop_critical.Goals as goal

pub returns : goal.returns
unfolding pop_critical
returns c = rw c.saturating_sub.ensures
