-- `code_regions::push_unscheduled` meets its contract.
use mathlib.Core.Path.{ap}
use native.Mathlib.Omega.{arith}
use Rattle.spec_regions.specs.Regions.{push_unscheduled}
use Rattle.code_regions.proofs.Levels.{saturates}
use Rattle.code_regions.proofs.push_unscheduled.Goals as goal

pub returns : goal.returns
unfolding push_unscheduled
returns c = ap (λ l. record c.args.k { unscheduled = l }) (saturates c.args.k.unscheduled _ (omega arith) (omega arith))
