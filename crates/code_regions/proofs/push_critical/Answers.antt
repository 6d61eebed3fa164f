-- `code_regions::push_critical` meets its contract.
use mathlib.Core.Path.{ap}
use native.Mathlib.Omega.{arith}
use Rattle.spec_regions.specs.Regions.{push_critical}
use Rattle.code_regions.proofs.Levels.{saturates}
use Rattle.code_regions.proofs.push_critical.Goals as goal

pub returns : goal.returns
unfolding push_critical
returns c = ap (λ l. record c.args.k { critical = l }) (saturates c.args.k.critical _ (omega arith) (omega arith))
