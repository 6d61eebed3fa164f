-- `code_rules_records::is_no_semaphore` meets its contract: field by field.
use native.Mathlib.Omega.{arith}
use Rattle.std.proofs.lemmas.Grind.{common_steps}
use Rattle.spec_rules.specs.Tests.{is_no_semaphore}
use Rattle.code_rules_records.proofs.is_no_semaphore.Goals as goal

pub returns-then-r-eq0-3 : goal.returns-then-r-eq0-3
unfolding is_no_semaphore
returns-then-r-eq0-3 c = grind (arith, common_steps)

pub returns-else-r-eq0-3 : goal.returns-else-r-eq0-3
unfolding is_no_semaphore
returns-else-r-eq0-3 c = grind (arith, common_steps)
