-- `code_rules_records::live_semaphore_kept` meets its contract: test by test.
use native.Mathlib.Omega.{arith}
use Rattle.std.proofs.lemmas.Grind.{common_steps}
use Rattle.spec_rules.specs.Tests.{live_semaphore_kept}
use Rattle.code_rules_records.proofs.live_semaphore_kept.Goals as goal

pub returns-then-r : goal.returns-then-r
unfolding live_semaphore_kept
returns-then-r c = grind (arith, common_steps)

pub returns-else-r : goal.returns-else-r
unfolding live_semaphore_kept
returns-else-r c = grind (arith, common_steps)
