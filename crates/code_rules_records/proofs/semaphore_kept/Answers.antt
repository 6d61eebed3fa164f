-- `code_rules_records::semaphore_kept` meets its contract: whether it is live picks the test.
use Rattle.spec_rules.specs.Tests.{semaphore_kept}
use Rattle.code_rules_records.proofs.semaphore_kept.Goals as goal

pub returns-then-r : goal.returns-then-r
unfolding semaphore_kept
returns-then-r c = rw (c.live_semaphore_kept.ensures, c.if-r.true)

pub returns-else-r : goal.returns-else-r
unfolding semaphore_kept
returns-else-r c = rw (c.is_no_semaphore.ensures, c.if-r.false)
