-- `code_rules_records::thread_kept` meets its contract: whether it is live picks the test.
use Rattle.code_rules_records.specs.Others.{thread_by}
use Rattle.code_rules_records.proofs.thread_kept.Goals as goal

pub returns-then-r : goal.returns-then-r
unfolding thread_by
returns-then-r c = rw (c.live_thread_kept.ensures, c.if-r.true)

pub returns-else-r : goal.returns-else-r
unfolding thread_by
returns-else-r c = rw (c.is_no_thread.ensures, c.if-r.false)
