-- `code_rules_records::message_kept` meets its contract: whether it is live picks the test.
use Rattle.code_rules_records.specs.Others.{message_by}
use Rattle.code_rules_records.proofs.message_kept.Goals as goal

pub returns-then-r : goal.returns-then-r
unfolding message_by
returns-then-r c = rw (c.live_message_kept.ensures, c.if-r.true)

pub returns-else-r : goal.returns-else-r
unfolding message_by
returns-else-r c = rw (c.is_no_message.ensures, c.if-r.false)
