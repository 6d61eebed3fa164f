-- `code_events::pend_event` meets its contract: whether it is TRUE decides.
use Rattle.spec_events.specs.Events.{pend_event}
use Rattle.code_events.proofs.pend_event.Goals as goal

pub returns-then-is_true : goal.returns-then-is_true
unfolding pend_event
returns-then-is_true c = rw (← c.event_at.ensures, ← c.is_true.ensures, c.if-is_true.true)

pub returns-else-is_true : goal.returns-else-is_true
unfolding pend_event
returns-else-is_true c = rw (← c.event_at.ensures, ← c.is_true.ensures, c.if-is_true.false) c.block.ensures
