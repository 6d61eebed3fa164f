-- `code_rules_records::condition_kept` meets its contract, case by case.
use borrow.Author.Tests.{lt-ltb, le-ltb}
use Rattle.code_rules_records.specs.Others.{condition_by}
use Rattle.code_rules_records.proofs.condition_kept.Goals as goal

pub returns-in-Ready : goal.returns-in-Ready
unfolding condition_by
returns-in-Ready c = rw c.in-Ready.is

pub returns-in-Asleep : goal.returns-in-Asleep
unfolding condition_by
returns-in-Asleep c = rw c.in-Asleep.is

pub returns-in-ForSemaphore : goal.returns-in-ForSemaphore
unfolding condition_by
returns-in-ForSemaphore c = rw c.in-ForSemaphore.is c.has.ensures

pub returns-in-ForEvent : goal.returns-in-ForEvent
unfolding condition_by
returns-in-ForEvent c = rw c.in-ForEvent.is c.has-in-ForEvent.ensures

pub returns-then-mask-gt0 : goal.returns-then-mask-gt0
unfolding condition_by
returns-then-mask-gt0 c = rw (c.in-ForMessage.is, lt-ltb 0 _ c.if-mask-gt0.true)

pub returns-else-mask-gt0 : goal.returns-else-mask-gt0
unfolding condition_by
returns-else-mask-gt0 c = rw (c.in-ForMessage.is, le-ltb 0 _ c.if-mask-gt0.false)

pub returns-in-ForFlag : goal.returns-in-ForFlag
unfolding condition_by
returns-in-ForFlag c = rw c.in-ForFlag.is c.is_flag.ensures
