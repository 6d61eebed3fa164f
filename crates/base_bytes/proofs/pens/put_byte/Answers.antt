-- `base_bytes::pens::put_byte` meets its contract: the test is that of `put`.
use borrow.Author.Tests.{lt-ltb, le-ltb}
use Rattle.base_bytes.specs.Pens.{put}
use Rattle.base_bytes.proofs.pens.put_byte.Goals as goal

pub returns-then-at-log : goal.returns-then-at-log
unfolding put
returns-then-at-log c = rw (lt-ltb _ _ c.if-at-log.true)

pub returns-else-at-log : goal.returns-else-at-log
unfolding put
returns-else-at-log c = rw (le-ltb _ _ c.if-at-log.false)
