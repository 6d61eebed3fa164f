-- `code_threads::free_messages` meets its contract: the records are freed, and the queue keeps the others.
use Rattle.spec_threads.specs.Threads.{free_messages}
use Rattle.code_threads.proofs.free_messages.Goals as goal

pub returns : goal.returns
unfolding free_messages
returns c = rw (c.freed_records-messages.ensures, c.freed_posts-posted.ensures)
