-- `code_threads::reset_priority` meets its contract: the thread's record is put anew.
use Rattle.spec_threads.specs.Threads.{reset_priority}
use Rattle.code_threads.proofs.reset_priority.Goals as goal

pub returns : goal.returns
unfolding reset_priority
returns c = rw (c.placed.ensures, c.with_priority.ensures, c.thread_at-r.ensures)
