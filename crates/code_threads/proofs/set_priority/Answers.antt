-- `code_threads::set_priority` meets its contract: the thread's record is put anew.
use Rattle.spec_threads.specs.Threads.{set_priority}
use Rattle.code_threads.proofs.set_priority.Goals as goal

pub returns : goal.returns
unfolding set_priority
returns c = rw (c.placed.ensures, c.with_priority.ensures, c.thread_at-r.ensures)
