-- `code_threads::create_thread` meets its contract: the lowest free id gets a new record.
use Rattle.spec_threads.specs.Threads.{create_thread}
use Rattle.code_threads.proofs.create_thread.Goals as goal

pub returns : goal.returns
unfolding create_thread
returns c = rw (c.placed.ensures, c.born.ensures, c.free_thread.ensures)
