-- `code_threads::destroy_thread` meets its contract: its messages are freed, and it gets the record of no thread.
use Rattle.spec_threads.specs.Threads.{destroy_thread}
use Rattle.code_threads.proofs.destroy_thread.Goals as goal

pub returns : goal.returns
unfolding destroy_thread
returns c = rw (c.placed.ensures, c.no_thread.ensures, c.free_messages.ensures)
