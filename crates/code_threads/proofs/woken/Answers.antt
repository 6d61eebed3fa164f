-- `code_threads::woken` meets its contract: the thread's record is put anew.
use Rattle.code_threads.proofs.woken.Goals as goal

pub returns : goal.returns
returns c = rw (c.relocated.ensures, c.awake.ensures, c.thread_at-r.ensures)
