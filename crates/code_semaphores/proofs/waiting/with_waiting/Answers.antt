-- `code_semaphores::waiting::with_waiting` meets its contract: the part is put anew.
use Rattle.code_semaphores.proofs.waiting.with_waiting.Goals as goal

pub returns : goal.returns
returns c = rw c.with_threads.ensures
