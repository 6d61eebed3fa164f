-- `code_semaphores::waiting::waiting_of` meets its contract: the part is taken out.
use Rattle.code_semaphores.proofs.waiting.waiting_of.Goals as goal

pub returns : goal.returns
returns c = rw c.threads_of.ensures
