-- `code_semaphores::semaphores::create_semaphore` meets its contract: the lowest free id gets a new record.
use Rattle.spec_semaphores.specs.Semaphores.{create_semaphore}
use Rattle.code_semaphores.proofs.semaphores.create_semaphore.Goals as goal

pub returns : goal.returns
unfolding create_semaphore
returns c = rw (c.with_semaphore.ensures, c.free_semaphore-i.ensures)
