-- `code_semaphores::semaphores::destroy_semaphore` meets its contract: it gets the record of no semaphore.
use Rattle.spec_semaphores.specs.Semaphores.{destroy_semaphore}
use Rattle.code_semaphores.proofs.semaphores.destroy_semaphore.Goals as goal

pub returns : goal.returns
unfolding destroy_semaphore
returns c = rw (c.with_semaphore.ensures, c.no_semaphore.ensures)
