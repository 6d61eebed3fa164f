-- `code_semaphores::semaphores::remove_periodic` meets its contract: its record is put anew.
use Rattle.spec_semaphores.specs.Semaphores.{remove_periodic}
use Rattle.code_semaphores.proofs.semaphores.remove_periodic.Goals as goal

pub returns : goal.returns
unfolding remove_periodic
returns c = rw (c.with_semaphore.ensures, c.with_ticks.ensures, c.semaphore_at-r.ensures)
