-- `code_semaphores::semaphores::make_periodic` meets its contract: its record is put anew.
use Rattle.spec_semaphores.specs.Semaphores.{make_periodic}
use Rattle.code_semaphores.proofs.semaphores.make_periodic.Goals as goal

pub returns : goal.returns
unfolding make_periodic
returns c = rw (c.with_semaphore.ensures, c.with_ticks.ensures, c.semaphore_at-r.ensures)
