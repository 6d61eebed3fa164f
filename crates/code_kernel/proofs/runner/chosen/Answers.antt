-- `code_kernel::runner::chosen` meets its contract: an id past the records has the home of no thread, so it is not chosen.
use Rattle.spec_kernel.specs.Runner.{chosen}
use Rattle.code_kernel.proofs.runner.chosen.Goals as goal

pub returns : goal.returns
unfolding chosen
returns c = rw (← c.first-first.ensures, ← c.no_thread.ensures, ← c.record_at.ensures) c.if_ready.ensures
