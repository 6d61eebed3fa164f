-- `code_threads::sleep` meets its contract.
use Rattle.spec_threads.specs.Threads.{sleep}
use Rattle.code_threads.proofs.sleep.Goals as goal

pub returns : goal.returns
unfolding sleep
returns c = c.block.ensures
