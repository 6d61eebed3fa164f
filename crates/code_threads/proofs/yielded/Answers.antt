-- `code_threads::yielded` meets its contract: the runner takes its places anew.
use Rattle.spec_threads.specs.Threads.{yielded}
use Rattle.code_threads.proofs.yielded.Goals as goal

pub returns : goal.returns
unfolding yielded
returns c = rw (c.placed.ensures, c.thread_at-r.ensures)
