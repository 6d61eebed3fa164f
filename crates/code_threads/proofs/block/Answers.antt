-- `code_threads::block` meets its contract: the runner's record is put anew.
use Rattle.spec_threads.specs.Threads.{block}
use Rattle.code_threads.proofs.block.Goals as goal

pub returns : goal.returns
unfolding block
returns c = rw (c.placed.ensures, c.blocked.ensures, c.thread_at-r.ensures)
