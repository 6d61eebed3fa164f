-- `code_flags::post_flag` meets its contract: the flag's queue is emptied.
use Rattle.spec_flags.specs.Flags.{post_flag}
use Rattle.code_flags.proofs.post_flag.Goals as goal

pub returns : goal.returns
unfolding post_flag
returns c = rw (c.with_threads.ensures, c.woken_in.ensures, c.threads_of.ensures)
