-- `code_events::worked_out` meets its contract: the part of the threads is worked out and put anew.
use Rattle.spec_events.specs.Events.{worked_out}
use Rattle.code_events.proofs.worked_out.Goals as goal

pub returns : goal.returns
unfolding worked_out
returns c = rw (c.with_threads.ensures, c.worked_in.ensures, c.threads_of.ensures)
