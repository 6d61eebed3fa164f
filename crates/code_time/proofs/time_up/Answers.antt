-- `code_time::time_up` meets its contract: what the thread waited for gives the reason.
use Rattle.spec_time.specs.Time.{time_up}
use Rattle.code_time.proofs.time_up.Goals as goal

pub returns : goal.returns
unfolding time_up
returns c = rw (c.woken.ensures, c.reason_at.ensures, c.thread_at-r.ensures)
