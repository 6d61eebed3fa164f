-- `code_time::time_passes` meets its contract: those that are due wake, then all are aged.
use Rattle.spec_time.specs.Time.{age_all, time_passes}
use Rattle.code_time.proofs.time_passes.Goals as goal

pub returns : goal.returns
unfolding time_passes age_all
returns c = rw (c.aged_records-records.ensures, c.due_woken-woken.ensures)
