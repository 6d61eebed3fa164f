-- `app_both_ways::forward` meets its contract.
use Rattle.spec_answers.proofs.WithLogs.{rules_go_on}
use Rattle.app_both_ways.proofs.forward.Goals as goal

pub loop-bytes-preserved : goal.loop-bytes-preserved
loop-bytes-preserved c = rules_go_on c.recorded-l.ensures c.loop-bytes.invariant
