-- `app_back_rounds::forward` meets its contract.
use Rattle.spec_answers.proofs.Fresh.{fresh_rules}
use Rattle.spec_answers.proofs.WithLogs.{rules_go_on}
use Rattle.app_back_rounds.proofs.forward.Goals as goal

pub loop-bytes-init : goal.loop-bytes-init
loop-bytes-init c = rw c.fresh.ensures fresh_rules

pub loop-bytes-preserved : goal.loop-bytes-preserved
loop-bytes-preserved c = rules_go_on c.recorded-l.ensures c.loop-bytes.invariant
