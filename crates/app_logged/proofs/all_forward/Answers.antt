-- `app_logged::all_forward` meets what its calls require.
use Rattle.spec_answers.proofs.Fresh.{fresh_rules}
use Rattle.spec_answers.proofs.WithLogs.{rules_go_on}
use Rattle.app_logged.proofs.all_forward.Goals as goal

pub loop-init : goal.loop-init
loop-init g c = rw c.fresh-k.ensures fresh_rules

pub loop-preserved : goal.loop-preserved
loop-preserved g c = rules_go_on c.recorded-l.ensures c.loop.invariant
