-- `app_both_ways::all_forward` meets its contract.
use Rattle.spec_answers.proofs.Fresh.{fresh_rules}
use Rattle.app_both_ways.proofs.all_forward.Goals as goal

pub loop-init : goal.loop-init
loop-init g c = rw c.fresh.ensures fresh_rules
