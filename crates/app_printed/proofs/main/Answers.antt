-- `app_printed::main` meets what its calls require.
use Rattle.spec_answers.proofs.Fresh.{fresh_rules}
use Rattle.app_printed.proofs.main.Goals as goal

pub loop-init : goal.loop-init
loop-init c = rw c.fresh.ensures fresh_rules
