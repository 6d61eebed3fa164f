-- `app_rounds::all_rounds` meets what its calls require: the fresh state keeps its rules.
use Rattle.spec_answers.proofs.Fresh.{fresh_rules}
use Rattle.app_rounds.proofs.all_rounds.Goals as goal

pub round-total-requires : goal.round-total-requires
round-total-requires c = rw c.fresh-fresh.ensures fresh_rules

pub round-r-requires : goal.round-r-requires
round-r-requires c = rw c.fresh-fresh.ensures fresh_rules
