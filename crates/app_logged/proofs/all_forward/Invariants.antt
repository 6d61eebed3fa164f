-- `app_logged::all_forward`: the state keeps its rules at each record.
use Rattle.spec_rules.specs.Rules.{Rules}
use Rattle.app_logged.proofs.all_forward.Given as goal

abbrev pub invariant-loop : goal.invariant-loop
invariant-loop g l = Rules l.k
