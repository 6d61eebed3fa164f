-- `app_both_ways::all_forward`: the state keeps its rules at each part of the input.
use Rattle.spec_rules.specs.Rules.{Rules}
use Rattle.app_both_ways.proofs.all_forward.Given as goal

abbrev pub invariant-loop : goal.invariant-loop
invariant-loop g l = Rules l.run.kernel
