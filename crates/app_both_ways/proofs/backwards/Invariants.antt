-- `app_both_ways::backwards`: the state keeps its rules at each undo.
use Rattle.spec_rules.specs.Rules.{Rules}
use Rattle.app_both_ways.proofs.backwards.Given as goal

abbrev pub invariant-loop : goal.invariant-loop
invariant-loop g l = Rules l.l.kernel
