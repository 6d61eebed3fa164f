-- `app_printed::main`: the state keeps its rules at each part of the input.
use Rattle.spec_rules.specs.Rules.{Rules}
use Rattle.app_printed.proofs.main.Given as goal

abbrev pub invariant-loop : goal.invariant-loop
invariant-loop l = Rules l.run.kernel
