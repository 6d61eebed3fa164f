-- `app_printed::replayed`: the state keeps its rules at each record.
use Rattle.spec_rules.specs.Rules.{Rules}
use Rattle.app_printed.proofs.replayed.Given as goal

abbrev pub invariant-loop-bytes : goal.invariant-loop-bytes
invariant-loop-bytes l = Rules l.k
