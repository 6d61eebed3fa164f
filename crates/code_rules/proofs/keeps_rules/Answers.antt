-- `code_rules::keeps_rules` meets its contract: where all is asked for, the test is the whole one.
use Rattle.spec_rules.specs.Tests.{keeps_rules, keeps_asked}
use Rattle.code_rules.proofs.keeps_rules.Goals as goal

pub returns : goal.returns
unfolding keeps_rules keeps_asked
returns c = c.keeps_asked.ensures
