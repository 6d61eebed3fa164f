-- `code_rules_records::is_no_message` meets its contract: field by field.
use native.Mathlib.Omega.{arith}
use Rattle.std.proofs.lemmas.Grind.{common_steps}
use Rattle.spec_rules.specs.Tests.{is_no_message}
use Rattle.code_rules_records.proofs.is_no_message.Goals as goal

pub returns-then-r-eq0-5 : goal.returns-then-r-eq0-5
unfolding is_no_message
returns-then-r-eq0-5 c = grind (arith, common_steps)

pub returns-else-r-eq0-5 : goal.returns-else-r-eq0-5
unfolding is_no_message
returns-else-r-eq0-5 c = grind (arith, common_steps)
