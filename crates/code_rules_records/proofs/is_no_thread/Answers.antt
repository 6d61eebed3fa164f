-- `code_rules_records::is_no_thread` meets its contract: field by field.
use native.Mathlib.Omega.{arith}
use Rattle.std.proofs.lemmas.Grind.{common_steps}
use Rattle.spec_rules.specs.Tests.{is_no_thread}
use Rattle.code_rules_records.proofs.is_no_thread.Goals as goal

pub returns-then-no_wake : goal.returns-then-no_wake
unfolding is_no_thread
returns-then-no_wake c = grind (arith, common_steps)

pub returns-else-no_wake : goal.returns-else-no_wake
unfolding is_no_thread
returns-else-no_wake c = grind (arith, common_steps)
