-- `code_rules_records::live_message_kept` meets its contract: test by test.
use native.Mathlib.Omega.{arith}
use Rattle.std.proofs.lemmas.Grind.{common_steps}
use Rattle.code_rules_records.specs.Others.{live_message_by}
use Rattle.code_rules_records.proofs.live_message_kept.Goals as goal

pub returns-then-r-le-CHANNELS : goal.returns-then-r-le-CHANNELS
unfolding live_message_by
returns-then-r-le-CHANNELS c = grind (arith, common_steps)

pub returns-else-r-le-CHANNELS : goal.returns-else-r-le-CHANNELS
unfolding live_message_by
returns-else-r-le-CHANNELS c = grind (arith, common_steps)
