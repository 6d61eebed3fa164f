-- `code_rules_records::live_thread_kept` meets its contract: test by test.
use native.Mathlib.Omega.{arith}
use Rattle.std.proofs.lemmas.Grind.{common_steps}
use Rattle.code_rules_records.specs.Others.{live_thread_by}
use Rattle.code_rules_records.proofs.live_thread_kept.Goals as goal

pub returns-then-r-eq255 : goal.returns-then-r-eq255
unfolding live_thread_by
returns-then-r-eq255 c = grind (arith, common_steps)

pub returns-else-r-eq255 : goal.returns-else-r-eq255
unfolding live_thread_by
returns-else-r-eq255 c = grind (arith, common_steps)
