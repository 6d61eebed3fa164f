-- `code_rules::keeps_asked` meets its contract: its tests in groups.
use native.Mathlib.Omega.{arith}
use Rattle.std.proofs.lemmas.Grind.{common_steps}
use Rattle.code_rules.proofs.Parts.{groups}
use Rattle.code_rules.proofs.keeps_asked.Goals as goal

pub returns-then-messages_kept : goal.returns-then-messages_kept
returns-then-messages_kept c = let a = c.args in rw (groups a.asked a.k) (grind (arith, common_steps))

pub returns-else-messages_kept : goal.returns-else-messages_kept
returns-else-messages_kept c = let a = c.args in rw (groups a.asked a.k) (grind (arith, common_steps))
