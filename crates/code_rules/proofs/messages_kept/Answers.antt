-- `code_rules::messages_kept` meets its contract: the messages, and their table.
use native.Mathlib.Omega.{arith}
use Rattle.std.proofs.lemmas.Grind.{common_steps}
use Rattle.code_rules.proofs.Parts.{messages_part, posted_part}
use Rattle.code_rules.proofs.messages_kept.Goals as goal

pub returns-then-m : goal.returns-then-m
returns-then-m c =
    let k = c.args.k.now in
    let messages = messages_part k c.of_messages-m.ensures in
    let posted = posted_part k c.of_messages-m.ensures in
    grind (arith, common_steps, messages, posted)

pub returns-else-m : goal.returns-else-m
returns-else-m c =
    let k = c.args.k.now in
    let messages = messages_part k c.of_messages-m.ensures in
    grind (arith, common_steps, messages)
