-- `code_messages::post_message` meets its contract: what the recipient waits for decides.
use mathlib.Core.Path.{◌≡◌, sym, ap, ◌∙◌}
use Rattle.spec_kernel.specs.declared.records.Thread.{Thread}
use Rattle.spec_kernel.specs.Records.{thread}
use Rattle.spec_kernel.specs.Conditions.{awaits}
use Rattle.spec_moves.specs.States.{as_byte}
use Rattle.spec_messages.specs.Messages.{post_message}
use Rattle.code_messages.proofs.post_message.Goals as goal
use Rattle.code_messages.proofs.post_message.Goals.{After-awaits}

-- what `awaits` says of the recipient
said : (c : After-awaits)
    → let a = c.args in
    c.awaits.result ≡ awaits (thread a.k a.c.b).condition (as_byte a.c.c)
said c =
    let a = c.args in
    c.awaits.ensures ∙ ap (λ (r : Thread). awaits r.condition (as_byte a.c.c)) c.thread_at-s.ensures

pub returns-then-awaits : goal.returns-then-awaits
unfolding post_message
returns-then-awaits c =
    let h = sym (said (goal.at.returns-then-awaits c).After-awaits) ∙ c.if-awaits.true in
    rw (h, c.hand_over.ensures)

pub returns : goal.returns
unfolding post_message
returns c =
    let h = sym (said (goal.at.returns c).After-awaits) ∙ c.if-awaits.false in
    rw (h, c.filed.ensures, c.passed.ensures, c.message_at-r.ensures)
