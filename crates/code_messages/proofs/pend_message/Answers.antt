-- `code_messages::pend_message` meets its contract: 255 says that there is none.
use mathlib.Core.Path.{sym, ◌∙◌}
use borrow.Author.Tests.{eq-eqb, ne_eqb}
use Rattle.spec_messages.specs.Messages.{pend_message}
use Rattle.code_messages.proofs.pend_message.Goals as goal

pub returns-then-m : goal.returns-then-m
unfolding pend_message
returns-then-m c = rw (eq-eqb _ _ (sym c.next_message-m.ensures ∙ c.if-m.true), c.block.ensures)

pub returns-else-m : goal.returns-else-m
unfolding pend_message
returns-else-m c =
    let m = c.next_message-m.ensures in
    rw (ne_eqb _ _ (λ z. c.if-m.false (m ∙ z)), c.receive.ensures, m)
