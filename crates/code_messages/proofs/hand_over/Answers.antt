-- `code_messages::hand_over` meets its contract: the message changes hands, and its recipient wakes.
use Rattle.spec_messages.specs.Messages.{hand_over}
use Rattle.code_messages.proofs.hand_over.Goals as goal

pub returns : goal.returns
unfolding hand_over
returns c =
    rw (
      c.placed.ensures,
      c.awake.ensures,
      c.filed.ensures,
      c.passed.ensures,
      c.thread_at-s.ensures,
      c.message_at-r.ensures,
    )
