-- `code_messages::create_message` meets its contract: the lowest free id gets a new record.
use Rattle.spec_messages.specs.Messages.{create_message}
use Rattle.code_messages.proofs.create_message.Goals as goal

pub returns : goal.returns
unfolding create_message
returns c = rw (c.filed.ensures, c.free_message-id.ensures)
