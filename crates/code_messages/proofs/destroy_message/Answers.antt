-- `code_messages::destroy_message` meets its contract: it gets the record of no message.
use Rattle.spec_messages.specs.Messages.{destroy_message}
use Rattle.code_messages.proofs.destroy_message.Goals as goal

pub returns : goal.returns
unfolding destroy_message
returns c = rw (c.filed.ensures, c.no_message.ensures)
