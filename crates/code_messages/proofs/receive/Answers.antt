-- `code_messages::receive` meets its contract: its record is put anew.
use Rattle.spec_messages.specs.Messages.{receive}
use Rattle.code_messages.proofs.receive.Goals as goal

pub returns : goal.returns
unfolding receive
returns c = rw (c.filed.ensures, c.passed.ensures, c.message_at-r.ensures)
