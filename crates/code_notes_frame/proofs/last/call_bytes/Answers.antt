-- `code_notes_frame::last::call_bytes` meets its contract: what the note has of it, and zeros behind that.
use Rattle.code_notes_frame.proofs.Framing.{record_padded}
use Rattle.code_notes_frame.proofs.last.call_bytes.Goals as goal

pub returns : goal.returns
returns c = rw c.copy_from_slice.ensures.after (record_padded c.args.note.now c.min-n.result c.min-n.ensures)
