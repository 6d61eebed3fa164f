-- `code_notes_frame::last::last_length` meets its contract: with fewer than two bytes used it reads from the front, as the definition.
use Rattle.spec_notes.specs.Undo.{last_length}
use borrow.Author.Rules.{rules}
use Rattle.code_notes_frame.proofs.last.last_length.Goals as goal

pub returns : goal.returns
unfolding last_length
returns c = search rules
