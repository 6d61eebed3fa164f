-- `code_notes::note::put_section` meets its contract: the length modulo 65,536 has the same two bytes.
use Rattle.base_bytes.proofs.Writing.{puts_append}
use Rattle.code_notes.proofs.Sizes.{two_bytes_lem}
use Rattle.code_notes.proofs.note.put_section.Goals as goal

pub returns : goal.returns
returns c = rw (c.put_all.ensures, c.put_number-p.ensures, two_bytes_lem, puts_append)
