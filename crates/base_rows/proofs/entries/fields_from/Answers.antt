-- `base_rows::entries::fields_from` meets its contract: the bytes of the code and of the flags.
use Rattle.base_rows.specs.Entries.{fields_from}
use Rattle.base_rows.proofs.entries.fields_from.Goals as goal

pub returns : goal.returns
unfolding fields_from
returns c = rw (c.taken_by.ensures, c.flags_from.ensures)
