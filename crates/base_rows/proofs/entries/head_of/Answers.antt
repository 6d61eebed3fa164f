-- `base_rows::entries::head_of` meets its contract.
use Rattle.base_rows.specs.Entries.{head_of}
use Rattle.base_rows.proofs.entries.head_of.Goals as goal

pub returns : goal.returns
unfolding head_of
returns c = rw (c.flag_of.ensures, c.flag_of-2.ensures, c.from.ensures, c.from-2.ensures, c.from-3.ensures)
