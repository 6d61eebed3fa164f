-- `base_rows::entries::id_in` meets its contract: the six low bits of the head.
use Rattle.base_rows.specs.Entries.{id_of}
use Rattle.base_rows.proofs.entries.id_in.Goals as goal

pub returns : goal.returns
unfolding id_of
returns c = rw c.byte_at.ensures
