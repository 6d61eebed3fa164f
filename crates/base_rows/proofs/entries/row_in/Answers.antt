-- `base_rows::entries::row_in` meets its contract: the fields behind the flags.
use lib.Seq.{drop-drop}
use mathlib.Core.Path.{◌∙◌}
use Rattle.base_rows.specs.Entries.{row_in}
use Rattle.base_rows.proofs.entries.row_in.Goals as goal

pub returns : goal.returns
unfolding row_in
returns c =
    rw drop-drop
    (c.row_at.ensures
    ∙ rw (c.flags_in.ensures, c.from-at.ensures, c.fields_from.ensures, c.byte_at.ensures))
