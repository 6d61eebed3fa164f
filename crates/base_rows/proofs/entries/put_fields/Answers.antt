-- `base_rows::entries::put_fields` meets its contract: the flags, then the body.
use Rattle.base_bytes.specs.Pens.{puts}
use Rattle.base_rows.proofs.entries.put_fields.Goals as goal

pub returns : goal.returns
unfolding puts
returns c =
    rw (
      c.put_body.ensures,
      c.put_byte-p.ensures,
      c.flags_of.ensures,
    )
