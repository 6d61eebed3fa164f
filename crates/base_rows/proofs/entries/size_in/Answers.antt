-- `base_rows::entries::size_in` meets its contract: no more than there are, whatever the widths.
use Prim.Native.Nat.{◌+◌, min}
use mathlib.Core.Path.{◌≡◌, ◌∙◌}
use native.Mathlib.Omega.{arith}
use lib.ListN.{length, get_or, drop}
use Rattle.base_rows.specs.Rows.{used_by}
use Rattle.base_rows.specs.Entries.{fields_from, flags_in, own_in}
use Rattle.base_rows.proofs.entries.size_in.Goals as goal

pub returns : goal.returns
unfolding own_in
returns c =
    let a = c.args in
    let s = a.e.now in
    let f = fields_from (get_or s 0 0) in
    let u = used_by a.widths (flags_in (get_or s 0 0) (drop 1 s)) in
    let e : min (1 + f + min u (length s)) (length s) ≡ min (1 + (f + u)) (length s) = omega arith in
    c.min.ensures
    ∙ rw (
      c.min-used.ensures,
      c.used_by.ensures,
      c.flags_in.ensures,
      c.from-before.ensures,
      c.fields_from.ensures,
      c.byte_at.ensures,
    )
    e
