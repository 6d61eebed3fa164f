-- `base_rows::rows::put_body` meets its contract: what is still to write is the body of the fields from i on.
use Prim.Native.Nat.{◌+◌}
use mathlib.Core.Path.{refl, sym, ◌∙◌}
use lib.ListN.{drop}
use borrow.Author.Rules.{rules}
use Rattle.base_bytes.specs.Pens.{puts}
use Rattle.base_bytes.proofs.Writing.{puts_append}
use Rattle.base_rows.proofs.RowTurns.{body_next, body_end}
use Rattle.base_rows.proofs.rows.put_body.Goals as goal

pub loop-i-preserved : goal.loop-i-preserved
loop-i-preserved c =
    let a = c.args in
    let i = c.loop-i.i in
    let n = body_next a.old a.predicted i (i + 1) refl (search rules) (search rules) a.widths (search rules) in
    c.loop-i.invariant ∙ rw (n, puts_append, c.put_field-p.ensures)

pub returns : goal.returns
unfolding puts
returns c =
    let a = c.args in
    let l = c.loop-i in
    sym (l.invariant ∙ rw (body_end a.widths (drop l.i a.old) (drop l.i a.predicted) l.i (search rules)))
