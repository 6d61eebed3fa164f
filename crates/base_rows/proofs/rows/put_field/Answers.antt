-- `base_rows::rows::put_field` meets its contract: the test is that of `field_of`.
use borrow.Author.Tests.{eq-eqb}
use Rattle.base_bytes.specs.Pens.{puts}
use Rattle.base_rows.proofs.rows.put_field.Goals as goal

pub returns-then-old-predicted : goal.returns-then-old-predicted
unfolding puts
returns-then-old-predicted c = rw (eq-eqb _ _ c.if-old-predicted.true)
