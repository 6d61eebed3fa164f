-- `base_rows::entries::put_code` meets its contract: the test is that of `code_noted`.
use borrow.Author.Tests.{eq-eqb, ne_eqb}
use Rattle.base_bytes.specs.Pens.{puts}
use Rattle.base_rows.proofs.entries.put_code.Goals as goal

pub returns-then-code-told : goal.returns-then-code-told
unfolding puts
returns-then-code-told c = rw (eq-eqb _ _ c.if-code-told.true)

pub returns-else-code-told : goal.returns-else-code-told
unfolding puts
returns-else-code-told c = rw (ne_eqb _ _ c.if-code-told.false, c.put_byte.ensures)
