-- `base_tables::is_table` meets its contract: a table that isn't tidy is refused, and of another the members decide.
use mathlib.Core.Path.{sym, ◌∙◌}
use Rattle.base_tables.specs.Taken.{is_table}
use Rattle.base_tables.proofs.is_table.Goals as goal

pub returns-then-is_tidy : goal.returns-then-is_tidy
unfolding is_table
returns-then-is_tidy c = rw (sym c.is_tidy.ensures ∙ c.if-is_tidy.true) (c.is_taken.ensures ∙ rw c.members.ensures)

pub returns-else-is_tidy : goal.returns-else-is_tidy
unfolding is_table
returns-else-is_tidy c = rw (c.if-is_tidy.false, sym c.is_tidy.ensures ∙ c.if-is_tidy.false)
