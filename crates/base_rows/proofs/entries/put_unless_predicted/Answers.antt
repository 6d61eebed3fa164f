-- `base_rows::entries::put_unless_predicted` meets its contract: no flag, or what is flagged.
use mathlib.Core.Path.{sym, ◌∙◌}
use Rattle.base_bytes.specs.Pens.{puts}
use Rattle.base_rows.proofs.entries.put_unless_predicted.Goals as goal

pub returns-then-flags_of-eq0 : goal.returns-then-flags_of-eq0
unfolding puts
returns-then-flags_of-eq0 c = rw (sym c.flags_of.ensures ∙ c.if-flags_of-eq0.true)
