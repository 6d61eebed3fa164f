-- `code_events::signalled` meets its contract.
use mathlib.Core.Path.{◌∙◌}
use Rattle.code_events.proofs.signalled.Goals as goal

pub returns : goal.returns
returns c = c.worked_out.ensures ∙ c.changed.ensures
