-- `code_notes_frame::last::has_last` meets its contract: its tests are those of the definition.
use native.Mathlib.Omega.{arith}
use Rattle.std.proofs.lemmas.Grind.{common_steps}
use Rattle.spec_notes.specs.Undo.{has_last}
use Rattle.code_notes_frame.proofs.last.has_last.Goals as goal

pub returns-then-n-ge-LEAST : goal.returns-then-n-ge-LEAST
unfolding has_last
returns-then-n-ge-LEAST c = grind (arith, common_steps)

pub returns-else-n-ge-LEAST : goal.returns-else-n-ge-LEAST
unfolding has_last
returns-else-n-ge-LEAST c = grind (arith, common_steps)
