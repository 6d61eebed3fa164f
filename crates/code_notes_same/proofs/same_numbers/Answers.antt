-- `code_notes_same::same_numbers` meets its contract: number by number.
use native.Mathlib.Omega.{arith}
use Rattle.std.proofs.lemmas.Grind.{common_steps}
use Rattle.spec_notes.specs.Same.{same_numbers}
use Rattle.code_notes_same.proofs.same_numbers.Goals as goal

pub returns-then-a-b-5 : goal.returns-then-a-b-5
unfolding same_numbers
returns-then-a-b-5 c = grind (arith, common_steps)

pub returns-else-a-b-5 : goal.returns-else-a-b-5
unfolding same_numbers
returns-else-a-b-5 c = grind (arith, common_steps)
