-- `code_notes_same::same_kernel` meets its contract: with all asked for the test is the whole one, and that means what it says.
use mathlib.Core.Path.{◌≡◌}
use mathlib.Core.Bool.{Bool, true}
use mathlib.Core.Logic.{◌↔◌}
use Rattle.spec_kernel.specs.declared.records.Kernel.{Kernel}
use Rattle.spec_notes.specs.Same.{same_kernel, same_asked}
use Rattle.spec_notes.proofs.SameStates.{same_exactly}
use Rattle.code_notes_same.proofs.same_kernel.Goals as goal

told : (a b : Kernel) (r : Bool) → r ≡ same_kernel a b → (r ≡ same_kernel a b) × ((r ≡ true) ↔ (a ≡ b))
told a b r e = (e, rw e (same_exactly a b))

pub returns : goal.returns
unfolding same_asked same_kernel
returns c = let a = c.args in told a.a a.b _ c.same_asked.ensures
