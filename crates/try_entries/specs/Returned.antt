-- What came back of an entry, held against what must come back.
use Rattle.std.specs.Prelude.{ℕ, Bool, [], ◌∷◌, ◌==◌}
use Rattle.spec_kernel.specs.declared.records.Kernel.{Kernel}
use Rattle.spec_rules.specs.Tests.{all_of}
use Rattle.spec_notes.specs.Same.{same_kernel}
use Rattle.spec_answers.specs.declared.Answer.{Answer}
use Rattle.spec_answers.specs.declared.Logged.{Logged}

unfoldable pub same_answer : Answer → Answer → Bool
same_answer a b = all_of ((a.number == b.number) ∷ (a.value == b.value) ∷ (a.runner == b.runner) ∷ [])

-- the answer, the used length and the state, each to the last field
unfoldable pub came_back : Logged → Answer → Kernel → ℕ → Bool
came_back l a k used = all_of (same_answer l.answer a ∷ (l.used == used) ∷ same_kernel l.kernel k ∷ [])
