-- `code_notes_same::same_asked` meets its contract: its tests in two parts.
use mathlib.Core.Path.{◌≡◌, refl}
use mathlib.Core.Bool.{Bool, true, false, ◌&&◌}
use mathlib.Core.List.{List, [], ◌∷◌, ◌++◌}
use Rattle.spec_kernel.specs.declared.records.Kernel.{Kernel}
use Rattle.spec_rules.specs.declared.tests.Asked.{Asked}
use Rattle.spec_rules.specs.Tests.{all_of}
use Rattle.code_rules_records.proofs.Answers.{refused, passed}
use Rattle.code_notes_same.specs.OfRecords.{of_records, of_others}
use Rattle.spec_notes.specs.Same.{same_asked}
use Rattle.code_notes_same.proofs.same_asked.Goals as goal

-- all of two lists
all_append : (l m : List Bool) → all_of (l ++ m) ≡ (all_of l && all_of m)
all_append [] m = refl
all_append (true ∷ l) m = all_append l m
all_append (false ∷ l) m = refl

parts : (asked : Asked) (a b : Kernel) → same_asked asked a b ≡ (all_of (of_records asked a b) && all_of (of_others asked a b))
unfolding same_asked
parts asked a b = all_append (of_records asked a b) (of_others asked a b)

pub returns-then-same_records : goal.returns-then-same_records
returns-then-same_records c = rw (parts, passed c.same_records.ensures c.if-same_records.true) c.same_others.ensures

pub returns-else-same_records : goal.returns-else-same_records
returns-else-same_records c = rw (parts, refused c.same_records.ensures c.if-same_records.false) c.if-same_records.false
