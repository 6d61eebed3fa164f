-- `code_answers_undo::kept::undo_many_kept` meets its contract: after i turns i notes are undone, and the others are still to come.
use mathlib.Core.Path.{◌≡◌}
use Rattle.spec_answers.specs.Steps.{answer}
use Rattle.spec_answers.specs.Logs.{logged, undone_kept, many_by}
use Rattle.code_answers_undo.proofs.Turns.{left}
use Rattle.code_answers_undo.proofs.kept.undo_many_kept.Given as goal

-- l is what an undo gives that is not refused
abbrev pub invariant-loop-i : goal.invariant-loop-i
invariant-loop-i l =
    (l.l ≡ logged (answer 0 255 l.l.kernel.runner) l.l.kernel l.l.used)
    × (many_by undone_kept l.n l.initial.l.kernel l.log l.initial.l.used ≡ left l.n l.i l.l.kernel l.log l.l.used)
