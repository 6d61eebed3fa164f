-- `code_notes_same::same_queue` meets its contract: two lengths, then the places.
use mathlib.Core.Path.{◌∙◌}
use borrow.Author.Tests.{eq-eqb, ne_eqb}
use Rattle.spec_notes.specs.Same.{same_queue}
use Rattle.code_notes_same.proofs.Pairs.{row_pairs}
use Rattle.code_notes_same.proofs.same_queue.Goals as goal

pub returns-then-a-b : goal.returns-then-a-b
unfolding same_queue
returns-then-a-b c = rw (eq-eqb _ _ c.if-a-b.true) (c.eq.ensures ∙ row_pairs c.args.a.now.at c.args.b.now.at)

pub returns-else-a-b : goal.returns-else-a-b
unfolding same_queue
returns-else-a-b c = rw (ne_eqb _ _ c.if-a-b.false)
