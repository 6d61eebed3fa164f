-- `code_kernel::truth::is_true` meets its contract: each mode is one of the two tests of a word's bits.
use Rattle.spec_kernel.specs.Truth.{is_true}
use Rattle.code_kernel.proofs.truth.is_true.Goals as goal

pub returns-then-e : goal.returns-then-e
unfolding is_true
returns-then-e c = rw c.if-e.true c.any_match.ensures

pub returns-else-e : goal.returns-else-e
unfolding is_true
returns-else-e c = rw c.if-e.false c.all_match.ensures
