-- `code_semaphores::semaphores::pend_semaphore` meets its contract: the count decides.
use Prim.Native.Nat.{ℕ}
use mathlib.Core.Path.{◌≡◌, ap}
use native.Mathlib.Omega.{arith}
use borrow.Author.Tests.{lt-ltb, le-ltb}
use Rattle.spec_kernel.specs.declared.records.Semaphore.{Semaphore}
use Rattle.spec_kernel.specs.Records.{semaphore}
use Rattle.spec_semaphores.specs.Semaphores.{pend_semaphore}
use Rattle.code_semaphores.proofs.semaphores.pend_semaphore.Goals as goal
use Rattle.code_semaphores.proofs.semaphores.pend_semaphore.Goals.{After-semaphore_at-r}

-- the count of semaphore a
abbrev counted : After-semaphore_at-r → ℕ
counted c = (semaphore c.args.k c.args.c.a).count

count : (c : After-semaphore_at-r) → c.semaphore_at-r.result.count ≡ counted c
count c = ap (λ (r : Semaphore). r.count) c.semaphore_at-r.ensures

pub returns-then-r-gt0 : goal.returns-then-r-gt0
unfolding pend_semaphore
returns-then-r-gt0 c = rw (lt-ltb 0 (counted (goal.at.returns-then-r-gt0 c).After-semaphore_at-r) (omega (arith, count (goal.at.returns-then-r-gt0 c).After-semaphore_at-r)), c.with_semaphore.ensures, c.with_count.ensures, c.semaphore_at-r.ensures)

pub returns-else-r-gt0 : goal.returns-else-r-gt0
unfolding pend_semaphore
returns-else-r-gt0 c = rw (le-ltb 0 (counted (goal.at.returns-else-r-gt0 c).After-semaphore_at-r) (omega (arith, count (goal.at.returns-else-r-gt0 c).After-semaphore_at-r)), c.block.ensures)
