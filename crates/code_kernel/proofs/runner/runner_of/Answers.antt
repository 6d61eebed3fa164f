-- `code_kernel::runner::runner_of` meets its contract: the levels add up to 0 only where both are 0.
use Prim.Native.Nat.{◌+◌}
use native.Mathlib.Omega.{arith}
use borrow.Author.Tests.{eq-eqb, ne_eqb}
use Rattle.code_kernel.specs.RunnerOf.{runner_of}
use Rattle.code_kernel.proofs.runner.runner_of.Goals as goal

pub returns-then-critical-ne0 : goal.returns-then-critical-ne0
unfolding runner_of
returns-then-critical-ne0 c =
    let some = c.if-critical-ne0.either in
    rw (ne_eqb (c.args.unscheduled + c.args.critical) 0 (λ e. omega arith))

pub returns-else-critical-ne0 : goal.returns-else-critical-ne0
unfolding runner_of
returns-else-critical-ne0 c =
    let none = c.if-critical-ne0.false in
    rw (eq-eqb (c.args.unscheduled + c.args.critical) 0 (omega arith)) c.if_ready.ensures
