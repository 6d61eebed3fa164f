-- `code_moves::states::scheduled` meets its contract: the levels add up to 0 only where both are 0.
use Prim.Native.Nat.{◌+◌}
use native.Mathlib.Omega.{arith}
use borrow.Author.Tests.{eq-eqb, ne_eqb}
use Rattle.spec_moves.specs.States.{scheduled}
use Rattle.code_moves.proofs.states.scheduled.Goals as goal
use Rattle.code_moves.proofs.states.scheduled.Goals.{then-k-ne0-via-then-k-ne0, then-k-ne0-via-else-k-ne0+then-k-ne0-2}

pub returns-then-k-ne0 : goal.returns-then-k-ne0
unfolding scheduled
returns-then-k-ne0 c =
    let k = c.args.k in
    rw (ne_eqb (k.unscheduled + k.critical) 0
    (λ e. elim c.then-k-ne0.branch [
      | then-k-ne0-via-then-k-ne0 w ↦ w.if-k-ne0.true (omega arith)
      | then-k-ne0-via-else-k-ne0+then-k-ne0-2 w ↦ w.if-k-ne0-2.true (omega arith)
    ]))

pub returns : goal.returns
unfolding scheduled
returns c =
    let k = c.args.k in
    rw (eq-eqb (k.unscheduled + k.critical) 0 (omega arith), c.chosen.ensures)
