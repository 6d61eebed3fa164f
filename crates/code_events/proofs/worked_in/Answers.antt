-- `code_events::worked_in` meets its contract: the first i events are worked out.
use Prim.Native.Nat.{ℕ}
use mathlib.Core.Path.{refl, sym, ap, ◌∙◌}
use native.Mathlib.Omega.{arith}
use Rattle.spec_events.specs.Events.{work_out_from}
use Rattle.code_events.proofs.Works.{work_true, work_false}
use Rattle.code_events.proofs.worked_in.Goals as goal
use Rattle.code_events.proofs.worked_in.Goals.{then-wakes, else-wakes}

pub loop-i-init : goal.loop-i-init
unfolding work_out_from
loop-i-init c = refl

pub loop-i-preserved : goal.loop-i-preserved
loop-i-preserved c =
    let l = c.loop-i in
    elim c.if-wakes.branch [
      | then-wakes w ↦ rw (w.next-is, w.woken_in-next.ensures) (work_true _ _ l.i _ l.invariant (sym c.wakes.ensures ∙ w.if-wakes.true))
      | else-wakes w ↦ rw w.next-is (work_false _ _ l.i _ l.invariant (sym c.wakes.ensures ∙ w.if-wakes.false))
    ]

pub returns : goal.returns
returns c =
    let a = c.args in
    c.loop-i.invariant ∙ ap (λ (n : ℕ). work_out_from a.events a.bits 0 n a.p) (omega arith)
