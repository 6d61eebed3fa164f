-- `code_time::pulses` meets its contract: the first i semaphores are done.
use Prim.Native.Nat.{ℕ}
use mathlib.Core.Path.{refl, ap, ◌∙◌}
use native.Mathlib.Omega.{arith}
use Rattle.code_semaphores.specs.Waiting.{with_waiting}
use Rattle.code_time.proofs.PulseTurns.{pulse_more, pulse_skips}
use Rattle.spec_time.specs.Time.{pulse_from}
use Rattle.code_time.proofs.pulses.Goals as goal
use Rattle.code_time.proofs.pulses.Goals.{then-next-i-ne0, else-next-i-ne0}

pub loop-i-init : goal.loop-i-init
unfolding pulse_from
loop-i-init c = (c.well_formed.0.1.1.1.0.1.0.1, λ k. refl)

pub loop-i-preserved : goal.loop-i-preserved
loop-i-preserved c =
    let l = c.loop-i in
    elim c.if-next-i-ne0.branch [
      | then-next-i-ne0 w ↦
          rw w.next-is (w.pulse-next.type_inv.1.1.1.0.1.0.1, λ k. w.pulse-next.ensures k ∙ pulse_more l.i _ (l.invariant.1 k))
      | else-next-i-ne0 w ↦ rw w.next-is (l.invariant.0, λ k. pulse_skips l.i _ (l.invariant.1 k) w.if-next-i-ne0.false)
    ]

pub returns : goal.returns
returns c k =
    let l = c.loop-i in
    l.invariant.1 k ∙ ap (λ (n : ℕ). pulse_from 0 n (with_waiting c.args.w k)) (omega arith)
