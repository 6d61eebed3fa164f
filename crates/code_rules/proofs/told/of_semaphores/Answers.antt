-- `code_rules::told::of_semaphores` meets its contract: of the i semaphores passed `kept` and `waited` tell, and the rest decides.
use mathlib.Core.Path.{◌≡◌, ap}
use mathlib.Core.Bool.{Bool, ◌&&◌}
use native.Mathlib.Omega.{arith}
use Rattle.base_bits.proofs.Members.{tells_none}
use Rattle.spec_kernel.specs.Records.{no_semaphore}
use Rattle.spec_kernel.specs.Sizes.{semaphore_count}
use Rattle.spec_rules.specs.Tests.{semaphore_kept}
use Rattle.code_rules.proofs.Loops.{sweep_starts, sweep_next, sweep_ends, tells_more}
use Rattle.code_rules.proofs.told.of_semaphores.Goals as goal

pub loop-i-init : goal.loop-i-init
loop-i-init c =
    (sweep_starts semaphore_kept c.args.semaphores.now, tells_none _)

pub loop-i-preserved : goal.loop-i-preserved
loop-i-preserved c =
    let l = c.loop-i in (
      sweep_next l.invariant.0 no_semaphore (omega arith) (ap (λ (x : Bool). l.kept && x) c.semaphore_kept-kept.ensures),
      tells_more l.invariant.1 (omega arith) c.joined-waited.ensures c.may_have_waiters.ensures,
    )

pub returns : goal.returns
returns c =
    let l = c.loop-i in
    let e : l.i ≡ semaphore_count = omega arith in
    record { full = c.told-semaphores; kept = sweep_ends l.invariant.0 (omega arith); waited = rw e at l.invariant.1 }
