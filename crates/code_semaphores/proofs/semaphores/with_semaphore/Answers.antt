-- `code_semaphores::semaphores::with_semaphore` meets its contract: past the last semaphore nothing is stored.
use mathlib.Core.Path.{◌≡◌}
use native.Mathlib.Omega.{arith}
use lib.ListN.{length}
use lib.Seq.{set_out}
use Rattle.spec_kernel.specs.Sizes.{semaphore_count}
use Rattle.code_semaphores.proofs.semaphores.with_semaphore.Goals as goal

pub returns-else-i-lt-SEMAPHORE_IDS : goal.returns-else-i-lt-SEMAPHORE_IDS
returns-else-i-lt-SEMAPHORE_IDS c =
    let k = c.args.k in
    let e : length k.semaphores ≡ semaphore_count = c.well_formed.0.1.1.1.0.1.0.1 in
    rw (set_out k.semaphores c.args.i c.args.r (omega arith))
