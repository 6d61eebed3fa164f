-- `code_rules::told::of_semaphores` meets its contract: of the i semaphores passed `kept` and `waited` tell, and the rest decides.
use Rattle.base_bits.specs.Sets.{Tells}
use Rattle.base_queue.specs.Lists.{every_from}
use Rattle.spec_rules.specs.Tests.{semaphore_kept, semaphore_waited}
use Rattle.code_rules.proofs.Loops.{Sweep}
use Rattle.code_rules.proofs.told.of_semaphores.Given as goal

abbrev pub invariant-loop-i : goal.invariant-loop-i
invariant-loop-i l =
    Sweep (every_from (λ _ r. semaphore_kept r) 0 l.semaphores) l.kept semaphore_kept l.semaphores l.i
    × Tells l.waited l.i (semaphore_waited l.semaphores)
