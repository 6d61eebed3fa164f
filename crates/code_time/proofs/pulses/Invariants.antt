-- `code_time::pulses` meets its contract: the first i semaphores are done.
use mathlib.Core.Path.{◌≡◌}
use lib.ListN.{length}
use Rattle.spec_kernel.specs.Sizes.{semaphore_count}
use Rattle.code_semaphores.specs.Waiting.{Does}
use Rattle.spec_time.specs.Time.{pulse_from}
use Rattle.code_time.proofs.pulses.Given as goal

abbrev pub invariant-loop-i : goal.invariant-loop-i
invariant-loop-i l = (length l.next.semaphores ≡ semaphore_count) × Does (pulse_from 0 l.i) l.initial.next l.next
