-- `code_rules::told::of_threads` meets its contract: of the t threads passed `kept`, the sets and the keys tell, and the rest decides.
use Prim.Native.Nat.{ℕ}
use mathlib.Core.List.{List}
use lib.ListN.{get_or}
use Rattle.base_bits.specs.Sets.{Tells}
use Rattle.base_queue.specs.Lists.{every_from}
use Rattle.base_tables.specs.Taken.{Keys}
use Rattle.spec_kernel.specs.declared.records.Semaphore.{Semaphore}
use Rattle.spec_kernel.specs.declared.records.Event.{Event}
use Rattle.spec_kernel.specs.Records.{no_thread}
use Rattle.spec_kernel.specs.Places.{has_home, rank_of}
use Rattle.spec_rules.specs.Tests.{thread_kept, is_ticking}
use Rattle.code_rules_records.specs.Others.{Objects}
use Rattle.code_rules.proofs.Loops.{Sweep}
use Rattle.code_rules.proofs.told.of_threads.Given as goal

abbrev pub invariant-loop-i : goal.invariant-loop-i
invariant-loop-i l =
    ((semaphores : List Semaphore) (events : List Event) (bits : ℕ) → Objects l.waited l.untrue semaphores events bits
    → Sweep (every_from (λ _ r. thread_kept semaphores events bits l.flags r) 0 l.threads) l.kept
    (thread_kept semaphores events bits l.flags) l.threads l.i)
    × Tells l.homes l.i (λ x. has_home (get_or l.threads x no_thread))
    × Tells l.ticking l.i (λ x. is_ticking (get_or l.threads x no_thread))
    × Keys l.ranks l.i (λ x. rank_of (get_or l.threads x no_thread))
    × Keys l.ticks l.i (λ x. (get_or l.threads x no_thread).ticks)
