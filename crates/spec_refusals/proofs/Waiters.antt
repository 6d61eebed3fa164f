-- Refusal 10 in document 01's words: threads wait on the semaphore; and in document 02's: on the flag.
use Prim.Native.Nat.{◌<◌}
use mathlib.Core.Path.{◌≡◌}
use mathlib.Core.Bool.{not, ◌&&◌, ◌||◌, or-false}
use native.Mathlib.Omega.{arith}
use lib.ListN.{length}
use borrow.Author.Tests.{eqb-true}
use borrow.Table.Steps.{cases}
use Rattle.base_queue.specs.Lists.{is_empty}
use Rattle.base_queue.specs.Queues.{items}
use Rattle.spec_kernel.specs.declared.records.Kernel.{Kernel}
use Rattle.spec_kernel.specs.Sizes.{thread_count}
use Rattle.spec_kernel.specs.Conditions.{of_semaphores, of_flags}
use Rattle.spec_kernel.specs.Places.{home, nowhere, semaphore_queue, flag_queue}
use Rattle.spec_moves.proofs.Firsts.{line_empty}
use Rattle.spec_calls.specs.declared.call.Call.{Call}
use Rattle.spec_calls.specs.Kinds.{kind_of}
use Rattle.spec_refusals.specs.Named.{waiter_by, named}
use Rattle.spec_refusals.specs.Refusals.{is, has_waiters}

-- the semaphore or flag to destroy has a queue that isn't empty [01, table: number 10; 02 §1]
pub has_waiters_lem : (k : Kernel) (c : Call) → length k.threads ≡ thread_count → c.a < 256
    → has_waiters (named k c) c ≡ ((is c 15 && not (is_empty (semaphore_queue k c.a))) || (is c 32 && not (is_empty (flag_queue k c.a))))
unfolding has_waiters named waiter_by kind_of
has_waiters_lem k c all byte =
    let b : home of_semaphores c.a < nowhere = omega arith in
    let b' : home of_flags c.a < nowhere = omega arith in
    cases (is c 15) (λ e. rw (eqb-true c.kind 15 e, line_empty k.threads all (items k.places) b, or-false))
    (λ e. cases (is c 32) (λ f. rw (eqb-true c.kind 32 f, line_empty k.threads all (items k.places) b')) (λ f. rw (e, f)))
