-- Semaphores: create, destroy, periodic, pend and post.
use Rattle.std.specs.Prelude.{ℕ, ◌+◌, ◌-◌, true, cond, List, [], ◌∷◌, ltb}
use Rattle.spec_kernel.specs.declared.records.Condition.TheVariants.{ForSemaphore}
use Rattle.spec_kernel.specs.declared.records.Wake.{Wake}
use Rattle.spec_kernel.specs.declared.records.Semaphore.{Semaphore}
use Rattle.spec_kernel.specs.declared.records.Kernel.{Kernel}
use Rattle.spec_kernel.specs.Records.{semaphore, no_semaphore}
use Rattle.spec_kernel.specs.Places.{semaphore_queue}
use Rattle.spec_kernel.specs.Free.{free_semaphore}
use Rattle.spec_calls.specs.declared.call.Call.{Call}
use Rattle.spec_moves.specs.States.{with_semaphore, as_word}
use Rattle.spec_threads.specs.Threads.{block, wake}

abbrev pub with_count : ℕ → Semaphore → Semaphore
with_count n r = record { live = r.live; count = n; maximum = r.maximum; ticks = r.ticks; period = r.period }

abbrev pub with_ticks : ℕ → ℕ → Semaphore → Semaphore
with_ticks ticks period r = record { live = r.live; count = r.count; maximum = r.maximum; ticks = ticks; period = period }

-- kind 14: create semaphore, count b, maximum c
unfoldable pub create_semaphore : Kernel → Call → Kernel
create_semaphore k c =
    with_semaphore (free_semaphore k) (record { live = true; count = c.b; maximum = as_word c.c; ticks = 0; period = 0 }) k

-- kind 15: destroy semaphore a
unfoldable pub destroy_semaphore : Kernel → Call → Kernel
destroy_semaphore k c = with_semaphore c.a no_semaphore k

-- kind 16: delay c and period d take the place of those that the semaphore has, if any [01, calls: Periodic 1].
unfoldable pub make_periodic : Kernel → Call → Kernel
make_periodic k c = with_semaphore c.a (with_ticks c.c c.d (semaphore k c.a)) k

-- kind 17: remove periodic a
unfoldable pub remove_periodic : Kernel → Call → Kernel
remove_periodic k c = with_semaphore c.a (with_ticks 0 0 (semaphore k c.a)) k

-- kind 18: the count goes down by one, or the caller blocks where it is 0 [01, calls: Semaphore 1].
unfoldable pub pend_semaphore : Kernel → Call → Kernel
pend_semaphore k c =
    cond (ltb 0 (semaphore k c.a).count)
    (with_semaphore c.a (with_count ((semaphore k c.a).count - 1) (semaphore k c.a)) k)
    (block (ForSemaphore c.a) c.c k)

-- One more, but not past the maximum: there the count stays [01, calls: Semaphore 2].
abbrev pub raised : Semaphore → Semaphore
raised r = with_count (cond (ltb r.count r.maximum) (r.count + 1) r.count) r

abbrev pub post_to : List ℕ → ℕ → Kernel → Kernel
post_to [] i k = with_semaphore i (raised (semaphore k i)) k
post_to (t ∷ l) i k = wake Wake.Met t k

-- Whoever waits first wakes and the count stays; with nobody waiting the count goes up, but not past the maximum [01, calls: Semaphore 2].
unfoldable pub post : ℕ → Kernel → Kernel
post i k = post_to (semaphore_queue k i) i k

-- kinds 19 and 28: post semaphore a
unfoldable pub post_semaphore : Kernel → Call → Kernel
post_semaphore k c = post c.a k
