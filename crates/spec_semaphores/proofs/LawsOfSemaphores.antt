-- Semaphores: made and unmade, pended and posted, as spec_laws says it.
use mathlib.Core.Path.{◌≡◌, refl, ◌∙◌}
use mathlib.Core.Bool.{true}
use mathlib.Core.List.{List, [], ◌∷◌}
use Prim.Native.Nat.{ℕ, ◌-◌, ◌<◌}
use native.Mathlib.Nat.{mod-eq_of_lt}
use native.Mathlib.Omega.{arith}
use lib.ListN.{length}
use lib.Seq.{get_or-set_same, get_or-set_other}
use borrow.Author.Tests.{lt-ltb, le-ltb}
use Rattle.base_queue.specs.Lists.{count}
use Rattle.base_queue.proofs.Counts.{count_head}
use Rattle.spec_kernel.specs.declared.records.Condition.TheVariants.{ForSemaphore}
use Rattle.spec_kernel.specs.declared.records.Wake.{Wake}
use Rattle.spec_kernel.specs.declared.records.Semaphore.{Semaphore}
use Rattle.spec_kernel.specs.declared.records.Kernel.{Kernel}
use Rattle.spec_kernel.specs.Records.{thread, semaphore, no_semaphore}
use Rattle.spec_kernel.specs.Free.{free_semaphore}
use Rattle.spec_kernel.specs.Conditions.{of_semaphores}
use Rattle.spec_kernel.specs.Places.{home, semaphore_queue}
use Rattle.spec_moves.specs.Standing.{threads_of, Standing}
use Rattle.spec_calls.specs.declared.call.Call.{Call}
use Rattle.spec_moves.specs.States.{with_semaphore}
use Rattle.spec_threads.specs.Threads.{wake}
use Rattle.spec_laws.specs.Words.{counted, pulsing}
use Rattle.spec_threads.proofs.LawsOfHomes.{Runnable}
use Rattle.spec_laws.specs.OfThreads.{Woken}
use Rattle.spec_laws.specs.OfSemaphores.{MadeSemaphore, PendedSemaphore, WokenBySemaphore, PostedSemaphore}
use Rattle.spec_threads.proofs.LawsOfLists.{without_first}
use Rattle.spec_threads.proofs.LawsOfHomes.{line_once, line_stopped}
use Rattle.spec_threads.proofs.LawsOfWaking.{wake_wakes, wake_only}
use Rattle.spec_threads.proofs.LawsOfBlocking.{block_blocks}
use Rattle.spec_semaphores.specs.Semaphores.{create_semaphore, destroy_semaphore, make_periodic, remove_periodic}
use Rattle.spec_semaphores.specs.Semaphores.{raised, post, pend_semaphore}

-- a semaphore gets a record, and nothing else changes
pub make_semaphore : (k : Kernel) (i : ℕ) (r : Semaphore) → i < length k.semaphores → MadeSemaphore i r k (with_semaphore i r k)
make_semaphore k i r b = record {
  made = get_or-set_same k.semaphores i r no_semaphore b;
  only = record {
    others = λ j ne. get_or-set_other k.semaphores i j r no_semaphore ne;
    threads = record { records = refl; places = refl; time = refl };
    events = record { records = refl; bits = refl };
    flags = refl;
    messages = record { records = refl; posted = refl };
    scheduler = record { uptime = refl; unscheduled = refl; critical = refl; runner = refl };
  };
}

-- ---- kinds 14 to 17: the one record
module _ (k : Kernel) (c : Call) where
  -- the new one has the count and maximum that the call says, and all else new
  pub create_makes : free_semaphore k < length k.semaphores → c.c < 65536
      → MadeSemaphore (free_semaphore k) (record { live = true; count = c.b; maximum = c.c; ticks = 0; period = 0 }) k
      (create_semaphore k c)
  unfolding create_semaphore
  create_makes b h = rw (mod-eq_of_lt h) (make_semaphore k (free_semaphore k) _ b)

  module _ (b : c.a < length k.semaphores) where
    pub destroy_clears : MadeSemaphore c.a no_semaphore k (destroy_semaphore k c)
    unfolding destroy_semaphore
    destroy_clears = make_semaphore k c.a no_semaphore b

    -- The delay and the period given take the place of those that it has, if any [01, calls: Periodic 1].
    pub make_replaces : MadeSemaphore c.a (pulsing c.c c.d (semaphore k c.a)) k (make_periodic k c)
    unfolding make_periodic
    make_replaces = make_semaphore k c.a (pulsing c.c c.d (semaphore k c.a)) b

    pub remove_clears : MadeSemaphore c.a (pulsing 0 0 (semaphore k c.a)) k (remove_periodic k c)
    unfolding remove_periodic
    remove_clears = make_semaphore k c.a (pulsing 0 0 (semaphore k c.a)) b

-- ---- post
module _ (k : Kernel) (i : ℕ) (S : Standing (threads_of k)) (bytes : (t : ℕ) → (thread k t).priority < 256)
    (b : i < length k.semaphores) where
  -- whoever waits first wakes, the others wait on, and the count stays
  post_wakes : (t : ℕ) (l : List ℕ) → semaphore_queue k i ≡ t ∷ l → WokenBySemaphore i t l k (post i k)
  unfolding post
  post_wakes t l waits =
      let there : 0 < count t (semaphore_queue k i) = rw waits (count_head t l) in
      let W : Woken Wake.Met (thread k t).reply t k (wake Wake.Met t k) =
      wake_wakes k S t (line_stopped S t (bytes t) (omega arith) there) Wake.Met in
      rw waits
      (record {
        woken = W;
        queue =
            W.queues (home of_semaphores i) (λ z. omega (arith, bytes t))
            ∙ rw waits (without_first t l (rw waits at (line_once S t (home of_semaphores i))));
        only = wake_only Wake.Met t k;
      })

  -- with nobody waiting the one record is raised
  post_raises : semaphore_queue k i ≡ [] → MadeSemaphore i (raised (semaphore k i)) k (post i k)
  unfolding post
  post_raises none = rw none (make_semaphore k i (raised (semaphore k i)) b)

  pub post_posts : PostedSemaphore i k (post i k)
  post_posts = record {
    wakes = post_wakes;
    counts = λ none h. rw (lt-ltb (semaphore k i).count (semaphore k i).maximum h) at (post_raises none);
    full = λ none h. rw (le-ltb (semaphore k i).count (semaphore k i).maximum h) at (post_raises none);
  }

-- ---- pend
pub pend_pends : (k : Kernel) (c : Call) → Standing (threads_of k) → Runnable (thread k k.runner) → c.a < length k.semaphores
    → PendedSemaphore c.a c.c k (pend_semaphore k c)
unfolding pend_semaphore
pend_pends k c S R b = record {
  takes = λ some.
      rw (lt-ltb 0 (semaphore k c.a).count some)
      (make_semaphore k c.a (counted ((semaphore k c.a).count - 1) (semaphore k c.a)) b);
  blocks = λ none. rw none (block_blocks k S R (ForSemaphore c.a) c.c refl (omega arith));
}
