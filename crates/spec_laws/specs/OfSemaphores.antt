-- Semaphores: made and unmade, pended and posted.
use Rattle.std.specs.Prelude.{ℕ, ◌+◌, ◌-◌, ◌≤◌, ◌<◌, ◌≡◌, true, false, List, [], ◌∷◌}
use Rattle.spec_kernel.specs.declared.records.Condition.TheVariants.{ForSemaphore}
use Rattle.spec_kernel.specs.declared.records.Wake.{Wake}
use Rattle.spec_kernel.specs.declared.records.Semaphore.{Semaphore}
use Rattle.spec_kernel.specs.declared.records.Kernel.{Kernel}
use Rattle.spec_kernel.specs.Records.{thread, semaphore}
use Rattle.spec_kernel.specs.Conditions.{of_semaphores}
use Rattle.spec_kernel.specs.Places.{home, semaphore_queue}
use Rattle.spec_laws.specs.Words.{counted, OnlySemaphore, OnlyThreads}
use Rattle.spec_laws.specs.OfThreads.{Woken, Blocked}

-- Semaphore i has this record in k', and nothing else changed.
pub record MadeSemaphore (i : ℕ) (r : Semaphore) (k k' : Kernel) : Type 0 where
  pub made : semaphore k' i ≡ r
  pub only : OnlySemaphore i k k'

-- kind 14: it has the lowest free id, the count and the maximum that the call says, and isn't periodic [01, modelled 5].
pub record CreatedSemaphore (count maximum i : ℕ) (k k' : Kernel) : Type 0 where
  pub free : (semaphore k i).live ≡ false
  pub lowest : (j : ℕ) → j < i → (semaphore k j).live ≡ true
  pub made : MadeSemaphore i (record { live = true; count = count; maximum = maximum; ticks = 0; period = 0 }) k k'

-- kind 18: the count goes down by one, or, where it is 0, the caller waits [01, calls: Semaphore 1].
pub record PendedSemaphore (i timeout : ℕ) (k k' : Kernel) : Type 0 where
  pub takes : 0 < (semaphore k i).count → MadeSemaphore i (counted ((semaphore k i).count - 1) (semaphore k i)) k k'
  pub blocks : (semaphore k i).count ≡ 0 → Blocked (ForSemaphore i) timeout (home of_semaphores i) k.runner k k'

-- The first waiter t wakes, as met, and l wait on; no count changes.
pub record WokenBySemaphore (i t : ℕ) (l : List ℕ) (k k' : Kernel) : Type 0 where
  pub woken : Woken Wake.Met (thread k t).reply t k k'
  pub queue : semaphore_queue k' i ≡ l
  pub only : OnlyThreads k k'

-- kinds 19 and 28: whoever waits first wakes; with nobody waiting the count goes up, but not past the maximum [01, calls: Semaphore 2].
pub record PostedSemaphore (i : ℕ) (k k' : Kernel) : Type 0 where
  pub wakes : (t : ℕ) (l : List ℕ) → semaphore_queue k i ≡ t ∷ l → WokenBySemaphore i t l k k'
  pub counts : semaphore_queue k i ≡ [] → (semaphore k i).count < (semaphore k i).maximum
      → MadeSemaphore i (counted ((semaphore k i).count + 1) (semaphore k i)) k k'
  pub full : semaphore_queue k i ≡ [] → (semaphore k i).maximum ≤ (semaphore k i).count → MadeSemaphore i (semaphore k i) k k'
