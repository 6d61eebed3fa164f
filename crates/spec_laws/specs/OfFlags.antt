-- Device flags: made and unmade, pended and posted [02 §1].
use Rattle.std.specs.Prelude.{ℕ, ◌≤◌, ◌<◌, ◌≡◌, Bool, true, false, [], ◌++◌, eqb}
use Rattle.base_queue.specs.Lists.{keep, count}
use Rattle.spec_kernel.specs.declared.records.Condition.TheVariants.{ForFlag}
use Rattle.spec_kernel.specs.declared.records.Wake.{Wake}
use Rattle.spec_kernel.specs.declared.records.Kernel.{Kernel}
use Rattle.spec_kernel.specs.Sizes.{flag_count}
use Rattle.spec_kernel.specs.Records.{thread, flag}
use Rattle.spec_kernel.specs.Conditions.{of_flags}
use Rattle.spec_kernel.specs.Places.{home, at_home, ready_list, flag_queue, time_queue}
use Rattle.spec_laws.specs.Words.{readied, without_all, OnlyFlag, OnlyThreads}
use Rattle.spec_laws.specs.OfThreads.{Blocked}
use Rattle.spec_laws.specs.OfRegions.{Levels}

-- Flag i is live in k', or isn't, and nothing else changed.
pub record MadeFlag (i : ℕ) (live : Bool) (k k' : Kernel) : Type 0 where
  pub made : flag k' i ≡ live
  pub only : OnlyFlag i k k'

-- kind 31: it has the lowest free id, of sixteen [01, modelled 5; 02 §1].
pub record CreatedFlag (i : ℕ) (k k' : Kernel) : Type 0 where
  pub inside : i < flag_count
  pub free : flag k i ≡ false
  pub lowest : (j : ℕ) → j < i → flag k j ≡ true
  pub made : MadeFlag i true k k'

-- kind 33: "takes that level off and always blocks": the caller stops where both levels are 0 [02 §1].
pub record PendedFlag (i timeout : ℕ) (k k' : Kernel) : Type 0 where
  -- the state once the region has ended
  pub out : Kernel
  pub ends : Levels 0 0 k out
  pub blocks : Blocked (ForFlag i) timeout (home of_flags i) k.runner out k'

-- kind 34: all that wait for flag i wake, in queue order, and nobody else does [02 §1].
pub record PostedFlag (i : ℕ) (k k' : Kernel) : Type 0 where
  -- nobody waits for it, and every other queue is as it was
  pub nobody : flag_queue k' i ≡ []
  pub queues : (h : ℕ) → 256 ≤ h → (h ≡ home of_flags i → ⊥) → at_home k' h ≡ at_home k h
  -- each ready list gets the waiters of its priority, in queue order
  pub lists : (p : ℕ) → p < 256 → ready_list k' p ≡ ready_list k p ++ keep (λ t. eqb (thread k t).priority p) (flag_queue k i)
  -- they leave the time queue, where the others keep their order
  pub time : time_queue k' ≡ without_all (flag_queue k i) (time_queue k)
  -- each is awake, as met, and nobody else's record changes
  pub woken : (t : ℕ) → 0 < count t (flag_queue k i) → thread k' t ≡ readied Wake.Met (thread k t).reply (thread k t)
  pub others : (t : ℕ) → count t (flag_queue k i) ≡ 0 → thread k' t ≡ thread k t
  pub only : OnlyThreads k k'
