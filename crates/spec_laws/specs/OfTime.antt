-- The tick: uptime, the threads' time, then the periodic semaphores, the lowest id first.
use Rattle.std.specs.Prelude.{ℕ, suc, ◌+◌, ◌-◌, ◌≤◌, ◌<◌, ◌≡◌, Bool, not, ◌++◌, eqb}
use Rattle.base_queue.specs.Lists.{keep}
use Rattle.spec_kernel.specs.declared.records.Condition.{Condition}
use Rattle.spec_kernel.specs.declared.records.Condition.TheVariants.{Ready, Asleep, ForSemaphore, ForEvent, ForMessage, ForFlag}
use Rattle.spec_kernel.specs.declared.records.Object.{Object}
use Rattle.spec_kernel.specs.declared.records.Wake.{Wake}
use Rattle.spec_kernel.specs.declared.records.Kernel.{Kernel}
use Rattle.spec_kernel.specs.Sizes.{semaphore_count}
use Rattle.spec_kernel.specs.Records.{thread, semaphore}
use Rattle.spec_kernel.specs.Places.{at_home, ready_list, time_queue}
use Rattle.spec_laws.specs.Words.{readied, ticking, pulsing, SameEvents, SameMessages}
use Rattle.spec_laws.specs.OfSemaphores.{MadeSemaphore, PostedSemaphore}

-- the last tick of thread t is this one
abbrev pub is_due : Kernel → ℕ → Bool
is_due k t = eqb (thread k t).ticks 1

-- The reason of one whose time is up: met for a sleeper, timed out for a waiter, with its object kind [01, calls: Tick 2].
abbrev pub timeout_of : Condition → Wake
timeout_of Ready = Wake.Met
timeout_of Asleep = Wake.Met
timeout_of (ForSemaphore i) = Wake.TimedOut Object.Semaphore
timeout_of (ForEvent i) = Wake.TimedOut Object.Event
timeout_of (ForMessage mask) = Wake.TimedOut Object.Message
timeout_of (ForFlag i) = Wake.TimedOut Object.Flag

-- A tick of k has passed for the threads of k' [01, calls: Tick 2].
pub record TimePassed (k k' : Kernel) : Type 0 where
  -- who has more than one tick left loses one, and nothing else of it changes
  pub counts : (t : ℕ) → 1 < (thread k t).ticks → thread k' t ≡ ticking ((thread k t).ticks - 1) (thread k t)
  -- who had one left wakes
  pub wakes : (t : ℕ) → (thread k t).ticks ≡ 1 → thread k' t ≡ readied (timeout_of (thread k t).condition) (thread k t).reply (thread k t)
  -- nobody else's record changes
  pub others : (t : ℕ) → (thread k t).ticks ≡ 0 → thread k' t ≡ thread k t
  -- in time queue order: each ready list gets those of its priority
  pub lists : (p : ℕ) → p < 256 → ready_list k' p ≡ ready_list k p ++ keep (λ t. eqb (thread k t).priority p) (keep (is_due k) (time_queue k))
  -- they are out of every queue and out of the time queue, and the others keep their order there
  pub queues : (h : ℕ) → 256 ≤ h → at_home k' h ≡ keep (λ t. not (is_due k t)) (at_home k h)
  pub time : time_queue k' ≡ keep (λ t. not (is_due k t)) (time_queue k)

-- The turn of semaphore i between k and k' [01, calls: Tick 3].
pub record Pulsed (i : ℕ) (k k' : Kernel) : Type 0 where
  -- one that isn't periodic does nothing
  pub rests : (semaphore k i).period ≡ 0 → k' ≡ k
  -- with more than one tick left it loses one, and nothing else changes
  pub counts : 0 < (semaphore k i).period → 1 < (semaphore k i).ticks
      → MadeSemaphore i (pulsing ((semaphore k i).ticks - 1) (semaphore k i).period (semaphore k i)) k k'
  -- with one left it is posted, and its ticks left are its period
  pub posts : 0 < (semaphore k i).period → (semaphore k i).ticks ≡ 1
      → (posted : Kernel) × PostedSemaphore i k posted
      × MadeSemaphore i (pulsing (semaphore k i).period (semaphore k i).period (semaphore posted i)) posted k'

-- kind 1: from k to k'. `turn i` is the state when it is semaphore i's turn; at `turn 0` the time has passed for the threads.
pub record Ticked (k k' : Kernel) : Type 0 where
  -- One tick more of uptime; after 4,294,967,295 comes 0 [01, calls: Tick 1].
  pub uptime : k.uptime < 4294967295 → k'.uptime ≡ k.uptime + 1
  pub wraps : k.uptime ≡ 4294967295 → k'.uptime ≡ 0
  pub turn : ℕ → Kernel
  pub threads : TimePassed k (turn 0)
  pub unposted : (turn 0).semaphores ≡ k.semaphores
  pub semaphores : (i : ℕ) → i < semaphore_count → Pulsed i (turn i) (turn (suc i))
  pub ends : k' ≡ turn semaphore_count
  -- nothing else changes
  pub events : SameEvents k k'
  pub flags : k'.flags ≡ k.flags
  pub messages : SameMessages k k'
  pub unscheduled : k'.unscheduled ≡ k.unscheduled
  pub critical : k'.critical ≡ k.critical
  pub runner : k'.runner ≡ k.runner
