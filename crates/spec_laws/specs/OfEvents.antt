-- Events and event bits: loaded, pended, set and cleared, and worked out.
use Rattle.std.specs.Prelude.{ℕ, zero, suc, ◌<◌, ◌≡◌, Bool, true, false, cond, List, [], ◌++◌, eqb}
use Rattle.base_bits.specs.Words.{bit_at}
use Rattle.base_queue.specs.Lists.{keep, count}
use Rattle.spec_kernel.specs.declared.records.Condition.TheVariants.{ForEvent}
use Rattle.spec_kernel.specs.declared.records.Wake.{Wake}
use Rattle.spec_kernel.specs.declared.records.Kernel.{Kernel}
use Rattle.spec_kernel.specs.Sizes.{semaphore_count, event_count, flag_count}
use Rattle.spec_kernel.specs.Records.{thread, event}
use Rattle.spec_kernel.specs.Conditions.{of_events}
use Rattle.spec_kernel.specs.Places.{home, ready_list, semaphore_queue, event_queue, flag_queue, time_queue}
use Rattle.spec_kernel.specs.Truth.{is_true}
use Rattle.spec_laws.specs.Words.{readied, SameMessages, SameScheduler, without_all}
use Rattle.spec_laws.specs.OfThreads.{Blocked}

-- event i is TRUE
abbrev pub is_met : Kernel → ℕ → Bool
is_met k i = is_true k.bits (event k i)

-- the waiters of those of n events from i on that are TRUE: in id order, and of each in queue order
unfoldable pub waiters_from : (ℕ → Bool) → (ℕ → List ℕ) → ℕ → ℕ → List ℕ
waiters_from met queue i zero = []
waiters_from met queue i (suc n) = cond (met i) (queue i) [] ++ waiters_from met queue (suc i) n

-- who wakes between k and k': the waiters of k of the events that are TRUE in k'
abbrev pub waiters : Kernel → Kernel → List ℕ
waiters k k' = waiters_from (is_met k') (event_queue k) 0 event_count

-- The events of k' are worked out, the lowest id first: all that waited for a TRUE one wake, as they stood [01, calls: Event 5].
pub record WorkedOut (k k' : Kernel) : Type 0 where
  -- nobody waits for a TRUE event
  pub nobody : (i : ℕ) → i < event_count → is_met k' i ≡ true → event_queue k' i ≡ []
  -- the queues of the other events, of semaphores and of flags are as they were
  pub events : (i : ℕ) → i < event_count → is_met k' i ≡ false → event_queue k' i ≡ event_queue k i
  pub semaphores : (i : ℕ) → i < semaphore_count → semaphore_queue k' i ≡ semaphore_queue k i
  pub flags : (i : ℕ) → i < flag_count → flag_queue k' i ≡ flag_queue k i
  -- each ready list gets the waiters of its priority, in id order of their events, and of each event in queue order
  pub lists : (p : ℕ) → p < 256 → ready_list k' p ≡ ready_list k p ++ keep (λ t. eqb (thread k t).priority p) (waiters k k')
  -- they leave the time queue, where the others keep their order
  pub time : time_queue k' ≡ without_all (waiters k k') (time_queue k)
  -- who stood in the queue of a TRUE event is awake, as met
  pub woken : (t i : ℕ) → i < event_count → is_met k' i ≡ true → 0 < count t (event_queue k i)
      → thread k' t ≡ readied Wake.Met (thread k t).reply (thread k t)
  -- and nobody else's record changes
  pub others : (t : ℕ) → ((i : ℕ) → i < event_count → is_met k' i ≡ true → count t (event_queue k i) ≡ 0) → thread k' t ≡ thread k t
  -- nothing else but events and bits does
  pub counts : k'.semaphores ≡ k.semaphores
  pub live : k'.flags ≡ k.flags
  pub messages : SameMessages k k'
  pub scheduler : SameScheduler k k'

-- kind 20: event a has this mode, mask and values; then all events are worked out.
pub record LoadedEvent (a : ℕ) (any : Bool) (mask values : ℕ) (k k' : Kernel) : Type 0 where
  pub itself : event k' a ≡ record { any = any; mask = mask; values = values }
  pub others : (i : ℕ) → (i ≡ a → ⊥) → event k' i ≡ event k i
  pub bits : k'.bits ≡ k.bits
  pub worked : WorkedOut k k'

-- kind 21: nothing changes if the event is TRUE, else the caller waits [01, calls: Event 4].
pub record PendedEvent (a timeout : ℕ) (k k' : Kernel) : Type 0 where
  pub passes : is_met k a ≡ true → k' ≡ k
  pub blocks : is_met k a ≡ false → Blocked (ForEvent a) timeout (home of_events a) k.runner k k'

-- kinds 22 and 29, 23 and 30: bit a is on, or off; then all events are worked out.
pub record BitIs (a : ℕ) (on : Bool) (k k' : Kernel) : Type 0 where
  pub bit : bit_at k'.bits a ≡ on
  pub others : (i : ℕ) → (a ≡ i → ⊥) → bit_at k'.bits i ≡ bit_at k.bits i
  pub events : k'.events ≡ k.events
  pub worked : WorkedOut k k'
