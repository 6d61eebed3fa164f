-- What a record's rules ask of other records, told without the tables: two sets and the live flags for a thread, its owner for a message.
-- Assumes nothing.
use Rattle.std.specs.Prelude.{ℕ, ◌<◌, ◌≡◌, Bool, not, cond, ◌&&◌, ◌||◌, List, [], ◌∷◌, eqb, ltb, leb, length, get_or}
use Rattle.base_bits.specs.Words.{has_bit}
use Rattle.spec_kernel.specs.declared.records.Condition.{Condition}
use Rattle.spec_kernel.specs.declared.records.Condition.TheVariants.{Ready, Asleep, ForSemaphore, ForEvent, ForMessage, ForFlag}
use Rattle.spec_kernel.specs.declared.records.Thread.{Thread}
use Rattle.spec_kernel.specs.declared.records.Semaphore.{Semaphore}
use Rattle.spec_kernel.specs.declared.records.Event.{Event}
use Rattle.spec_kernel.specs.declared.records.Message.{Message}
use Rattle.spec_kernel.specs.Records.{no_thread, flag_in}
use Rattle.spec_kernel.specs.Sizes.{thread_count, message_count, priority_count, channel_count}
use Rattle.spec_kernel.specs.Conditions.{awaits}
use Rattle.spec_rules.specs.Tests.{all_of, is_no_thread, is_no_message, semaphore_waited, event_waited}

-- ---- the rules of a thread, by the sets of semaphores and events that may have waiters, and the live flags
unfoldable pub condition_by : ℕ → ℕ → ℕ → ℕ → Condition → Bool
condition_by waited untrue flags ticks Ready = eqb ticks 0
condition_by waited untrue flags ticks Asleep = ltb 0 ticks
condition_by waited untrue flags ticks (ForSemaphore i) = has_bit waited i
condition_by waited untrue flags ticks (ForEvent i) = has_bit untrue i
condition_by waited untrue flags ticks (ForMessage mask) = ltb 0 mask && leb mask 32767
condition_by waited untrue flags ticks (ForFlag i) = flag_in flags i

unfoldable pub live_thread_by : ℕ → ℕ → ℕ → Thread → Bool
live_thread_by waited untrue flags r =
    all_of
    (ltb 0 r.priority
    ∷ leb r.priority priority_count
    ∷ ltb 0 r.first
    ∷ leb r.first priority_count
    ∷ (ltb r.reply message_count || eqb r.reply 255)
    ∷ condition_by waited untrue flags r.ticks r.condition
    ∷ [])

unfoldable pub thread_by : ℕ → ℕ → ℕ → Thread → Bool
thread_by waited untrue flags r = cond r.live (live_thread_by waited untrue flags r) (is_no_thread r)

-- ---- those of a message, by its owner's record
unfoldable pub live_message_by : Thread → Message → Bool
live_message_by owner r =
    all_of
    (ltb r.owner thread_count
    ∷ owner.live
    ∷ ltb r.sender thread_count
    ∷ leb r.channel channel_count
    ∷ not (awaits owner.condition r.channel)
    ∷ [])

unfoldable pub message_by : Thread → Message → Bool
message_by owner r = cond r.live (live_message_by owner r) (is_no_message r)

-- ---- what the sets and the owner are
-- the sets have the semaphores and the events that may have waiters
pub record Objects (waited untrue : ℕ) (semaphores : List Semaphore) (events : List Event) (bits : ℕ) : Type 0 where
  pub semaphore : (i : ℕ) → has_bit waited i ≡ semaphore_waited semaphores i
  pub event : (i : ℕ) → has_bit untrue i ≡ event_waited events bits i

-- b is the test, for all objects that the sets tell of
abbrev pub ByObjects : ℕ → ℕ → Bool → (List Semaphore → List Event → ℕ → Bool) → Type 0
ByObjects waited untrue b test =
    (semaphores : List Semaphore) (events : List Event) (bits : ℕ) → Objects waited untrue semaphores events bits
    → b ≡ test semaphores events bits

-- the record is that of the message's owner, if there is such a thread
pub record Owner (threads : List Thread) (owner : Thread) (r : Message) : Type 0 where
  pub full : length threads ≡ thread_count
  pub there : r.owner < thread_count → owner ≡ get_or threads r.owner no_thread
