-- The words of the laws: what a record becomes, and what a call leaves as it was. None of them is taken from the effects.
use Rattle.std.specs.Prelude.{◌≡◌, true, not, List, ℕ}
use Rattle.base_queue.specs.Lists.{keep, has}
use Rattle.spec_kernel.specs.declared.records.Condition.{Condition}
use Rattle.spec_kernel.specs.declared.records.Condition.TheVariants.{Ready}
use Rattle.spec_kernel.specs.declared.records.Wake.{Wake}
use Rattle.spec_kernel.specs.declared.records.Thread.{Thread}
use Rattle.spec_kernel.specs.declared.records.Semaphore.{Semaphore}
use Rattle.spec_kernel.specs.declared.records.Message.{Message}
use Rattle.spec_kernel.specs.declared.records.Kernel.{Kernel}
use Rattle.spec_kernel.specs.Records.{thread, semaphore, message, flag}

-- ---- threads
-- the record r, ready with no ticks left; the reason and the reply are new
abbrev pub readied : Wake → ℕ → Thread → Thread
readied why reply r =
    record { live = r.live; priority = r.priority; first = r.first; condition = Ready; ticks = 0; wake = why; reply = reply }

-- the record r, stopped with a timeout, with wake reason none and reply 255
abbrev pub stopped : Condition → ℕ → Thread → Thread
stopped condition timeout r =
    record {
      live = r.live;
      priority = r.priority;
      first = r.first;
      condition = condition;
      ticks = timeout;
      wake = Wake.None;
      reply = 255;
    }

-- the record r with another priority
abbrev pub prioritized : ℕ → Thread → Thread
prioritized priority r =
    record {
      live = r.live;
      priority = priority;
      first = r.first;
      condition = r.condition;
      ticks = r.ticks;
      wake = r.wake;
      reply = r.reply;
    }

-- the record r with so many ticks left
abbrev pub ticking : ℕ → Thread → Thread
ticking n r =
    record {
      live = r.live;
      priority = r.priority;
      first = r.first;
      condition = r.condition;
      ticks = n;
      wake = r.wake;
      reply = r.reply;
    }

-- a new thread's record
abbrev pub newborn : ℕ → Thread
newborn priority =
    record { live = true; priority = priority; first = priority; condition = Ready; ticks = 0; wake = Wake.None; reply = 255 }

-- ---- semaphores
-- the record r with another count
abbrev pub counted : ℕ → Semaphore → Semaphore
counted n r = record { live = r.live; count = n; maximum = r.maximum; ticks = r.ticks; period = r.period }

-- the record r with so many ticks left to its next post, and with this period
abbrev pub pulsing : ℕ → ℕ → Semaphore → Semaphore
pulsing ticks period r = record { live = r.live; count = r.count; maximum = r.maximum; ticks = ticks; period = period }

-- ---- messages
-- the record r in other hands: its owner, its last poster and its channel, 0 where it is held
abbrev pub handed : ℕ → ℕ → ℕ → Message → Message
handed owner sender channel r =
    record {
      live = r.live;
      owner = owner;
      sender = sender;
      kind = r.kind;
      size = r.size;
      address = r.address;
      channel = channel;
    }

-- ---- what stays
-- every thread's record, place and place in the time queue
pub record SameThreads (k k' : Kernel) : Type 0 where
  pub records : k'.threads ≡ k.threads
  pub places : k'.places ≡ k.places
  pub time : k'.time ≡ k.time

-- every message's record and place
pub record SameMessages (k k' : Kernel) : Type 0 where
  pub records : k'.messages ≡ k.messages
  pub posted : k'.posted ≡ k.posted

-- events and bits
pub record SameEvents (k k' : Kernel) : Type 0 where
  pub records : k'.events ≡ k.events
  pub bits : k'.bits ≡ k.bits

-- uptime, levels and who runs
pub record SameScheduler (k k' : Kernel) : Type 0 where
  pub uptime : k'.uptime ≡ k.uptime
  pub unscheduled : k'.unscheduled ≡ k.unscheduled
  pub critical : k'.critical ≡ k.critical
  pub runner : k'.runner ≡ k.runner

-- nothing but threads has changed
pub record OnlyThreads (k k' : Kernel) : Type 0 where
  pub semaphores : k'.semaphores ≡ k.semaphores
  pub events : SameEvents k k'
  pub flags : k'.flags ≡ k.flags
  pub messages : SameMessages k k'
  pub scheduler : SameScheduler k k'

-- nothing but messages
pub record OnlyMessages (k k' : Kernel) : Type 0 where
  pub threads : SameThreads k k'
  pub semaphores : k'.semaphores ≡ k.semaphores
  pub events : SameEvents k k'
  pub flags : k'.flags ≡ k.flags
  pub scheduler : SameScheduler k k'

-- nothing but semaphore i
pub record OnlySemaphore (i : ℕ) (k k' : Kernel) : Type 0 where
  pub others : (j : ℕ) → (j ≡ i → ⊥) → semaphore k' j ≡ semaphore k j
  pub threads : SameThreads k k'
  pub events : SameEvents k k'
  pub flags : k'.flags ≡ k.flags
  pub messages : SameMessages k k'
  pub scheduler : SameScheduler k k'

-- nothing but flag i
pub record OnlyFlag (i : ℕ) (k k' : Kernel) : Type 0 where
  pub others : (j : ℕ) → (j ≡ i → ⊥) → flag k' j ≡ flag k j
  pub threads : SameThreads k k'
  pub semaphores : k'.semaphores ≡ k.semaphores
  pub events : SameEvents k k'
  pub messages : SameMessages k k'
  pub scheduler : SameScheduler k k'

-- every other thread has the record that it had
abbrev pub OtherThreads : ℕ → Kernel → Kernel → Type 0
OtherThreads t k k' = (u : ℕ) → (u ≡ t → ⊥) → thread k' u ≡ thread k u

-- every other message likewise
abbrev pub OtherMessages : ℕ → Kernel → Kernel → Type 0
OtherMessages m k k' = (n : ℕ) → (n ≡ m → ⊥) → message k' n ≡ message k n

-- the members of m that are not in l, in their order
abbrev pub without_all : List ℕ → List ℕ → List ℕ
without_all l m = keep (λ t. not (has t l)) m
