-- Where threads and messages stand: every list, queue and channel of document 01 by its own name.
-- They are stored in three tables. `places` has the ready lists by priority, then the queues of semaphores, of events and of flags;
-- `posted` has the channels by owner, then by number; `time` is the time queue. A list is the run of a table that has its home.
use Rattle.std.specs.Prelude.{ℕ, ◌+◌, ◌*◌, Bool, not, cond, ◌&&◌, List, eqb, ltb}
use Rattle.base_queue.specs.Lists.{keep}
use Rattle.base_queue.specs.Queues.{items}
use Rattle.spec_kernel.specs.declared.records.Condition.{Condition}
use Rattle.spec_kernel.specs.declared.records.Condition.TheVariants.{Ready, Asleep, ForSemaphore, ForEvent, ForMessage, ForFlag}
use Rattle.spec_kernel.specs.declared.records.Thread.{Thread}
use Rattle.spec_kernel.specs.declared.records.Message.{Message}
use Rattle.spec_kernel.specs.declared.records.Kernel.{Kernel}
use Rattle.spec_kernel.specs.Records.{thread, message}
use Rattle.spec_kernel.specs.Conditions.{Class, of_semaphores, of_events, of_flags}

-- A home is a class and an id in it: the ready lists by priority, the queues of semaphores, of events and of flags; and none.
abbrev pub ready_home : ℕ → ℕ
ready_home p = p

abbrev pub class_number : Class → ℕ
class_number of_semaphores = 1
class_number of_events = 2
class_number of_flags = 3

abbrev pub home : Class → ℕ → ℕ
home class i = class_number class * 256 + i

abbrev pub nowhere : ℕ
nowhere = 4 * 256

abbrev pub home_for : Condition → ℕ → ℕ
home_for Ready priority = ready_home priority
home_for Asleep priority = nowhere
home_for (ForSemaphore i) priority = home of_semaphores i
home_for (ForEvent i) priority = home of_events i
home_for (ForMessage mask) priority = nowhere
home_for (ForFlag i) priority = home of_flags i

-- Where a thread stands: in its priority's list, in the queue of the semaphore, event or flag it waits for, or nowhere [01, state 1.2,
-- 1.3; 02 §1].
unfoldable pub home_of : Thread → ℕ
home_of r = cond r.live (home_for r.condition r.priority) nowhere

abbrev pub has_home : Thread → Bool
has_home r = not (eqb (home_of r) nowhere)

-- the order of `places`: by home, and within a queue by priority
unfoldable pub rank_of : Thread → ℕ
rank_of r = home_of r * 256 + r.priority

-- the threads whose home is h, in their order
abbrev pub at_home : Kernel → ℕ → List ℕ
at_home k h = keep (λ t. eqb (home_of (thread k t)) h) (items k.places)

-- a priority's ready list
abbrev pub ready_list : Kernel → ℕ → List ℕ
ready_list k priority = at_home k (ready_home priority)

-- an object's queue: a semaphore's, an event's, a flag's
abbrev pub queue_of : Class → Kernel → ℕ → List ℕ
queue_of class k i = at_home k (home class i)

abbrev pub semaphore_queue : Kernel → ℕ → List ℕ
semaphore_queue = queue_of of_semaphores

abbrev pub event_queue : Kernel → ℕ → List ℕ
event_queue = queue_of of_events

abbrev pub flag_queue : Kernel → ℕ → List ℕ
flag_queue = queue_of of_flags

-- the time queue
abbrev pub time_queue : Kernel → List ℕ
time_queue k = items k.time

-- a message that stands in a channel of its owner; else the owner holds it
abbrev pub is_queued : Message → Bool
is_queued r = r.live && ltb 0 r.channel

-- the order of `posted`: by owner, then by channel
unfoldable pub stream_of : Message → ℕ
stream_of r = r.owner * 256 + r.channel

abbrev pub on_channel : ℕ → ℕ → Message → Bool
on_channel t c r = eqb r.owner t && eqb r.channel c

-- a thread's channel, oldest first
abbrev pub channel : Kernel → ℕ → ℕ → List ℕ
channel k t c = keep (λ m. on_channel t c (message k m)) (items k.posted)
