-- A record as a row of eight numbers, and a row as a record.
use Rattle.std.specs.Prelude.{ℕ, ◌+◌, ◌%◌, Bool, cond, not, List, [], ◌∷◌, eqb, get_or}
use Rattle.base_queue.specs.Tables.{one}
use Rattle.spec_kernel.specs.declared.records.Condition.{Condition}
use Rattle.spec_kernel.specs.declared.records.Condition.TheVariants.{Ready, Asleep, ForSemaphore, ForEvent, ForMessage, ForFlag}
use Rattle.spec_kernel.specs.declared.records.Object.{Object}
use Rattle.spec_kernel.specs.declared.records.Wake.{Wake}
use Rattle.spec_kernel.specs.declared.records.Thread.{Thread}
use Rattle.spec_kernel.specs.declared.records.Semaphore.{Semaphore}
use Rattle.spec_kernel.specs.declared.records.Event.{Event}
use Rattle.spec_kernel.specs.declared.records.Message.{Message}

-- ---- a thread: its code, and the rest
-- 0 not live, 1 ready, 2 asleep, 3 waiting for a semaphore, 4 for an event, 5 for a message, 6 for a flag
abbrev pub condition_code : Condition → ℕ
condition_code Ready = 1
condition_code Asleep = 2
condition_code (ForSemaphore i) = 3
condition_code (ForEvent i) = 4
condition_code (ForMessage mask) = 5
condition_code (ForFlag i) = 6

abbrev pub thread_code : Thread → ℕ
thread_code r = cond r.live (condition_code r.condition) 0

-- the same, and of a thread that isn't live too what its condition is: six more, so that one code has one kind of condition
abbrev pub code_for : Bool → Condition → ℕ
code_for live c = cond live (condition_code c) (6 + condition_code c)

abbrev pub full_code : Thread → ℕ
full_code r = code_for r.live r.condition

-- the object's id or the mask
abbrev pub condition_data : Condition → ℕ
condition_data Ready = 0
condition_data Asleep = 0
condition_data (ForSemaphore i) = i
condition_data (ForEvent i) = i
condition_data (ForMessage mask) = mask
condition_data (ForFlag i) = i

-- 0 none, 1 met, 2 timed out on a semaphore, 3 on an event, 4 on a message, 5 on a flag
abbrev pub object_code : Object → ℕ
object_code Object.Semaphore = 2
object_code Object.Event = 3
object_code Object.Message = 4
object_code Object.Flag = 5

abbrev pub wake_code : Wake → ℕ
wake_code Wake.None = 0
wake_code Wake.Met = 1
wake_code (Wake.TimedOut object) = object_code object

-- priority, first priority, data, ticks left, wake reason, reply, place, place in the time queue
abbrev pub thread_row : Thread → ℕ → ℕ → List ℕ
thread_row r place due =
    r.priority ∷ r.first ∷ condition_data r.condition ∷ r.ticks ∷ wake_code r.wake ∷ r.reply ∷ place ∷ due ∷ []

-- of a thread of this code: a mask has two bytes, an object's id one
abbrev pub thread_widths : ℕ → List ℕ
thread_widths code = 1 ∷ 1 ∷ cond (eqb code 5) 2 1 ∷ 4 ∷ 1 ∷ 1 ∷ 1 ∷ 1 ∷ []

-- an object's id is a byte, whatever the row holds
unfoldable pub condition_from : ℕ → ℕ → Condition
condition_from code what =
    cond (eqb code 2) Asleep
    (cond (eqb code 3) (ForSemaphore (what % 256))
    (cond (eqb code 4) (ForEvent (what % 256))
    (cond (eqb code 5) (ForMessage what) (cond (eqb code 6) (ForFlag (what % 256)) Ready))))

unfoldable pub wake_from : ℕ → Wake
wake_from code =
    cond (eqb code 1) Wake.Met
    (cond (eqb code 2) (Wake.TimedOut Object.Semaphore)
    (cond (eqb code 3) (Wake.TimedOut Object.Event)
    (cond (eqb code 4) (Wake.TimedOut Object.Message) (cond (eqb code 5) (Wake.TimedOut Object.Flag) Wake.None))))

unfoldable pub thread_from : ℕ → List ℕ → Thread
thread_from code row =
    record {
      live = not (eqb code 0);
      priority = get_or row 0 0;
      first = get_or row 1 0;
      condition = condition_from code (get_or row 2 0);
      ticks = get_or row 3 0;
      wake = wake_from (get_or row 4 0);
      reply = get_or row 5 0;
    }

-- ---- a semaphore: live, count, maximum, ticks left, period
abbrev pub semaphore_row : Semaphore → List ℕ
semaphore_row r = one r.live ∷ r.count ∷ r.maximum ∷ r.ticks ∷ r.period ∷ 0 ∷ 0 ∷ 0 ∷ []

abbrev pub semaphore_widths : List ℕ
semaphore_widths = 1 ∷ 2 ∷ 2 ∷ 4 ∷ 4 ∷ 0 ∷ 0 ∷ 0 ∷ []

unfoldable pub semaphore_from : List ℕ → Semaphore
semaphore_from row =
    record {
      live = not (eqb (get_or row 0 0) 0);
      count = get_or row 1 0;
      maximum = get_or row 2 0;
      ticks = get_or row 3 0;
      period = get_or row 4 0;
    }

-- ---- an event: mode, mask, values
abbrev pub event_row : Event → List ℕ
event_row r = one r.any ∷ r.mask ∷ r.values ∷ 0 ∷ 0 ∷ 0 ∷ 0 ∷ 0 ∷ []

abbrev pub event_widths : List ℕ
event_widths = 1 ∷ 4 ∷ 4 ∷ 0 ∷ 0 ∷ 0 ∷ 0 ∷ 0 ∷ []

unfoldable pub event_from : List ℕ → Event
event_from row = record { any = not (eqb (get_or row 0 0) 0); mask = get_or row 1 0; values = get_or row 2 0 }

-- ---- a message: live, owner, sender, type, size, address, channel, place
abbrev pub message_row : Message → ℕ → List ℕ
message_row r place =
    one r.live ∷ r.owner ∷ r.sender ∷ r.kind ∷ r.size ∷ r.address ∷ r.channel ∷ place ∷ []

abbrev pub message_widths : List ℕ
message_widths = 1 ∷ 1 ∷ 1 ∷ 2 ∷ 4 ∷ 4 ∷ 1 ∷ 1 ∷ []

unfoldable pub message_from : List ℕ → Message
message_from row =
    record {
      live = not (eqb (get_or row 0 0) 0);
      owner = get_or row 1 0;
      sender = get_or row 2 0;
      kind = get_or row 3 0;
      size = get_or row 4 0;
      address = get_or row 5 0;
      channel = get_or row 6 0;
    }

-- ---- the scheduler's own values: levels and runner
abbrev pub scheduler_row : ℕ → ℕ → ℕ → List ℕ
scheduler_row unscheduled critical runner = unscheduled ∷ critical ∷ runner ∷ 0 ∷ 0 ∷ 0 ∷ 0 ∷ 0 ∷ []

abbrev pub scheduler_widths : List ℕ
scheduler_widths = 1 ∷ 1 ∷ 1 ∷ 0 ∷ 0 ∷ 0 ∷ 0 ∷ 0 ∷ []
