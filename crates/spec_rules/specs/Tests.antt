-- The state rules as one computed test: record by record, table by table.
use Rattle.std.specs.Prelude.{ℕ, ◌+◌, Bool, true, false, not, cond, ◌&&◌, ◌||◌, List, [], ◌∷◌, eqb, ltb, leb, get_or}
use Rattle.base_queue.specs.Lists.{every_from}
use Rattle.base_queue.specs.Queues.{items, is_tidy}
use Rattle.base_queue.specs.Tables.{is_placed, is_ordered_from}
use Rattle.spec_kernel.specs.declared.records.Condition.{Condition}
use Rattle.spec_kernel.specs.declared.records.Condition.TheVariants.{Ready, Asleep, ForSemaphore, ForEvent, ForMessage, ForFlag}
use Rattle.spec_kernel.specs.declared.records.Wake.{Wake}
use Rattle.spec_kernel.specs.declared.records.Thread.{Thread}
use Rattle.spec_kernel.specs.declared.records.Semaphore.{Semaphore}
use Rattle.spec_kernel.specs.declared.records.Event.{Event}
use Rattle.spec_kernel.specs.declared.records.Message.{Message}
use Rattle.spec_kernel.specs.declared.records.Kernel.{Kernel}
use Rattle.spec_kernel.specs.Records.{thread, flag_in, no_thread, no_semaphore, no_event, no_message}
use Rattle.spec_kernel.specs.Sizes.{thread_count, event_count, message_count, priority_count, channel_count}
use Rattle.spec_kernel.specs.Conditions.{ready_for, is_ready, awaits}
use Rattle.spec_kernel.specs.Places.{has_home, rank_of, is_queued, stream_of}
use Rattle.spec_kernel.specs.Truth.{is_true}
use Rattle.spec_kernel.specs.Runner.{chosen}
use Rattle.spec_rules.specs.declared.tests.Asked.{Asked}

-- all of a list
abbrev pub all_of : List Bool → Bool
all_of [] = true
all_of (b ∷ l) = let r = all_of l in b && r

abbrev pub no_wake : Wake → Bool
no_wake Wake.None = true
no_wake Wake.Met = false
no_wake (Wake.TimedOut object) = false

-- all fields are 0
unfoldable pub is_no_thread : Thread → Bool
is_no_thread r =
    all_of (eqb r.priority 0 ∷ eqb r.first 0 ∷ ready_for r.condition ∷ eqb r.ticks 0 ∷ no_wake r.wake ∷ eqb r.reply 0 ∷ [])

unfoldable pub is_no_semaphore : Semaphore → Bool
is_no_semaphore r = all_of (eqb r.count 0 ∷ eqb r.maximum 0 ∷ eqb r.ticks 0 ∷ eqb r.period 0 ∷ [])

unfoldable pub is_no_message : Message → Bool
is_no_message r =
    all_of (eqb r.owner 0 ∷ eqb r.sender 0 ∷ eqb r.kind 0 ∷ eqb r.size 0 ∷ eqb r.address 0 ∷ eqb r.channel 0 ∷ [])

-- Semaphore i may have waiters: it is live and its count is 0 [01, state 1.3, 4.1].
abbrev pub semaphore_waited : List Semaphore → ℕ → Bool
semaphore_waited semaphores i = (get_or semaphores i no_semaphore).live && eqb (get_or semaphores i no_semaphore).count 0

-- Event i may have waiters: there is such an event and it isn't TRUE [01, state 1.3, 4.3].
abbrev pub event_waited : List Event → ℕ → ℕ → Bool
event_waited events bits i = ltb i event_count && not (is_true bits (get_or events i no_event))

-- a live thread's condition: its ticks left, and the object that it waits for
unfoldable pub condition_kept : List Semaphore → List Event → ℕ → ℕ → ℕ → Condition → Bool
condition_kept semaphores events bits flags ticks Ready = eqb ticks 0
condition_kept semaphores events bits flags ticks Asleep = ltb 0 ticks
condition_kept semaphores events bits flags ticks (ForSemaphore i) = semaphore_waited semaphores i
condition_kept semaphores events bits flags ticks (ForEvent i) = event_waited events bits i
condition_kept semaphores events bits flags ticks (ForMessage mask) = ltb 0 mask && leb mask 32767
condition_kept semaphores events bits flags ticks (ForFlag i) = flag_in flags i

unfoldable pub live_thread_kept : List Semaphore → List Event → ℕ → ℕ → Thread → Bool
live_thread_kept semaphores events bits flags r =
    all_of
    (ltb 0 r.priority
    ∷ leb r.priority priority_count
    ∷ ltb 0 r.first
    ∷ leb r.first priority_count
    ∷ (ltb r.reply message_count || eqb r.reply 255)
    ∷ condition_kept semaphores events bits flags r.ticks r.condition
    ∷ [])

unfoldable pub thread_kept : List Semaphore → List Event → ℕ → ℕ → Thread → Bool
thread_kept semaphores events bits flags r = cond r.live (live_thread_kept semaphores events bits flags r) (is_no_thread r)

-- ticks left are above 0 exactly where the semaphore is periodic
unfoldable pub live_semaphore_kept : Semaphore → Bool
live_semaphore_kept r =
    all_of
    (ltb 0 r.maximum
    ∷ leb r.count r.maximum
    ∷ cond (eqb r.period 0) (eqb r.ticks 0) (ltb 0 r.ticks)
    ∷ [])

unfoldable pub semaphore_kept : Semaphore → Bool
semaphore_kept r = cond r.live (live_semaphore_kept r) (is_no_semaphore r)

-- the owner is live and does not wait for messages on the channel that the message stands on
unfoldable pub live_message_kept : List Thread → Message → Bool
live_message_kept threads r =
    all_of
    ((get_or threads r.owner no_thread).live
    ∷ ltb r.sender thread_count
    ∷ leb r.channel channel_count
    ∷ not (awaits (get_or threads r.owner no_thread).condition r.channel)
    ∷ [])

unfoldable pub message_kept : List Thread → Message → Bool
message_kept threads r = cond r.live (live_message_kept threads r) (is_no_message r)

unfoldable pub threads_kept : Kernel → Bool
threads_kept k = every_from (λ _ r. thread_kept k.semaphores k.events k.bits k.flags r) 0 k.threads

unfoldable pub semaphores_kept : Kernel → Bool
semaphores_kept k = every_from (λ _ r. semaphore_kept r) 0 k.semaphores

unfoldable pub messages_kept : Kernel → Bool
messages_kept k = every_from (λ _ r. message_kept k.threads r) 0 k.messages

-- ---- the tables: each that belongs stands there once and nobody else, in order, the unused store 0
abbrev pub is_ticking : Thread → Bool
is_ticking r = ltb 0 r.ticks

unfoldable pub in_rank : List Thread → List ℕ → Bool
in_rank threads l = is_ordered_from 0 (λ t. rank_of (get_or threads t no_thread)) l

unfoldable pub in_time : List Thread → List ℕ → Bool
in_time threads l = is_ordered_from 0 (λ t. (get_or threads t no_thread).ticks) l

unfoldable pub in_stream : List Message → List ℕ → Bool
in_stream messages l = is_ordered_from 0 (λ m. stream_of (get_or messages m no_message)) l

unfoldable pub places_kept : Kernel → Bool
places_kept k =
    all_of
    (is_tidy k.places
    ∷ is_placed has_home k.threads (items k.places)
    ∷ in_rank k.threads (items k.places)
    ∷ [])

unfoldable pub time_kept : Kernel → Bool
time_kept k =
    all_of
    (is_tidy k.time
    ∷ is_placed is_ticking k.threads (items k.time)
    ∷ in_time k.threads (items k.time)
    ∷ [])

unfoldable pub posted_kept : Kernel → Bool
posted_kept k =
    all_of
    (is_tidy k.posted
    ∷ is_placed is_queued k.messages (items k.posted)
    ∷ in_stream k.messages (items k.posted)
    ∷ [])

-- the first ready one, or with a level held some ready one
unfoldable pub runner_kept : Kernel → Bool
runner_kept k = cond (eqb (k.unscheduled + k.critical) 0) (eqb k.runner (chosen k)) (is_ready (thread k k.runner))

-- The state rules hold.
unfoldable pub keeps_rules : Kernel → Bool
keeps_rules k =
    all_of
    (places_kept k
    ∷ time_kept k
    ∷ posted_kept k
    ∷ threads_kept k
    ∷ semaphores_kept k
    ∷ messages_kept k
    ∷ runner_kept k
    ∷ [])

-- ---- The same of a state that is made from one that keeps its rules: what can't have changed isn't looked at.
-- a test that is made only where it is asked for
abbrev pub if_asked : Bool → Bool → Bool
if_asked asked test = cond asked test true

-- a thread's condition looks at the semaphore, event or flag that it waits for, and a message at its owner
abbrev pub conditions_asked : Asked → Bool
conditions_asked asked = asked.threads || asked.semaphores || asked.events || asked.flags

abbrev pub owners_asked : Asked → Bool
owners_asked asked = asked.threads || asked.messages

unfoldable pub keeps_asked : Asked → Kernel → Bool
keeps_asked asked k =
    all_of
    (if_asked asked.threads (places_kept k)
    ∷ if_asked asked.threads (time_kept k)
    ∷ if_asked asked.messages (posted_kept k)
    ∷ if_asked (conditions_asked asked) (threads_kept k)
    ∷ if_asked asked.semaphores (semaphores_kept k)
    ∷ if_asked (owners_asked asked) (messages_kept k)
    ∷ runner_kept k
    ∷ [])
