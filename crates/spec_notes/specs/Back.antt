-- The way back: the state before, of the state after, the call and the note's sections, whatever they hold.
use Rattle.std.specs.Prelude.{ℕ, zero, suc, ◌-◌, Bool, cond, List, [], ◌∷◌, map, eqb, length, get_or, set, drop, replicate}
use Rattle.base_queue.specs.declared.Queue.{Queue}
use Rattle.base_queue.specs.Lists.{keep, is_empty}
use Rattle.base_queue.specs.Queues.{capacity, items, pack}
use Rattle.base_bits.specs.Words.{bit_at, with_bit, without_bit}
use Rattle.base_rows.specs.Rows.{row_from}
use Rattle.base_rows.specs.Entries.{id_of, code_in, row_in, own_in, read_entries}
use Rattle.spec_kernel.specs.declared.records.Thread.{Thread}
use Rattle.spec_kernel.specs.declared.records.Semaphore.{Semaphore}
use Rattle.spec_kernel.specs.declared.records.Event.{Event}
use Rattle.spec_kernel.specs.declared.records.Message.{Message}
use Rattle.spec_kernel.specs.declared.records.Kernel.{Kernel}
use Rattle.spec_kernel.specs.Records.{no_thread, no_semaphore, no_event, no_message}
use Rattle.spec_moves.specs.declared.parts.Threads.{Threads}
use Rattle.spec_moves.specs.declared.parts.Posts.{Posts}
use Rattle.spec_moves.specs.Standing.{threads_of, posts_of}
use Rattle.spec_moves.specs.States.{state_of, scheduled}
use Rattle.spec_calls.specs.declared.call.Call.{Call}
use Rattle.spec_refusals.specs.Refusals.{is}
use Rattle.spec_notes.specs.Rows.{thread_from, thread_widths, semaphore_from, semaphore_widths}
use Rattle.spec_notes.specs.Rows.{event_from, event_widths, message_from, message_widths, scheduler_widths}
use Rattle.spec_notes.specs.Touched.{younger_thread, younger_semaphore}
use Rattle.spec_notes.specs.Predicted.{predicted_code, predicted_thread, predicted_semaphore, predicted_event, predicted_message}
use Rattle.spec_notes.specs.Predicted.{predicted_flags, predicted_levels}
use Rattle.spec_notes.specs.Notes.{scheduler_in, threads_in, semaphores_in, events_in, flags_in, messages_in}

-- ---- a table of places: who was touched is out, and back at its old place
-- place by place: the noted member of that place, or else the next one that stayed
abbrev pub fill_place : ℕ → List ℕ → (List ℕ → List ℕ) → List ℕ
fill_place x l go = elim l [ [] ↦ cond (eqb x 255) [] (x ∷ go []) | y ∷ m ↦ cond (eqb x 255) (y ∷ go m) (x ∷ go (y ∷ m)) ]

abbrev pub merge : ℕ → List ℕ → List ℕ → List ℕ
merge zero at l = []
merge (suc n) at l = fill_place (get_or at 0 255) l (merge n (drop 1 at))

-- `at` has at each old place who stood there (255: nobody touched), `out` says of each id whether it was touched
unfoldable pub put_back_all : List ℕ → List ℕ → Queue → Queue
put_back_all out at q = pack (merge capacity at (keep (λ x. eqb (get_or out x 0) 0) (items q)))

-- ---- threads
-- the records so far, who was touched, and who stood at each place of `places` and of the time queue
pub record Threading : Type 0 where
  pub threads : List Thread
  pub out : List ℕ
  pub at : List ℕ
  pub due : List ℕ

abbrev pub thread_back : ℕ → ℕ → List ℕ → Threading → Threading
thread_back t code row a =
    record {
      threads = set a.threads t (thread_from code row);
      out = set a.out t 1;
      at = set a.at (get_or row 6 0) t;
      due = set a.due (get_or row 7 0) t;
    }

-- an entry: its code, how many bytes are its own, and what it puts back; `new` are the records after the call
abbrev pub code_read : Call → List Thread → ℕ → List ℕ → ℕ
code_read c new head s = code_in (predicted_code c (get_or new (id_of head) no_thread)) head s

unfoldable pub thread_own : Call → List Thread → ℕ → List ℕ → ℕ
thread_own c new head s = own_in (thread_widths (code_read c new head s)) head s

unfoldable pub thread_read : Call → List Thread → ℕ → List ℕ → Threading → Threading
thread_read c new head s a =
    let code = code_read c new head s in
    thread_back (id_of head) code
    (row_in (thread_widths code) (predicted_thread c (get_or new (id_of head) no_thread) code) head s)
    a

unfoldable pub threads_before : Call → List Thread → List ℕ → Threading
threads_before c new s =
    read_entries (thread_own c new) (thread_read c new) (length s) s
    (record {
      threads = map (younger_thread c) new;
      out = replicate capacity 0;
      at = replicate capacity 255;
      due = replicate capacity 255;
    })

-- ---- semaphores
unfoldable pub semaphore_read : Call → List Semaphore → ℕ → List ℕ → List Semaphore → List Semaphore
semaphore_read c new head s a =
    set a (id_of head)
    (semaphore_from (row_in semaphore_widths (predicted_semaphore c (get_or new (id_of head) no_semaphore)) head s))

unfoldable pub semaphores_before : Call → List Semaphore → List ℕ → List Semaphore
semaphores_before c new s =
    read_entries (own_in semaphore_widths) (semaphore_read c new) (length s) s (map (younger_semaphore c) new)

-- ---- events and bits
unfoldable pub event_read : List Event → ℕ → List ℕ → List Event → List Event
event_read new head s a =
    set a (id_of head) (event_from (row_in event_widths (predicted_event (get_or new (id_of head) no_event)) head s))

-- the section begins with 8: bit a was the other way
abbrev pub bit_changed : List ℕ → Bool
bit_changed s = eqb (get_or s 0 0) 8

unfoldable pub bits_before : Call → ℕ → List ℕ → ℕ
bits_before c bits s =
    cond (bit_changed s) (cond (bit_at bits c.a) (without_bit bits c.a) (with_bit bits c.a)) bits

unfoldable pub events_before : List Event → List ℕ → List Event
events_before new s =
    read_entries (own_in event_widths) (event_read new) (length s) (drop (cond (bit_changed s) 1 0) s) new

-- ---- flags
-- where the section has a byte, the flag of that id wasn't live
unfoldable pub flags_before : Call → ℕ → List ℕ → ℕ
flags_before c flags s = cond (is_empty s) (predicted_flags c flags) (without_bit (predicted_flags c flags) (get_or s 0 0))

-- ---- messages
pub record Filing : Type 0 where
  pub messages : List Message
  pub out : List ℕ
  pub at : List ℕ

abbrev pub message_back : ℕ → List ℕ → Filing → Filing
message_back m row a =
    record {
      messages = set a.messages m (message_from row);
      out = set a.out m 1;
      at = set a.at (get_or row 7 0) m;
    }

unfoldable pub message_read : Call → ℕ → List Message → ℕ → List ℕ → Filing → Filing
message_read c runner new head s a =
    message_back (id_of head) (row_in message_widths (predicted_message c runner (get_or new (id_of head) no_message)) head s) a

unfoldable pub messages_before : Call → ℕ → List Message → List ℕ → Filing
messages_before c runner new s =
    read_entries (own_in message_widths) (message_read c runner new) (length s) s
    (record { messages = new; out = replicate capacity 0; at = replicate capacity 255 })

-- ---- the scheduler
-- levels and runner, of those after the call
unfoldable pub levels_before : Call → ℕ → ℕ → ℕ → List ℕ → List ℕ
levels_before c unscheduled critical runner s =
    row_from scheduler_widths (get_or s 0 0) (predicted_levels c unscheduled critical runner) (drop 1 s)

-- uptime wraps backwards too
abbrev pub earlier : Call → ℕ → ℕ
earlier c uptime = cond (is c 1) (cond (eqb uptime 0) 4294967295 (uptime - 1)) uptime

-- ---- the state, of the note's sections
-- the part that threads move in
unfoldable pub threads_back : Call → Threads → List ℕ → Threads
threads_back c p s =
    record {
      records = (threads_before c p.records s).threads;
      places = put_back_all (threads_before c p.records s).out (threads_before c p.records s).at p.places;
      time = put_back_all (threads_before c p.records s).out (threads_before c p.records s).due p.time;
    }

-- the part that messages move in
unfoldable pub posts_back : Call → ℕ → Posts → List ℕ → Posts
posts_back c runner p s =
    record {
      records = (messages_before c runner p.records s).messages;
      posted = put_back_all (messages_before c runner p.records s).out (messages_before c runner p.records s).at p.posted;
    }

-- everything, with levels and runner as they are given
unfoldable pub before_at : Call → Kernel → List (List ℕ) → ℕ → ℕ → ℕ → Kernel
before_at c k' x unscheduled critical runner =
    state_of
    (threads_back c (threads_of k') (threads_in x))
    (semaphores_before c k'.semaphores (semaphores_in x))
    (events_before k'.events (events_in x))
    (bits_before c k'.bits (events_in x))
    (flags_before c k'.flags (flags_in x))
    (posts_back c k'.runner (posts_of k') (messages_in x))
    (earlier c k'.uptime)
    unscheduled
    critical
    runner

-- Who ran: outside every region the first ready thread of the old state, inside one the noted thread [01, state 8].
unfoldable pub state_before : Call → Kernel → List (List ℕ) → Kernel
state_before c k' x =
    let levels = levels_before c k'.unscheduled k'.critical k'.runner (scheduler_in x) in
    scheduled (before_at c k' x (get_or levels 0 0) (get_or levels 1 0) (get_or levels 2 0))
