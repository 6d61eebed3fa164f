-- The image of a state: an edition byte, then sections in the order of the notes, each after its two-byte length [02 §2].
-- An entry is that of a note, told against nothing: there is no call, and no record is live after it.
use Rattle.std.specs.Prelude.{ℕ, ◌+◌, ◌*◌, Bool, cond, ◌&&◌, List, [], ◌∷◌, ◌++◌, get_or, drop, replicate}
use Rattle.base_bytes.specs.Bytes.{le, un}
use Rattle.base_queue.specs.Queues.{pack}
use Rattle.spec_kernel.specs.declared.records.Semaphore.{Semaphore}
use Rattle.spec_kernel.specs.declared.records.Event.{Event}
use Rattle.spec_kernel.specs.declared.records.Kernel.{Kernel}
use Rattle.spec_kernel.specs.Sizes.{thread_count, semaphore_count, event_count, message_count}
use Rattle.spec_kernel.specs.Records.{no_thread, no_semaphore, fresh_event, no_message, fresh}
use Rattle.spec_moves.specs.declared.parts.Threads.{Threads}
use Rattle.spec_moves.specs.declared.parts.Posts.{Posts}
use Rattle.spec_moves.specs.Standing.{threads_of, posts_of}
use Rattle.spec_moves.specs.States.{state_of}
use Rattle.spec_rules.specs.Tests.{keeps_rules}
use Rattle.spec_calls.specs.declared.call.Call.{Call}
use Rattle.spec_notes.specs.Touched.{same_row}
use Rattle.spec_notes.specs.Sections.{thread_entries, semaphore_entries, event_entries, message_entries}
use Rattle.spec_notes.specs.Notes.{framed, section_count, scheduler_in, threads_in, semaphores_in, events_in, flags_in, messages_in}
use Rattle.spec_notes.specs.Frames.{sections_at}
use Rattle.spec_notes.specs.Back.{threads_back, semaphores_before, events_before, posts_back}
use Rattle.spec_images.specs.declared.Recalled.{Recalled}

-- ---- what entries are told against
abbrev pub no_call : Call
no_call = record { kind = 0; a = 0; b = 0; c = 0; d = 0; e = 0 }

abbrev pub no_threads : Threads
no_threads = record { records = replicate thread_count no_thread; places = pack []; time = pack [] }

abbrev pub no_semaphores : List Semaphore
no_semaphores = replicate semaphore_count no_semaphore

-- events are always there: those of the fresh state
abbrev pub fresh_events : List Event
fresh_events = replicate event_count fresh_event

abbrev pub no_posts : Posts
no_posts = record { records = replicate message_count no_message; posted = pack [] }

-- ---- the sections: live records in id order, each with its places, so that queues are told by place [02 §2]
-- uptime, both levels, and who runs
unfoldable pub scheduler_stored : Kernel → List ℕ
scheduler_stored k = le 4 k.uptime ++ (k.unscheduled ∷ k.critical ∷ k.runner ∷ [])

unfoldable pub threads_stored : Kernel → List ℕ
threads_stored k = thread_entries no_call k.runner (threads_of k) no_threads.records 0 thread_count

unfoldable pub semaphores_stored : Kernel → List ℕ
semaphores_stored k = semaphore_entries no_call k.semaphores no_semaphores 0 semaphore_count

-- the bits, and the events that aren't as in the fresh state
unfoldable pub events_stored : Kernel → List ℕ
events_stored k = le 4 k.bits ++ event_entries k.events fresh_events 0 event_count

-- a bit for each live flag
unfoldable pub flags_stored : ℕ → List ℕ
flags_stored flags = le 2 flags

unfoldable pub messages_stored : Kernel → List ℕ
messages_stored k = message_entries no_call 255 (posts_of k) no_posts.records 0 message_count

abbrev pub stored_sections : Kernel → List (List ℕ)
stored_sections k =
    scheduler_stored k
    ∷ threads_stored k
    ∷ semaphores_stored k
    ∷ events_stored k
    ∷ flags_stored k.flags
    ∷ messages_stored k
    ∷ []

-- ---- the image
abbrev pub edition : ℕ
edition = 1

unfoldable pub image_of : Kernel → List ℕ
image_of k = edition ∷ framed (stored_sections k)

-- No image is longer: seven bytes of the scheduler, 15 for a thread or a semaphore, 4 for the bits and 11 for an event, 2 for the flags, 17
-- for a message.
abbrev pub longest_image : ℕ
longest_image =
    1 + 2 * section_count + 7 + 15 * thread_count + 15 * semaphore_count + (4 + 11 * event_count) + 2 + 17 * message_count

-- ---- reading
-- the sections behind the edition byte, whatever the bytes are
abbrev pub sections_stored : List ℕ → List (List ℕ)
sections_stored s = sections_at section_count (drop 1 s)

-- the state that these sections tell: as a note leads back, from nothing
unfoldable pub state_from : List (List ℕ) → Kernel
state_from x =
    state_of
    (threads_back no_call no_threads (threads_in x))
    (semaphores_before no_call no_semaphores (semaphores_in x))
    (events_before fresh_events (drop 4 (events_in x)))
    (un 4 (events_in x))
    (un 2 (flags_in x))
    (posts_back no_call 255 no_posts (messages_in x))
    (un 4 (scheduler_in x))
    (get_or (scheduler_in x) 4 0)
    (get_or (scheduler_in x) 5 0)
    (get_or (scheduler_in x) 6 0)

abbrev pub state_in : List ℕ → Kernel
state_in s = state_from (sections_stored s)

-- The bytes are an image: what they tell keeps the rules, and they are its image, to the last byte [02 §2].
unfoldable pub is_image : List ℕ → Bool
is_image s = keeps_rules (state_in s) && same_row (image_of (state_in s)) s

abbrev pub recalled : ℕ → Kernel → Recalled
recalled number k = record { kernel = k; number = number }

-- 0 and the state, or 16 and nothing: the fresh state, in which there is nothing [02 §2].
unfoldable pub read_from : List ℕ → Recalled
read_from s = cond (is_image s) (recalled 0 (state_in s)) (recalled 16 fresh)
