-- The note of a call: the call record, the sections each after its two-byte length, and the whole length.
use Rattle.std.specs.Prelude.{ℕ, ◌+◌, ◌*◌, List, [], ◌∷◌, ◌++◌, length, get_or}
use Rattle.base_bytes.specs.Bytes.{le}
use Rattle.spec_kernel.specs.Sizes.{thread_count, semaphore_count, event_count, message_count}
use Rattle.spec_kernel.specs.declared.records.Kernel.{Kernel}
use Rattle.spec_calls.specs.declared.call.Call.{Call}
use Rattle.spec_calls.specs.Calls.{call_of}
use Rattle.spec_notes.specs.Sections.{scheduler_section, threads_section, semaphores_section}
use Rattle.spec_notes.specs.Sections.{events_section, flags_section, messages_section}

-- A section stands after its length, in two bytes; so do any sections, one after the other [01, notes 1].
abbrev pub section : List ℕ → List ℕ
section bytes = le 2 (length bytes) ++ bytes

abbrev pub framed : List (List ℕ) → List ℕ
framed [] = []
framed (s ∷ rest) = section s ++ framed rest

-- ---- The order of the sections: scheduler, threads, semaphores, events, flags and messages [01, notes 1; 02 §1].
abbrev pub sections_of : Kernel → Call → Kernel → List (List ℕ)
sections_of k c k' =
    scheduler_section k c k'
    ∷ threads_section k c k'
    ∷ semaphores_section k c k'
    ∷ events_section k c k'
    ∷ flags_section k c k'
    ∷ messages_section k c k'
    ∷ []

abbrev pub section_count : ℕ
section_count = 6

-- each of them by its place in that order
abbrev pub scheduler_in : List (List ℕ) → List ℕ
scheduler_in x = get_or x 0 []

abbrev pub threads_in : List (List ℕ) → List ℕ
threads_in x = get_or x 1 []

abbrev pub semaphores_in : List (List ℕ) → List ℕ
semaphores_in x = get_or x 2 []

abbrev pub events_in : List (List ℕ) → List ℕ
events_in x = get_or x 3 []

abbrev pub flags_in : List (List ℕ) → List ℕ
flags_in x = get_or x 4 []

abbrev pub messages_in : List (List ℕ) → List ℕ
messages_in x = get_or x 5 []

-- A note but for its end: the call record, then the sections [01, notes 1].
unfoldable pub before_length : Kernel → List ℕ → Kernel → List ℕ
before_length k bytes k' = bytes ++ framed (sections_of k (call_of bytes) k')

-- At its end a note has the length of all of it, in two bytes [01, notes 2].
unfoldable pub note_of : Kernel → List ℕ → Kernel → List ℕ
note_of k bytes k' = before_length k bytes k' ++ le 2 (length (before_length k bytes k') + 2)

-- a note whose sections are all empty: none is shorter
abbrev pub least_note : ℕ
least_note = 16 + 2 * section_count + 2

-- a note whose sections are as long as they can be: none is longer. An entry has at most 15 bytes for a thread or a semaphore, 11 for an
-- event and 17 for a message; the bits have one, the flags one, the scheduler four.
abbrev pub longest_note : ℕ
longest_note = least_note + 4 + 15 * thread_count + 15 * semaphore_count + (1 + 11 * event_count) + 1 + 17 * message_count
