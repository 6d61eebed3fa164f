-- The undo as a test: put back, test the rules, run the call again, and compare the state and the note.
use Rattle.std.specs.Prelude.{ℕ, Bool, true, false, not, ◌&&◌, ◌||◌, List, [], ◌∷◌, eqb, ltb, take}
use Rattle.base_queue.specs.Lists.{is_empty}
use Rattle.spec_kernel.specs.declared.records.Kernel.{Kernel}
use Rattle.spec_rules.specs.declared.tests.Asked.{Asked}
use Rattle.spec_rules.specs.Tests.{all_of, keeps_rules, keeps_asked}
use Rattle.spec_calls.specs.declared.call.Call.{Call}
use Rattle.spec_calls.specs.Calls.{call_of}
use Rattle.spec_refusals.specs.Refusals.{is, number_of}
use Rattle.spec_moves.specs.States.{scheduled}
use Rattle.spec_effects.specs.Effects.{effect}
use Rattle.spec_notes.specs.Touched.{same_row}
use Rattle.spec_notes.specs.Notes.{threads_in, semaphores_in, events_in, flags_in, messages_in, note_of}
use Rattle.spec_notes.specs.Back.{state_before}
use Rattle.spec_notes.specs.Frames.{Decoded, nothing, sections, frames_of, sections_in}
use Rattle.spec_notes.specs.Undo.{has_last, last_note}
use Rattle.spec_notes.specs.Same.{same_kernel, same_asked}

-- The call record is a note's first sixteen bytes [01, notes 1].
unfoldable pub call_bytes : List ℕ → List ℕ
call_bytes note = take 16 note

-- the state before, of the state after and a note, whatever they hold
unfoldable pub back_from : Kernel → List ℕ → Kernel
back_from k' note = state_before (call_of (call_bytes note)) k' (sections_in (frames_of note))

abbrev pub is_decoded : Decoded → Bool
is_decoded nothing = false
is_decoded (sections s) = true

-- the levels are bytes: one more than 255 isn't
unfoldable pub levels_fit : Kernel → Bool
levels_fit k = ltb k.unscheduled 256 && ltb k.critical 256

-- the state k, with the call in these bytes run again, yields k' and the note
unfoldable pub yields_again : Kernel → List ℕ → Kernel → List ℕ → Bool
yields_again k bytes k' note =
    let next = scheduled (effect k (call_of bytes)) in
    all_of
    (levels_fit k
    ∷ keeps_rules k
    ∷ eqb (number_of k (call_of bytes)) 0
    ∷ same_kernel next k'
    ∷ same_row (note_of k bytes next) note
    ∷ [])

unfoldable pub undoes_note : Kernel → List ℕ → Bool
undoes_note k' note = is_decoded (frames_of note) && yields_again (back_from k' note) (call_bytes note) k' note

-- the last note of the log is undone
unfoldable pub undoes : Kernel → List ℕ → ℕ → Bool
undoes k' log used = has_last log used && undoes_note k' (last_note log used)

-- ---- The same on an end state that keeps its rules: what the note doesn't speak of isn't looked at.
-- a table may be another one where it has a section; and where time passes, which ages threads and semaphores, or a flag is destroyed
abbrev pub threads_asked : Call → List (List ℕ) → Bool
threads_asked c x = is c 1 || not (is_empty (threads_in x))

abbrev pub semaphores_asked : Call → List (List ℕ) → Bool
semaphores_asked c x = is c 1 || not (is_empty (semaphores_in x))

abbrev pub events_asked : List (List ℕ) → Bool
events_asked x = not (is_empty (events_in x))

abbrev pub messages_asked : List (List ℕ) → Bool
messages_asked x = not (is_empty (messages_in x))

abbrev pub flags_asked : Call → List (List ℕ) → Bool
flags_asked c x = is c 32 || not (is_empty (flags_in x))

abbrev pub asked_by : Call → List (List ℕ) → Asked
asked_by c x =
    record {
      threads = threads_asked c x;
      semaphores = semaphores_asked c x;
      events = events_asked x;
      messages = messages_asked x;
      flags = flags_asked c x;
    }

unfoldable pub yields_asked : Asked → Kernel → List ℕ → Kernel → List ℕ → Bool
yields_asked asked k bytes k' note =
    let next = scheduled (effect k (call_of bytes)) in
    all_of
    (levels_fit k
    ∷ keeps_asked asked k
    ∷ eqb (number_of k (call_of bytes)) 0
    ∷ same_row (note_of k bytes next) note
    ∷ same_asked asked next k'
    ∷ [])

unfoldable pub undoes_note_kept : Kernel → List ℕ → Bool
undoes_note_kept k' note =
    is_decoded (frames_of note)
    && yields_asked (asked_by (call_of (call_bytes note)) (sections_in (frames_of note))) (back_from k' note) (call_bytes note) k' note

unfoldable pub undoes_kept : Kernel → List ℕ → ℕ → Bool
undoes_kept k' log used = has_last log used && undoes_note_kept k' (last_note log used)
