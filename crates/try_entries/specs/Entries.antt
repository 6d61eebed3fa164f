-- What the trials of the public entries look at.
use Rattle.std.specs.Prelude.{ℕ, ◌-◌, Bool, false, cond, not, ◌&&◌, ◌||◌, List, length, take, drop, replicate, ◌==◌, nat_lt, slice_index_or}
use Rattle.base_queue.specs.Lists.{first_of}
use Rattle.spec_kernel.specs.declared.records.Kernel.{Kernel}
use Rattle.base_bytes.specs.Bytes.{begins}
use Rattle.spec_notes.specs.Notes.{threads_in, semaphores_in, flags_in, messages_in}
use Rattle.spec_notes.specs.Frames.{frames_of, sections_in}
use Rattle.code_notes_frame.specs.Meant.{record_of}
use Rattle.spec_answers.specs.declared.Answer.{Answer}
use Rattle.spec_answers.specs.declared.Logged.{Logged}
use Rattle.spec_answers.specs.Steps.{answer}
use Rattle.spec_answers.specs.Logs.{called_with, log_called, part_called, undone}
use Rattle.try_entries.specs.declared.tallies.Outcome.{Outcome}
use Rattle.try_entries.specs.Tallies.{outcome}
use Rattle.try_entries.specs.Returned.{same_answer, came_back}

-- the value of the call that a note tells of: the id of what it created, or of the message that it took, is the first of its section
unfoldable pub value_in : List ℕ → ℕ
value_in note =
    let x = sections_in (frames_of note) in
    let kind = slice_index_or note 0 0 in
    cond (kind == 2) (first_of (threads_in x))
    (cond (kind == 14) (first_of (semaphores_in x))
    (cond (kind == 24 || kind == 27) (first_of (messages_in x)) (cond (kind == 31) (first_of (flags_in x)) 255)))

-- the call of a note on a state, with an empty log of its own, yields this end state and this very note, with the answer that it tells
unfoldable pub yields_note : Kernel → List ℕ → Kernel → Bool
yields_note old note end =
    came_back (called_with old (record_of note) (replicate 4096 0) 0) (answer 0 (value_in note) end.runner) end (length note)
    && begins note (log_called old (record_of note) (replicate 4096 0) 0)

-- a call that must be refused with this answer, and after it an append, which must be empty
unfoldable pub refused_as : Kernel → List ℕ → List ℕ → ℕ → Answer → Outcome
refused_as k bytes log used a =
    let l = called_with k bytes log used in
    cond (length (part_called k bytes (log_called k bytes log used) used) == 0) (outcome l.answer.number (came_back l a k used))
    (outcome 0 false)

-- an accepted call on k came back with l: its answer is the one that its note tells, and the undo gives k back
unfoldable pub accepted_as : Logged → List ℕ → Kernel → ℕ → Bool
accepted_as l log k used =
    not (nat_lt l.used used)
    && (not (nat_lt (length log) l.used)
    && (same_answer l.answer (answer 0 (value_in (take (l.used - used) (drop used log))) l.kernel.runner)
    && came_back (undone l.kernel log l.used) (answer 0 255 k.runner) k used))

-- an undo on k accepted and came back with u: what it took off the log is a note that the state which it gave back yields
unfoldable pub undone_as : Logged → Kernel → List ℕ → ℕ → Bool
undone_as u k log used =
    not (nat_lt used u.used)
    && (not (nat_lt (length log) used)
    && (same_answer u.answer (answer 0 255 u.kernel.runner) && yields_note u.kernel (take (used - u.used) (drop u.used log)) k))

-- an undo: accepted as above, or refused with 15 and nothing changed
unfoldable pub undo_tried : Kernel → List ℕ → ℕ → Outcome
undo_tried k log used =
    let u = undone k log used in
    let n = u.answer.number in
    cond (n == 0) (outcome 0 (undone_as u k log used)) (outcome n (came_back u (answer 15 255 k.runner) k used))
