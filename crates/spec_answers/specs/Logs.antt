-- A call with a lent log, and the undo of the last note or of many: what comes back, the next state, the used length, and the log.
use Rattle.std.specs.Prelude.{ℕ, zero, suc, ◌+◌, ◌-◌, Bool, not, cond, List, [], ◌∷◌, ◌++◌, eqb, length}
use Rattle.base_bytes.specs.Logs.{room, noted, shown}
use Rattle.spec_kernel.specs.declared.records.Kernel.{Kernel}
use Rattle.spec_rules.specs.Tests.{keeps_rules}
use Rattle.spec_calls.specs.Calls.{call_of}
use Rattle.spec_refusals.specs.Refusals.{refusals, number_of}
use Rattle.spec_refusals.specs.Named.{value_of}
use Rattle.spec_notes.specs.Notes.{note_of}
use Rattle.spec_notes.specs.Undo.{last_length, last_note}
use Rattle.spec_notes.specs.Undoes.{back_from, undoes, undoes_kept}
use Rattle.spec_answers.specs.declared.Answer.{Answer}
use Rattle.spec_answers.specs.declared.Logged.{Logged}
use Rattle.spec_answers.specs.declared.Reached.{Reached}
use Rattle.spec_answers.specs.Steps.{answer, next_state}

abbrev pub logged : Answer → Kernel → ℕ → Logged
logged x k used = record { answer = x; kernel = k; used = used }

-- the state after the call, where it is accepted
abbrev pub state_after : Kernel → List ℕ → Kernel
state_after k bytes = next_state k (call_of bytes)

-- its note
unfoldable pub note_for : Kernel → List ℕ → List ℕ
note_for k bytes = note_of k bytes (state_after k bytes)

-- ---- on a state that keeps its rules
-- A call that no other number refuses gets 13 where its note doesn't fit behind the used part of the log [01, table: number 13].
unfoldable pub recorded : Kernel → List ℕ → List ℕ → ℕ → Logged
recorded k bytes log used =
    cond (eqb (number_of k (call_of bytes)) 0)
    (cond (room log used (note_for k bytes))
    (logged (answer 0 (value_of k (call_of bytes)) (state_after k bytes).runner) (state_after k bytes) (used + length (note_for k bytes)))
    (logged (answer 13 255 k.runner) k used))
    (logged (answer (number_of k (call_of bytes)) 255 k.runner) k used)

-- An accepted call puts its note behind the used part; on a refusal not one byte changes [01, notes 1; answers 3].
unfoldable pub log_after : Kernel → List ℕ → List ℕ → ℕ → List ℕ
log_after k bytes log used = cond (eqb (number_of k (call_of bytes)) 0) (noted log used (note_for k bytes)) log

-- The part that is handed back: the note as written, or nothing where the call is refused [01, notes 5].
unfoldable pub part_after : Kernel → List ℕ → List ℕ → ℕ → List ℕ
part_after k bytes log used = cond (eqb (number_of k (call_of bytes)) 0) (shown log used (note_for k bytes)) []

-- ---- on any state
unfoldable pub called_with : Kernel → List ℕ → List ℕ → ℕ → Logged
called_with k bytes log used = cond (keeps_rules k) (recorded k bytes log used) (logged (answer 14 255 255) k used)

unfoldable pub log_called : Kernel → List ℕ → List ℕ → ℕ → List ℕ
log_called k bytes log used = cond (keeps_rules k) (log_after k bytes log used) log

unfoldable pub part_called : Kernel → List ℕ → List ℕ → ℕ → List ℕ
part_called k bytes log used = cond (keeps_rules k) (part_after k bytes log used) []

-- Every number that a call can be answered but 0, each with its condition, in the order of document 01's table: a broken rule first, then
-- what the state and the call decide, and last a note that doesn't fit the log's unused room [01, table].
abbrev pub numbers_of : Kernel → List ℕ → List ℕ → ℕ → List (ℕ × Bool)
numbers_of k bytes log used =
    (14, not (keeps_rules k)) ∷ (refusals k (call_of bytes) ++ ((13, not (room log used (note_for k bytes))) ∷ []))

-- ---- the undo, which has the numbers 0, 14 and 15 [01, answers 5]
-- the earlier state that the last note leads back to
abbrev pub back_at : Kernel → List ℕ → ℕ → Kernel
back_at k log used = back_from k (last_note log used)

-- Undone, value 255: the earlier state, who ran then, and what was used of the log before the note; else all stays [01, answers 5 to 8].
abbrev pub undone_if : Bool → Kernel → List ℕ → ℕ → Logged
undone_if undoes k log used =
    cond undoes (logged (answer 0 255 (back_at k log used).runner) (back_at k log used) (used - last_length log used))
    (logged (answer 15 255 k.runner) k used)

unfoldable pub undone : Kernel → List ℕ → ℕ → Logged
undone k log used = cond (keeps_rules k) (undone_if (undoes k log used) k log used) (logged (answer 14 255 255) k used)

-- without the test of the state, which is to keep its rules: what the note doesn't speak of isn't looked at
unfoldable pub undone_kept : Kernel → List ℕ → ℕ → Logged
undone_kept k log used = undone_if (undoes_kept k log used) k log used

-- ---- many undos in one call
-- what the last of them gave, and how many notes were undone
abbrev pub reached : Logged → ℕ → Reached
reached r n = record { answer = r.answer; kernel = r.kernel; used = r.used; undone = n }

abbrev pub last_given : Reached → Logged
last_given r = logged r.answer r.kernel r.used

-- the same, and one more before it
abbrev pub one_more : Reached → Reached
one_more r = reached (last_given r) (suc r.undone)

-- One undo after the other until n are made or one is refused. Of none, nothing is refused: 0, value 255, and all stays.
abbrev pub many_by : (Kernel → List ℕ → ℕ → Logged) → ℕ → Kernel → List ℕ → ℕ → Reached
many_by undo zero k log used = reached (logged (answer 0 255 k.runner) k used) 0
many_by undo (suc n) k log used =
    let r = undo k log used in
    let rest = many_by undo n r.kernel log r.used in
    cond (eqb r.answer.number 0) (one_more rest) (reached r 0)

-- on any state: where it breaks a rule, 14 and none undone
unfoldable pub undone_many : ℕ → Kernel → List ℕ → ℕ → Reached
undone_many n k log used = cond (keeps_rules k) (many_by undone n k log used) (reached (logged (answer 14 255 255) k used) 0)
