-- Runs of many calls and undos, by the public call and undo. A run follows a list of calls where its state is their replay and the used
-- part of its log ends in the last of their notes: demand 3 over many is stated on this. Lists of calls and of notes have the last first.
use Rattle.std.specs.Prelude.{ℕ, zero, suc, ◌+◌, ◌≡◌, cond, List, [], ◌∷◌, ◌++◌, map, eqb, length, take, drop, replicate}
use Rattle.spec_kernel.specs.declared.records.Kernel.{Kernel}
use Rattle.spec_rules.specs.Rules.{Rules}
use Rattle.spec_notes.specs.Within.{OfTypes, AreBytes}
use Rattle.spec_notes.specs.Undoes.{back_from}
use Rattle.spec_answers.specs.declared.Logged.{Logged}
use Rattle.spec_answers.specs.Steps.{answer, called}
use Rattle.spec_answers.specs.Logs.{logged, note_for, called_with, log_called, undone}

-- A state that a function of the code can be given, and that keeps the state rules.
pub record Undamaged (k : Kernel) : Type 0 where
  pub types : OfTypes k
  pub rules : Rules k

-- sixteen bytes
abbrev pub IsRecord : List ℕ → Type 0
IsRecord bytes = (length bytes ≡ 16) × AreBytes bytes

abbrev pub AreRecords : List (List ℕ) → Type 0
AreRecords [] = Unit {0}
AreRecords (bytes ∷ records) = IsRecord bytes × AreRecords records

-- ---- a list of calls on a state, without a log
-- the state after these calls, one after the other
abbrev pub replayed : Kernel → List (List ℕ) → Kernel
replayed k [] = k
replayed k (bytes ∷ calls) = (called (replayed k calls) bytes).kernel

-- each is a record of sixteen bytes and is accepted in its turn
abbrev pub Accepts : Kernel → List (List ℕ) → Type 0
Accepts k [] = Unit {0}
Accepts k (bytes ∷ calls) = IsRecord bytes × ((called (replayed k calls) bytes).answer.number ≡ 0) × Accepts k calls

-- Each accepted call has one note [01, notes 1].
abbrev pub notes : Kernel → List (List ℕ) → List (List ℕ)
notes k [] = []
notes k (bytes ∷ calls) = note_for (replayed k calls) bytes ∷ notes k calls

-- the state that the last j of these notes lead back to
abbrev pub back_times : ℕ → Kernel → List (List ℕ) → Kernel
back_times zero k kept = k
back_times (suc j) k [] = k
back_times (suc j) k (note ∷ kept) = back_times j (back_from k note) kept

-- notes one behind the other, the last at the end
abbrev pub joined : List (List ℕ) → List ℕ
joined [] = []
joined (note ∷ kept) = joined kept ++ note

-- ---- a run
-- where it stands: the state, the lent log, and how much of it is used
pub record Run : Type 0 where
  pub kernel : Kernel
  pub log : List ℕ
  pub used : ℕ

-- From this start the run follows the calls of `gone` and then of `calls`: all were accepted, and the state is their replay. The log is as
-- long as at the start, and behind what was used of it then stand the notes of `calls`; those of `gone` are no longer kept.
pub record Follows (start : Run) (gone calls : List (List ℕ)) (r : Run) : Type 0 where
  pub earlier : Accepts start.kernel gone
  pub accepted : Accepts (replayed start.kernel gone) calls
  pub state : r.kernel ≡ replayed (replayed start.kernel gone) calls
  pub lent : length r.log ≡ length start.log
  pub ends : r.used ≡ start.used + length (joined (notes (replayed start.kernel gone) calls))
  pub stands : take r.used r.log ≡ take start.used start.log ++ joined (notes (replayed start.kernel gone) calls)

-- ---- its steps
-- sixteen bytes come as a call, or the last note is undone
pub data Step : Type 0 where
  call : List ℕ → Step
  undo : Step

abbrev pub AreSteps : List Step → Type 0
AreSteps [] = Unit {0}
AreSteps (call bytes ∷ steps) = IsRecord bytes × AreSteps steps
AreSteps (undo ∷ steps) = AreSteps steps

-- what comes back
abbrev pub given : Run → Step → Logged
given r (call bytes) = called_with r.kernel bytes r.log r.used
given r undo = undone r.kernel r.log r.used

-- The log then: an undo leaves its bytes [01, answers 8].
abbrev pub log_then : Run → Step → List ℕ
log_then r (call bytes) = log_called r.kernel bytes r.log r.used
log_then r undo = r.log

abbrev pub after : Run → Step → Run
after r s = record { kernel = (given r s).kernel; log = log_then r s; used = (given r s).used }

abbrev pub after_all : Run → List Step → Run
after_all r [] = r
after_all r (s ∷ steps) = after_all (after r s) steps

-- The calls that count after a step that was answered this number: an accepted call is the last of them, an undone one counts no more, and
-- what is refused changes nothing [01, answers 3].
abbrev pub counting : List (List ℕ) → Step → ℕ → List (List ℕ)
counting calls (call bytes) number = cond (eqb number 0) (bytes ∷ calls) calls
counting calls undo number = cond (eqb number 0) (drop 1 calls) calls

-- those after all of these steps, where `calls` counted before
abbrev pub counted : List (List ℕ) → Run → List Step → List (List ℕ)
counted calls r [] = calls
counted calls r (s ∷ steps) = counted (counting calls s (given r s).answer.number) (after r s) steps

-- a run after these calls, given in the order in which they come; and those of them that are accepted
abbrev pub after_calls : Run → List (List ℕ) → Run
after_calls r records = after_all r (map call records)

abbrev pub accepted_of : Run → List (List ℕ) → List (List ℕ)
accepted_of r records = counted [] r (map call records)

-- the same without a log: of the calls that come, refused ones among them, those that are accepted
abbrev pub accepted_from : Kernel → List (List ℕ) → List (List ℕ) → List (List ℕ)
accepted_from k calls [] = calls
accepted_from k calls (bytes ∷ records) =
    accepted_from k (counting calls (call bytes) (called (replayed k calls) bytes).answer.number) records

-- ---- many undos
-- What an undo that leads to this run gives: 0, value 255, who runs there, its state and its used length [01, answers 8].
abbrev pub led_back : Run → Logged
led_back r = logged (answer 0 255 r.kernel.runner) r.kernel r.used

-- where a run from this start stands that follows these calls in this log
abbrev pub stood_at : Run → List (List ℕ) → List (List ℕ) → List ℕ → Run
stood_at start gone calls log =
    let first = replayed start.kernel gone in
    record { kernel = replayed first calls; log = log; used = start.used + length (joined (notes first calls)) }

-- what the last of j undos gives, one after the other
abbrev pub undone_times : ℕ → Run → Logged
undone_times zero r = led_back r
undone_times (suc j) r = given (after_all r (replicate j undo)) undo
