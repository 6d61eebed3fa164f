-- What the user asked, over the definitions. A call, the part that it wrote, an undo, and many in one call have a record each: what is
-- promised of whatever comes back, a named type for each sentence; the public function's contract is that record. Then the promises over
-- many calls and undos.
-- Each has its proof in a file beside this one. What is given is a value of its type (OfTypes, IsRecord, AreBytes) and nothing more.
use Rattle.std.specs.Prelude.{ℕ, suc, ◌+◌, ◌≤◌, ◌<◌, ◌≡◌, Bool, true, false, List, [], ◌++◌, ◌↔◌, ◌⊎◌, length, get_or, take, drop}
use Rattle.spec_kernel.specs.declared.records.Kernel.{Kernel}
use Rattle.spec_kernel.specs.Records.{fresh}
use Rattle.spec_kernel.specs.Runner.{first_ready}
use Rattle.spec_rules.specs.Rules.{Rules}
use Rattle.spec_rules.specs.Tests.{keeps_rules}
use Rattle.spec_calls.specs.Calls.{call_of}
use Rattle.spec_moves.specs.States.{with_runner}
use Rattle.spec_laws.specs.Laws.{law_of}
use Rattle.spec_notes.specs.Within.{OfTypes}
use Rattle.spec_notes.specs.Counts.{Differ, most_bytes}
use Rattle.spec_notes.specs.Undo.{last_note, Yields}
use Rattle.spec_answers.specs.declared.Logged.{Logged}
use Rattle.spec_answers.specs.declared.Reached.{Reached}
use Rattle.spec_answers.specs.Steps.{answer, called}
use Rattle.spec_answers.specs.Logs.{logged, note_for, recorded, log_after, called_with, log_called, part_called, numbers_of}
use Rattle.spec_answers.specs.Logs.{undone_kept, undone, reached, last_given, undone_many}
use Rattle.spec_answers.specs.Runs.{Undamaged, AreRecords, replayed, notes, back_times, Run, Follows, Step, AreSteps, after_all}
use Rattle.spec_answers.specs.Runs.{counted, after_calls, accepted_of, accepted_from, led_back, stood_at, undone_times}

-- ---- Demand 1: whatever sixteen bytes come as a call, on whatever state and with whatever log, they are answered.
-- 14 exactly where the state breaks a state rule [01, table: number 14].
unfoldable pub BrokenIsRefused : Kernel → Logged → Type 0
BrokenIsRefused k r = (r.answer.number ≡ 14) ↔ (Rules k → ⊥)

-- The test of the rules, which the table's first condition asks, passes exactly where the state keeps them.
unfoldable pub TestedExactly : Kernel → Type 0
TestedExactly k = (keeps_rules k ≡ true) ↔ Rules k

-- Each number under its own condition, neither more nor less: that of entry i is given exactly when its condition holds and none before it
-- does. The table is `numbers_of`, all fourteen that a call can get [01, answers 4].
unfoldable pub RefusedExactly : List (ℕ × Bool) → Logged → Type 0
RefusedExactly table r =
    (i : ℕ) → i < length table
    → (r.answer.number ≡ (get_or table i (0, false)).0)
    ↔ (((get_or table i (0, false)).1 ≡ true) × ((j : ℕ) → j < i → (get_or table j (0, false)).1 ≡ false))

-- Accepted exactly when no condition holds [01, table: number 0].
unfoldable pub AcceptedExactly : List (ℕ × Bool) → Logged → Type 0
AcceptedExactly table r = (r.answer.number ≡ 0) ↔ ((i : ℕ) → (get_or table i (0, false)).1 ≡ false)

-- A refusal leaves the state, the used length and every byte of the log; its value is 255, and the same thread runs, but number 14 shows
-- 255 for the runner too [01, answers 2, 3].
unfoldable pub RefusalChangesNothing : Kernel → List ℕ → ℕ → Logged → List ℕ → Type 0
RefusalChangesNothing k log used r log' =
    (r.answer.number ≡ 0 → ⊥)
    → (r.kernel ≡ k) × (r.used ≡ used) × (log' ≡ log) × (r.answer.value ≡ 255)
    × ((r.answer.number ≡ 14 → ⊥) → r.answer.runner ≡ k.runner) × (r.answer.number ≡ 14 → r.answer.runner ≡ 255)

-- ---- Demand 2: what each accepted call, tick and interrupt makes of the state, what it answers, and who runs then.
-- What its kind does and answers: the kind's law, between the state before, the value and the state after (spec_laws, which uses no
-- definition of the effects). Who runs is the scheduler's, below: the law is said of the next state with whoever ran before [01, calls].
unfoldable pub KindDoes : Kernel → List ℕ → Logged → Type 0
KindDoes k bytes r = r.answer.number ≡ 0 → law_of k (call_of bytes) r.answer.value (with_runner k.runner r.kernel)

-- The rules are kept by every call and every undo, accepted or refused, and every field stays within its type.
unfoldable pub RulesAreKept : Kernel → Logged → Type 0
RulesAreKept k r = Rules k → OfTypes r.kernel × Rules r.kernel

-- The answer names the running thread of the next state [01, answers 1].
unfoldable pub RunnerIsAnswered : Kernel → Logged → Type 0
RunnerIsAnswered k r = Rules k → r.answer.runner ≡ r.kernel.runner

-- Outside every region it is the first ready thread of the highest priority, or 255 for nobody [01, state 8.1].
unfoldable pub FirstReadyRuns : Kernel → Logged → Type 0
FirstReadyRuns k r = Rules k → r.kernel.unscheduled + r.kernel.critical ≡ 0 → r.kernel.runner ≡ first_ready r.kernel

-- Inside a region it stays who ran: only with both levels at 0 the scheduler chooses [01, calls: Regions 2].
unfoldable pub RunnerStaysInRegion : Kernel → Logged → Type 0
RunnerStaysInRegion k r = Rules k → 0 < r.kernel.unscheduled + r.kernel.critical → r.kernel.runner ≡ k.runner

-- ---- Demand 3, as far as a call has part in it: its note.
-- An accepted call puts its note behind the used part of the log, which has room for it; every other byte stays, the log is as long as it
-- was, and the used length moves by the note's [01, notes 1; answers 9].
unfoldable pub NoteIsWritten : Kernel → List ℕ → List ℕ → ℕ → Logged → List ℕ → Type 0
NoteIsWritten k bytes log used r log' =
    r.answer.number ≡ 0
    → (used + length (note_for k bytes) ≤ length log)
    × (log' ≡ take used log ++ (note_for k bytes ++ drop (used + length (note_for k bytes)) log)) × (length log' ≡ length log)
    × (r.used ≡ used + length (note_for k bytes))

-- A note has at most 96 + 24·T + 16·S + 16·M + 8·F bytes, where so many records of threads, semaphores, messages and flags are not equal
-- in the two states [01, notes 4; 02 §1].
unfoldable pub NotesAreShort : Kernel → List ℕ → Logged → Type 0
NotesAreShort k bytes r =
    r.answer.number ≡ 0
    → ((T : ℕ) × (S : ℕ) × (M : ℕ) × (F : ℕ) × Differ k r.kernel T S M F × (length (note_for k bytes) ≤ most_bytes T S M F))

-- ---- What is promised of a call on a state, with a log of which so much is used: r comes back, and log' is what the log holds then.
pub record Answered (k : Kernel) (bytes log : List ℕ) (used : ℕ) (r : Logged) (log' : List ℕ) : Type 0 where
  -- one result, and one log: the definition's
  pub result : r ≡ called_with k bytes log used
  pub written : log' ≡ log_called k bytes log used
  -- which number
  pub broken_is_refused : BrokenIsRefused k r
  pub tested_exactly : TestedExactly k
  pub refused_exactly : RefusedExactly (numbers_of k bytes log used) r
  pub accepted_exactly : AcceptedExactly (numbers_of k bytes log used) r
  -- refused
  pub refusal_changes_nothing : RefusalChangesNothing k log used r log'
  -- the next state, the value, and who runs
  pub kind_does : KindDoes k bytes r
  pub rules_are_kept : RulesAreKept k r
  pub runner_is_answered : RunnerIsAnswered k r
  pub first_ready_runs : FirstReadyRuns k r
  pub runner_stays_in_region : RunnerStaysInRegion k r
  -- the note
  pub note_is_written : NoteIsWritten k bytes log used r log'
  pub notes_are_short : NotesAreShort k bytes r

-- The same call without the test of the rules, for a run whose states are known to keep them: on such a state all of this is promised
-- of it.
pub record AnsweredUntested (k : Kernel) (bytes log : List ℕ) (used : ℕ) (r : Logged) (log' : List ℕ) : Type 0 where
  pub result : r ≡ recorded k bytes log used
  pub written : log' ≡ log_after k bytes log used
  pub answered : Rules k → Answered k bytes log used r log'

-- The part of the log that an append hands back: the note where the call is accepted, and on a refusal a part of length 0 [01, notes 5].
pub record Appended (k : Kernel) (bytes log : List ℕ) (used : ℕ) (part : List ℕ) : Type 0 where
  pub result : part ≡ part_called k bytes log used
  pub note_is_handed_back : (called_with k bytes log used).answer.number ≡ 0 → part ≡ note_for k bytes
  pub refused_is_empty : ((called_with k bytes log used).answer.number ≡ 0 → ⊥) → length part ≡ 0

-- ---- Demand 3: an undo of the last note, on any state with any log.
-- 0 exactly where some earlier state and a call yield this end state with this last note [01, table: number 15].
unfoldable pub UndoneExactly : Kernel → List ℕ → ℕ → Logged → Type 0
UndoneExactly k log used r = (r.answer.number ≡ 0) ↔ ((before : Kernel) × (bytes : List ℕ) × Yields before bytes k (last_note log used))

-- It then gives that state and who ran in it, value 255, and what was used of the log before the note [01, answers 8].
unfoldable pub UndoneIsThat : Kernel → List ℕ → ℕ → Logged → Type 0
UndoneIsThat k log used r =
    (before : Kernel) (bytes : List ℕ) → Yields before bytes k (last_note log used)
    → (r.answer ≡ answer 0 255 before.runner) × (r.kernel ≡ before) × (r.used + length (last_note log used) ≡ used)

-- Where there are none it is 15, with value 255; the state, who runs and the used length stay [01, answers 2, 3, 5].
unfoldable pub UndoRefused : Kernel → List ℕ → ℕ → Logged → Type 0
UndoRefused k log used r =
    Rules k → ((before : Kernel) (bytes : List ℕ) → Yields before bytes k (last_note log used) → ⊥)
    → r ≡ logged (answer 15 255 k.runner) k used

-- So it is on an undamaged state where the log is empty, and where more is said to be used than the log has [01, answers 6, 7].
unfoldable pub NothingToUndo : Kernel → List ℕ → ℕ → Logged → Type 0
NothingToUndo k log used r = Rules k → (used ≡ 0) ⊎ (length log < used) → r ≡ logged (answer 15 255 k.runner) k used

-- A state that breaks a rule is left as it is, with 255 for the value and for the runner [01, answers 2, 3].
unfoldable pub BrokenIsLeft : Kernel → ℕ → Logged → Type 0
BrokenIsLeft k used r = (Rules k → ⊥) → r ≡ logged (answer 14 255 255) k used

-- What is promised of it; the log is lent for reading, so that its bytes stay [01, answers 8].
pub record Undone (k : Kernel) (log : List ℕ) (used : ℕ) (r : Logged) : Type 0 where
  pub result : r ≡ undone k log used
  pub broken_is_refused : BrokenIsRefused k r
  pub broken_is_left : BrokenIsLeft k used r
  pub undone_exactly : UndoneExactly k log used r
  pub undone_is_that : UndoneIsThat k log used r
  pub undo_refused : UndoRefused k log used r
  pub nothing_to_undo : NothingToUndo k log used r
  pub rules_are_kept : RulesAreKept k r

-- The same undo without the test of the rules, as a run of undos needs it: each state that an undo gives keeps them again.
pub record UndoneUntested (k : Kernel) (log : List ℕ) (used : ℕ) (r : Logged) : Type 0 where
  pub result : r ≡ undone_kept k log used
  pub promised : Rules k → Undone k log used r

-- ---- Demand 3: the last n notes undone in one call, on any state with any log. It is n single undos, one after the other, up to the first
-- that is refused; `undone_times j` is what the last of j single ones gives.
-- A state that breaks a rule is left as it is, and no note is undone.
unfoldable pub BrokenUndoesNone : Kernel → ℕ → Reached → Type 0
BrokenUndoesNone k used r = (Rules k → ⊥) → r ≡ reached (logged (answer 14 255 255) k used) 0

-- Of the single undos as many as it says answer 0.
unfoldable pub EachIsUndone : Run → Reached → Type 0
EachIsUndone start r = (i : ℕ) → i < r.undone → (undone_times (suc i) start).answer.number ≡ 0

-- It answers 0 only where all n are undone, and gives what the last of them gives.
unfoldable pub AllAreUndone : ℕ → Run → Reached → Type 0
AllAreUndone n start r = Rules start.kernel → r.answer.number ≡ 0 → r ≡ reached (undone_times n start) n

-- Else it is 15, fewer than n are undone, and it gives what the next one gives, which is refused.
unfoldable pub StopsAtRefusal : ℕ → Run → Reached → Type 0
StopsAtRefusal n start r =
    Rules start.kernel → (r.answer.number ≡ 0 → ⊥)
    → (r.answer.number ≡ 15) × (r.undone < n) × (r ≡ reached (undone_times (suc r.undone) start) r.undone)

pub record UndoneMany (n : ℕ) (k : Kernel) (log : List ℕ) (used : ℕ) (r : Reached) : Type 0 where
  pub result : r ≡ undone_many n k log used
  pub broken_is_refused : BrokenIsRefused k (last_given r)
  pub broken_undoes_none : BrokenUndoesNone k used r
  pub each_is_undone : EachIsUndone (record { kernel = k; log = log; used = used }) r
  pub all_are_undone : AllAreUndone n (record { kernel = k; log = log; used = used }) r
  pub stops_at_refusal : StopsAtRefusal n (record { kernel = k; log = log; used = used }) r
  pub rules_are_kept : RulesAreKept k (last_given r)

-- ---- Two results that a contract allows are equal, and so are the two logs [01, promises 2].
unfoldable pub OneResult : Type 0
OneResult =
    (k : Kernel) (bytes log : List ℕ) (used : ℕ) (r s : Logged) (l m : List ℕ)
    → Answered k bytes log used r l → Answered k bytes log used s m → (r ≡ s) × (l ≡ m)

-- the parts too, as far as their bytes go
unfoldable pub OnePart : Type 0
OnePart = (k : Kernel) (bytes log : List ℕ) (used : ℕ) (p q : List ℕ) → Appended k bytes log used p → Appended k bytes log used q → p ≡ q

unfoldable pub OneUndo : Type 0
OneUndo = (k : Kernel) (log : List ℕ) (used : ℕ) (r s : Logged) → Undone k log used r → Undone k log used s → r ≡ s

unfoldable pub OneReached : Type 0
OneReached =
    (n : ℕ) (k : Kernel) (log : List ℕ) (used : ℕ) (r s : Reached) → UndoneMany n k log used r → UndoneMany n k log used s → r ≡ s

-- ---- Where runs begin: the fresh state keeps the rules, and each field its type [01, modelled 6].
unfoldable pub FreshIsUndamaged : Type 0
FreshIsUndamaged = Undamaged fresh

-- ---- Demand 3 over many calls and undos, whatever the lent log holds and however much of it is used; Runs says what "follows" means.
-- A replay is said without a log (Steps.called): with one, each answer and its state are the same, but for number 13.
unfoldable pub AnsweredAlike : Type 0
AnsweredAlike =
    (k : Kernel) (bytes log : List ℕ) (used : ℕ) → ((called_with k bytes log used).answer.number ≡ 13 → ⊥)
    → ((called_with k bytes log used).answer ≡ (called k bytes).answer) × ((called_with k bytes log used).kernel ≡ (called k bytes).kernel)

-- Whatever calls come, on whatever state, the run follows those of them that are accepted, and all of their notes are kept.
unfoldable pub RunsFollow : Type 0
RunsFollow =
    (start : Run) (records : List (List ℕ)) → AreRecords records
    → Follows start [] (accepted_of start records) (after_calls start records)

-- Whatever calls came, accepted or refused, on a state that keeps the rules: to undo the last j of their notes answers 0, value 255 and who
-- ran then, and gives the very state and used length that the run had when it had followed all accepted calls but the last j.
unfoldable pub LogLeadsBack : Type 0
LogLeadsBack =
    (start : Run) (records : List (List ℕ)) (j : ℕ) → Undamaged start.kernel → AreRecords records
    → j ≤ length (accepted_of start records)
    → (let r = after_calls start records in
    undone_times j r ≡ led_back (stood_at start [] (drop j (accepted_of start records)) r.log))

-- In one call too, which then says that j were undone.
unfoldable pub LogLeadsBackAtOnce : Type 0
LogLeadsBackAtOnce =
    (start : Run) (records : List (List ℕ)) (j : ℕ) → Undamaged start.kernel → AreRecords records
    → j ≤ length (accepted_of start records)
    → (let r = after_calls start records in
    undone_many j r.kernel r.log r.used ≡ reached (led_back (stood_at start [] (drop j (accepted_of start records)) r.log)) j)

-- The same, said of the run as it stood between two calls: to undo as many notes as of the later ones were accepted leads there.
unfoldable pub LedBetween : Type 0
LedBetween =
    (start : Run) (earlier later : List (List ℕ)) → Undamaged start.kernel → AreRecords earlier → AreRecords later
    → (let between = after_calls start earlier in
    undone_times (length (accepted_of between later)) (after_calls between later) ≡ led_back between)

-- Without a log: whatever calls came, accepted or refused, the last j notes lead back to the very state before the last j accepted ones.
unfoldable pub NotesLeadBack : Type 0
NotesLeadBack =
    (k : Kernel) (records : List (List ℕ)) (j : ℕ) → Undamaged k → AreRecords records
    → (let calls = accepted_from k [] records in
    back_times j (replayed k calls) (notes k calls) ≡ replayed k (drop j calls))

-- From an empty log, after any mix of calls and undos, refused ones too, the run follows the calls that were accepted and not undone.
unfoldable pub AnyMix : Type 0
AnyMix =
    (start : Run) (steps : List Step) → Undamaged start.kernel → start.used ≡ 0 → AreSteps steps
    → Follows start [] (counted [] start steps) (after_all start steps)
