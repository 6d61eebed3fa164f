-- What is promised of a call with a log and of the part that it wrote: a line for each type of Promises, and the records of them.
use Prim.Native.Nat.{ℕ, ◌+◌, ◌≤◌, ◌<◌}
use mathlib.Core.Path.{◌≡◌, refl, sym, ap, ◌∙◌}
use mathlib.Core.Bool.{true, false, not, cond, false≢true}
use mathlib.Core.Logic.{◌↔◌}
use mathlib.Core.List.{List, [], ◌∷◌}
use native.Mathlib.Omega.{arith}
use lib.Dec.{eqb}
use lib.ListN.{length}
use borrow.Author.Tests.{eqb-true, eqb-false, eq-eqb, ne_eqb, leb-true}
use borrow.Table.Steps.{cases}
use Rattle.base_bytes.specs.Logs.{room, with_note, noted, shown}
use Rattle.base_bytes.proofs.Appending.{noted_room, noted_length}
use Rattle.spec_kernel.specs.declared.records.Kernel.{Kernel}
use Rattle.spec_rules.specs.Rules.{Rules, FirstRuns}
use Rattle.spec_rules.specs.Tests.{keeps_rules}
use Rattle.spec_rules.proofs.Exactly.{rules_mean, rules_hold}
use Rattle.spec_calls.specs.declared.call.Call.{Call}
use Rattle.spec_calls.specs.Calls.{call_of}
use Rattle.spec_refusals.specs.Refusals.{refusals, first_that_applies, number_of}
use Rattle.spec_refusals.specs.Named.{value_of}
use Rattle.spec_refusals.proofs.TableOrder.{lacks_first, first_exactly, none_exactly, first_append}
use Rattle.spec_moves.specs.States.{scheduled, with_runner}
use Rattle.spec_laws.specs.Laws.{law_of}
use Rattle.spec_effects.specs.Effects.{effect}
use Rattle.spec_effects.proofs.RulesKept.{rules_kept}
use Rattle.spec_effects.proofs.LawsKept.{laws_kept}
use Rattle.spec_notes.specs.Within.{OfTypes}
use Rattle.spec_notes.specs.Counts.{Differ, most_bytes}
use Rattle.spec_notes.proofs.Counting.{threads_differ, semaphores_differ, messages_differ, flags_differ}
use Rattle.spec_notes.proofs.Lengths.{note_short}
use Rattle.spec_notes.proofs.Differing.{differ}
use Rattle.spec_notes.proofs.Yields.{call_within}
use Rattle.spec_notes.proofs.WithinKept.{within_kept}
use Rattle.spec_answers.specs.declared.Logged.{Logged}
use Rattle.spec_answers.specs.Steps.{Stepped, answer, accepted, refused, step, called}
use Rattle.spec_answers.specs.Logs.{logged, state_after, note_for, recorded, log_after}
use Rattle.spec_answers.specs.Logs.{part_after, called_with, log_called, part_called, numbers_of}
use Rattle.spec_answers.specs.Runs.{IsRecord}
use Rattle.spec_answers.specs.Promises.{BrokenIsRefused, TestedExactly, RefusedExactly, AcceptedExactly, RefusalChangesNothing}
use Rattle.spec_answers.specs.Promises.{KindDoes, RulesAreKept, RunnerIsAnswered, FirstReadyRuns, RunnerStaysInRegion}
use Rattle.spec_answers.specs.Promises.{NoteIsWritten, NotesAreShort, Answered, AnsweredUntested, Appended}
use Rattle.spec_answers.specs.Promises.{OneResult, OnePart, AnsweredAlike}
use Rattle.spec_answers.proofs.RunnerStays.{effect_runner}

-- 14 is none of the twelve numbers that the state and the call decide
never_14 : (k : Kernel) (c : Call) → number_of k c ≡ 14 → ⊥
unfolding number_of
never_14 k c = lacks_first 14 (refusals k c) refl (λ z. omega arith)

-- but for who runs the next state is what the call's kind makes of the state
leaves_runner : (k : Kernel) (c : Call) → with_runner k.runner (scheduled (effect k c)) ≡ effect k c
unfolding scheduled
leaves_runner k c = ap (λ t. with_runner t (effect k c)) (sym (effect_runner k c))

-- ---- a log with a note behind its used part
pub with_length : (log : List ℕ) (used : ℕ) (note : List ℕ) → used + length note ≤ length log → length (with_note log used note) ≡ length log
with_length log used note h = rw (← noted_room log used note h) (noted_length log used note)

-- ---- a call with a log: what comes back, the log, the part, and what comes back without a log
module _ (k : Kernel) (bytes log : List ℕ) (used : ℕ) where
  abbrev number : ℕ
  number = number_of k (call_of bytes)

  abbrev note : List ℕ
  note = note_for k bytes

  abbrev given : Logged
  given = called_with k bytes log used

  abbrev log' : List ℕ
  log' = log_called k bytes log used

  abbrev part : List ℕ
  part = part_called k bytes log used

  module _ (P : Logged → List ℕ → List ℕ → Stepped → Type 0) where
    -- the next state and the note behind the used part
    abbrev Written : Type 0
    Written =
        P (logged (answer 0 (value_of k (call_of bytes)) (state_after k bytes).runner) (state_after k bytes) (used + length note))
        (with_note log used note) note (accepted k (call_of bytes))

    -- the same state and the same log
    abbrev Left : ℕ → Stepped → Type 0
    Left n s = P (logged (answer n 255 k.runner) k used) log [] s

    -- on a state that keeps the rules a call is accepted, or finds no room, or is refused
    one_of_three : (number ≡ 0 → room log used note ≡ true → Written)
        → (number ≡ 0 → room log used note ≡ false → Left 13 (accepted k (call_of bytes)))
        → ((number ≡ 0 → ⊥) → Left number (refused number k))
        → P (recorded k bytes log used) (log_after k bytes log used) (part_after k bytes log used) (step k (call_of bytes))
    unfolding recorded log_after part_after step noted shown
    one_of_three a f n =
        cases (eqb number 0)
        (λ e. let z = eqb-true number 0 e in cases (room log used note) (λ b. rw (e, b) (a z b)) (λ b. rw (e, b) (f z b)))
        (λ e. rw e (n (eqb-false number 0 e)))

    -- or the state breaks a rule
    pub one_of_four : (keeps_rules k ≡ true → number ≡ 0 → room log used note ≡ true → Written)
        → (keeps_rules k ≡ true → number ≡ 0 → room log used note ≡ false → Left 13 (accepted k (call_of bytes)))
        → (keeps_rules k ≡ true → (number ≡ 0 → ⊥) → Left number (refused number k))
        → (keeps_rules k ≡ false → P (logged (answer 14 255 255) k used) log [] (record { answer = answer 14 255 255; kernel = k }))
        → P given log' part (called k bytes)
    unfolding called_with log_called part_called called
    one_of_four a f n b = cases (keeps_rules k) (λ e. rw e (one_of_three (a e) (f e) (n e))) (λ e. rw e (b e))

  -- ---- which number
  -- on a state that keeps the rules 14 isn't given, and 13 where the twelve don't apply
  first_of_kept : keeps_rules k ≡ true
      → first_that_applies (numbers_of k bytes log used) ≡ cond (eqb number 0) (cond (not (room log used note)) 13 0) number
  unfolding number_of
  first_of_kept e = rw e (first_append (refusals k (call_of bytes)) ((13, not (room log used note)) ∷ []) refl)

  -- the number of the answer is the first of the table that applies
  number_first : given.answer.number ≡ first_that_applies (numbers_of k bytes log used)
  number_first =
      one_of_four (λ x _ _ _. x.answer.number ≡ first_that_applies (numbers_of k bytes log used))
      (λ e n b. rw (first_of_kept e, eq-eqb number 0 n, b)) (λ e n b. rw (first_of_kept e, eq-eqb number 0 n, b))
      (λ e n. rw (first_of_kept e, ne_eqb number 0 n)) (λ e. rw e)

  refused_exactly_lem : RefusedExactly (numbers_of k bytes log used) given
  unfolding RefusedExactly
  refused_exactly_lem i h = rw number_first (first_exactly (numbers_of k bytes log used) refl i h)

  accepted_exactly_lem : AcceptedExactly (numbers_of k bytes log used) given
  unfolding AcceptedExactly
  accepted_exactly_lem = rw number_first (none_exactly (numbers_of k bytes log used) refl)

  refusal_changes_nothing_lem : RefusalChangesNothing k log used given log'
  unfolding RefusalChangesNothing
  refusal_changes_nothing_lem =
      one_of_four
      (λ x l _ _. (x.answer.number ≡ 0 → ⊥)
      → (x.kernel ≡ k) × (x.used ≡ used) × (l ≡ log) × (x.answer.value ≡ 255)
      × ((x.answer.number ≡ 14 → ⊥) → x.answer.runner ≡ k.runner) × (x.answer.number ≡ 14 → x.answer.runner ≡ 255))
      (λ _ _ _ n. absurd (n refl))
      (λ _ _ _ _. (refl, refl, refl, refl, λ _. refl, λ z. absurd (omega arith)))
      (λ _ _ _. (refl, refl, refl, refl, λ _. refl, λ z. absurd (never_14 k (call_of bytes) z)))
      (λ _ _. (refl, refl, refl, refl, λ n. absurd (n refl), λ _. refl))

  note_is_written_lem : NoteIsWritten k bytes log used given log'
  unfolding NoteIsWritten
  note_is_written_lem =
      one_of_four
      (λ x l _ _. x.answer.number ≡ 0
      → (used + length note ≤ length log) × (l ≡ with_note log used note) × (length l ≡ length log) × (x.used ≡ used + length note))
      (λ _ _ b _. let h = leb-true (used + length note) (length log) b in (h, refl, with_length log used note h, refl))
      (λ _ _ _ z. absurd (omega arith)) (λ _ n z. absurd (n z)) (λ _ z. absurd (omega arith))

  -- nor is 16, which belongs to images
  pub never_16 : given.answer.number ≡ 16 → ⊥
  unfolding number_of
  never_16 =
      one_of_four (λ x _ _ _. x.answer.number ≡ 16 → ⊥) (λ _ _ _ z. omega arith) (λ _ _ _ z. omega arith)
      (λ _ _. lacks_first 16 (refusals k (call_of bytes)) refl (λ z. omega arith)) (λ _ z. omega arith)

  -- ---- with what the types give
  module _ (T : OfTypes k) where
    tested_exactly_lem : TestedExactly k
    unfolding TestedExactly
    tested_exactly_lem = (rules_mean k T.sized, rules_hold k T.sized)

    broken_is_refused_lem : BrokenIsRefused k given
    unfolding BrokenIsRefused
    broken_is_refused_lem =
        let Z = T.sized in
        one_of_four (λ x _ _ _. (x.answer.number ≡ 14) ↔ (Rules k → ⊥))
        (λ e _ _. (λ z. absurd (omega arith), λ n. absurd (n (rules_mean k Z e))))
        (λ e _ _. (λ z. absurd (omega arith), λ n. absurd (n (rules_mean k Z e))))
        (λ e _. (λ z. absurd (never_14 k (call_of bytes) z), λ n. absurd (n (rules_mean k Z e))))
        (λ e. (λ _ R. false≢true (sym e ∙ rules_hold k Z R), λ _. refl))

    runner_is_answered_lem : RunnerIsAnswered k given
    unfolding RunnerIsAnswered
    runner_is_answered_lem =
        one_of_four (λ x _ _ _. Rules k → x.answer.runner ≡ x.kernel.runner)
        (λ _ _ _ _. refl) (λ _ _ _ _. refl) (λ _ _ _. refl) (λ e R. absurd (false≢true (sym e ∙ rules_hold k T.sized R)))

    runner_stays_in_region_lem : RunnerStaysInRegion k given
    unfolding RunnerStaysInRegion scheduled
    runner_stays_in_region_lem =
        let n = effect k (call_of bytes) in
        one_of_four (λ x _ _ _. Rules k → 0 < x.kernel.unscheduled + x.kernel.critical → x.kernel.runner ≡ k.runner)
        (λ _ _ _ _ b. rw (ne_eqb (n.unscheduled + n.critical) 0 (λ z. omega arith)) (effect_runner k (call_of bytes)))
        (λ _ _ _ _ _. refl) (λ _ _ _ _. refl) (λ _ _ _. refl)

    kind_does_lem : KindDoes k bytes given
    unfolding KindDoes
    kind_does_lem =
        let c = call_of bytes in
        one_of_four (λ x _ _ _. x.answer.number ≡ 0 → law_of k c x.answer.value (with_runner k.runner x.kernel))
        (λ e n _ _. rw (leaves_runner k c)
        (laws_kept k c T.sized (rules_mean k T.sized e) T.within.unscheduled T.within.critical n))
        (λ _ _ _ z. absurd (omega arith)) (λ _ n z. absurd (n z)) (λ _ z. absurd (omega arith))

    module _ (B : IsRecord bytes) where
      rules_are_kept_lem : RulesAreKept k given
      unfolding RulesAreKept
      rules_are_kept_lem =
          let Z = T.sized in
          let c = call_of bytes in
          one_of_four (λ x _ _ _. Rules k → OfTypes x.kernel × Rules x.kernel)
          (λ _ n _ R. let (Z', R') = rules_kept k c Z R n in
          (record { sized = Z'; within = within_kept k c Z R T.within (call_within bytes B.1) n }, R'))
          (λ _ _ _ R. (T, R)) (λ _ _ R. (T, R)) (λ _ R. (T, R))

      first_ready_runs_lem : FirstReadyRuns k given
      unfolding FirstReadyRuns RulesAreKept FirstRuns
      first_ready_runs_lem R = (rules_are_kept_lem R).1.first_runs

      notes_are_short_lem : NotesAreShort k bytes given
      unfolding NotesAreShort note_for
      notes_are_short_lem =
          one_of_four
          (λ x _ _ _. x.answer.number ≡ 0
          → ((T : ℕ) × (S : ℕ) × (M : ℕ) × (F : ℕ) × Differ k x.kernel T S M F × (length note ≤ most_bytes T S M F)))
          (λ e n _ _. let Z = T.sized in
          let R = rules_mean k Z e in
          let k' = state_after k bytes in
          let (Z', R') = rules_kept k (call_of bytes) Z R n in
          (threads_differ k k', semaphores_differ k k', messages_differ k k', flags_differ k k', differ k k', note_short k bytes B.0 Z R n))
          (λ _ _ _ z. absurd (omega arith)) (λ _ n z. absurd (n z)) (λ _ z. absurd (omega arith))

-- ---- the promises
pub answers : (k : Kernel) (bytes log : List ℕ) (used : ℕ) → OfTypes k → IsRecord bytes
    → Answered k bytes log used (called_with k bytes log used) (log_called k bytes log used)
answers k bytes log used T B =
    record {
      result = refl;
      written = refl;
      broken_is_refused = broken_is_refused_lem k bytes log used T;
      tested_exactly = tested_exactly_lem k bytes log used T;
      refused_exactly = refused_exactly_lem k bytes log used;
      accepted_exactly = accepted_exactly_lem k bytes log used;
      refusal_changes_nothing = refusal_changes_nothing_lem k bytes log used;
      kind_does = kind_does_lem k bytes log used T;
      rules_are_kept = rules_are_kept_lem k bytes log used T B;
      runner_is_answered = runner_is_answered_lem k bytes log used T;
      first_ready_runs = first_ready_runs_lem k bytes log used T B;
      runner_stays_in_region = runner_stays_in_region_lem k bytes log used T;
      note_is_written = note_is_written_lem k bytes log used;
      notes_are_short = notes_are_short_lem k bytes log used T B;
    }

pub answers_untested : (k : Kernel) (bytes log : List ℕ) (used : ℕ) → OfTypes k → IsRecord bytes
    → AnsweredUntested k bytes log used (recorded k bytes log used) (log_after k bytes log used)
unfolding called_with log_called
answers_untested k bytes log used T B =
    record { result = refl; written = refl; answered = λ R. rw (rules_hold k T.sized R) at (answers k bytes log used T B) }

-- so a state that keeps the rules is followed by one that does
pub rules_go_on : {k : Kernel} {bytes log : List ℕ} {used : ℕ} {r : Logged} {log' : List ℕ}
    → AnsweredUntested k bytes log used r log' → Rules k → Rules r.kernel
unfolding RulesAreKept
rules_go_on A R = ((A.answered R).rules_are_kept R).1

pub appends : (k : Kernel) (bytes log : List ℕ) (used : ℕ) → Appended k bytes log used (part_called k bytes log used)
appends k bytes log used =
    record {
      result = refl;
      note_is_handed_back =
          one_of_four k bytes log used (λ x _ p _. x.answer.number ≡ 0 → p ≡ note_for k bytes)
          (λ _ _ _ _. refl) (λ _ _ _ z. absurd (omega arith)) (λ _ n z. absurd (n z)) (λ _ z. absurd (omega arith));
      refused_is_empty =
          one_of_four k bytes log used (λ x _ p _. (x.answer.number ≡ 0 → ⊥) → length p ≡ 0)
          (λ _ _ _ n. absurd (n refl)) (λ _ _ _ _. refl) (λ _ _ _. refl) (λ _ _. refl);
    }

pub one_result : OneResult
unfolding OneResult
one_result k bytes log used r s l m A B = (A.result ∙ sym B.result, A.written ∙ sym B.written)

pub one_part : OnePart
unfolding OnePart
one_part k bytes log used p q A B = A.result ∙ sym B.result

pub answered_alike : AnsweredAlike
unfolding AnsweredAlike
answered_alike k bytes log used =
    one_of_four k bytes log used
    (λ x _ _ s. (x.answer.number ≡ 13 → ⊥) → (x.answer ≡ s.answer) × (x.kernel ≡ s.kernel))
    (λ _ _ _ _. (refl, refl)) (λ _ _ _ n. absurd (n refl)) (λ _ _ _. (refl, refl)) (λ _ _. (refl, refl))
