-- What is promised of one undo: a line for each type of Promises, and the record of them.
use Prim.Native.Nat.{ℕ, ◌-◌, ◌≤◌, ◌<◌}
use mathlib.Core.Path.{◌≡◌, refl, sym, ap, ◌∙◌}
use mathlib.Core.Bool.{Bool, true, false, and-eq-true_iff, false≢true}
use mathlib.Core.List.{List}
use mathlib.Core.Logic.{◌↔◌, ⊎_elim}
use native.Mathlib.Omega.{arith}
use lib.ListN.{length}
use borrow.Author.Tests.{leb-true}
use borrow.Table.Steps.{cases}
use Rattle.spec_kernel.specs.declared.records.Kernel.{Kernel}
use Rattle.spec_rules.specs.Rules.{Rules}
use Rattle.spec_rules.specs.Tests.{keeps_rules}
use Rattle.spec_rules.proofs.Exactly.{rules_mean, rules_hold}
use Rattle.spec_notes.specs.Within.{OfTypes, AreBytes}
use Rattle.spec_notes.specs.Undo.{last_length, has_last, last_note, Yields}
use Rattle.spec_notes.specs.Undoes.{undoes}
use Rattle.spec_notes.proofs.Yields.{yields_kept}
use Rattle.spec_notes.proofs.UndoingKept.{undoes_kept_lem}
use Rattle.spec_notes.proofs.Undoing.{state_found, last_sizes, yields_last, yields_undoes, undo_exactly}
use Rattle.spec_answers.specs.declared.Answer.{Answer}
use Rattle.spec_answers.specs.declared.Logged.{Logged}
use Rattle.spec_answers.specs.Steps.{answer}
use Rattle.spec_answers.specs.Logs.{logged, back_at, undone_if, undone_kept, undone}
use Rattle.spec_answers.specs.Promises.{BrokenIsRefused, BrokenIsLeft, UndoneExactly, UndoneIsThat, UndoRefused, NothingToUndo}
use Rattle.spec_answers.specs.Promises.{RulesAreKept, Undone, UndoneUntested, OneUndo}

module _ (k : Kernel) (log : List ℕ) (used : ℕ) where
  -- the last note is undone, or it isn't, or the state breaks a rule
  pub one_of_three : (P : Logged → Type 0)
      → (keeps_rules k ≡ true → undoes k log used ≡ true
      → P (logged (answer 0 255 (back_at k log used).runner) (back_at k log used) (used - last_length log used)))
      → (keeps_rules k ≡ true → undoes k log used ≡ false → P (logged (answer 15 255 k.runner) k used))
      → (keeps_rules k ≡ false → P (logged (answer 14 255 255) k used))
      → P (undone k log used)
  unfolding undone
  one_of_three P a f b =
      cases (keeps_rules k)
      (λ e. cases (undoes k log used) (λ u. rw (e, u) (a e u)) (λ u. rw (e, u) (f e u))) (λ e. rw e (b e))

  -- where it isn't, on a state that keeps its rules
  pub not_undone : keeps_rules k ≡ true → undoes k log used ≡ false → undone k log used ≡ logged (answer 15 255 k.runner) k used
  unfolding undone
  not_undone e u = rw (e, u)

  -- where it is, what comes back says who runs in the earlier state
  pub led_back_lem : (b : Bool) (r : Logged) → r ≡ undone_if b k log used → r.answer.number ≡ 0
      → r ≡ logged (answer 0 255 r.kernel.runner) r.kernel r.used
  led_back_lem true r e = rw e (λ _. refl)
  led_back_lem false r e = rw e (λ z. absurd (omega arith))

  -- a last note is there only where something is used, and no more than the log has
  last_there : has_last log used ≡ true → (0 < used) × (used ≤ length log)
  unfolding has_last
  last_there h =
      let (((a, b), _), _) = simp and-eq-true_iff at h in
      let a' = leb-true 2 used a in
      (omega arith, leb-true used (length log) b)

  -- a state and a call that yield the last note with this state are found
  pub undone_is_that_lem : UndoneIsThat k log used (undone k log used)
  unfolding UndoneIsThat undone
  undone_is_that_lem before bytes Y =
      let (Z, R, _, _) = yields_kept Y in
      let s : back_at k log used ≡ before = state_found k (last_note log used) Y in
      let (n, _, b) = last_sizes log used (yields_last log used Y) in
      rw (rules_hold k Z R, yields_undoes log used Y, s) (refl, refl, rw n (omega arith))

  module _ (T : OfTypes k) where
    -- where it keeps its rules the note decides
    pub undone_if_lem : Rules k → undone k log used ≡ undone_if (undoes k log used) k log used
    unfolding undone
    undone_if_lem R = rw (rules_hold k T.sized R)

    broken_is_refused_lem : BrokenIsRefused k (undone k log used)
    unfolding BrokenIsRefused
    broken_is_refused_lem =
        let Z = T.sized in
        one_of_three (λ x. (x.answer.number ≡ 14) ↔ (Rules k → ⊥))
        (λ e _. (λ z. absurd (omega arith), λ n. absurd (n (rules_mean k Z e))))
        (λ e _. (λ z. absurd (omega arith), λ n. absurd (n (rules_mean k Z e))))
        (λ e. (λ _ R. false≢true (sym e ∙ rules_hold k Z R), λ _. refl))

    broken_is_left_lem : BrokenIsLeft k used (undone k log used)
    unfolding BrokenIsLeft
    broken_is_left_lem n =
        let Z = T.sized in
        one_of_three (λ x. x ≡ logged (answer 14 255 255) k used)
        (λ e _. absurd (n (rules_mean k Z e))) (λ e _. absurd (n (rules_mean k Z e))) (λ _. refl)

    module _ (B : AreBytes log) where
      -- and no test is needed, nor a look at what the note doesn't speak of
      pub undone_kept_lem : Rules k → undone k log used ≡ undone_kept k log used
      unfolding undone_kept
      undone_kept_lem R = undone_if_lem R ∙ ap (λ (b : Bool). undone_if b k log used) (sym (undoes_kept_lem log used k T.sized R T.within B))

      -- what is undone was yielded
      was_yielded : keeps_rules k ≡ true → undoes k log used ≡ true
          → ((before : Kernel) × (bytes : List ℕ) × Yields before bytes k (last_note log used))
      was_yielded e u = (undo_exactly log used k T.sized (rules_mean k T.sized e) T.within B).0 u

      undone_exactly_lem : UndoneExactly k log used (undone k log used)
      unfolding UndoneExactly UndoneIsThat
      undone_exactly_lem = (
        one_of_three (λ x. x.answer.number ≡ 0 → (before : Kernel) × (bytes : List ℕ) × Yields before bytes k (last_note log used))
            (λ e u _. was_yielded e u) (λ _ _ z. absurd (omega arith)) (λ _ z. absurd (omega arith)),
        λ y. ap (λ (x : Answer). x.number) (undone_is_that_lem y.0 y.1 y.2).0,
      )

      undo_refused_lem : UndoRefused k log used (undone k log used)
      unfolding UndoRefused
      undo_refused_lem R none =
          one_of_three (λ x. x ≡ logged (answer 15 255 k.runner) k used)
          (λ e u. let (b, bytes, Y) = was_yielded e u in absurd (none b bytes Y)) (λ _ _. refl)
          (λ e. absurd (false≢true (sym e ∙ rules_hold k T.sized R)))

      nothing_to_undo_lem : NothingToUndo k log used (undone k log used)
      unfolding NothingToUndo UndoRefused
      nothing_to_undo_lem R empty =
          undo_refused_lem R
          (λ before bytes Y. let (a, b) = last_there (yields_last log used Y) in ⊎_elim (λ z. omega arith) (λ z. omega arith) empty)

      -- the earlier state was the one before an accepted call, and such a one keeps the rules
      pub rules_are_kept_lem : RulesAreKept k (undone k log used)
      unfolding RulesAreKept
      rules_are_kept_lem R =
          one_of_three (λ x. OfTypes x.kernel × Rules x.kernel)
          (λ e u. let (_, _, Y) = was_yielded e u in
          rw (state_found k (last_note log used) Y) (record { sized = Y.sized; within = Y.inside }, Y.rules))
          (λ _ _. (T, R)) (λ _. (T, R))

-- ---- the promises
pub undoes_so : (k : Kernel) (log : List ℕ) (used : ℕ) → OfTypes k → AreBytes log → Undone k log used (undone k log used)
undoes_so k log used T B =
    record {
      result = refl;
      broken_is_refused = broken_is_refused_lem k log used T;
      broken_is_left = broken_is_left_lem k log used T;
      undone_exactly = undone_exactly_lem k log used T B;
      undone_is_that = undone_is_that_lem k log used;
      undo_refused = undo_refused_lem k log used T B;
      nothing_to_undo = nothing_to_undo_lem k log used T B;
      rules_are_kept = rules_are_kept_lem k log used T B;
    }

pub undoes_untested : (k : Kernel) (log : List ℕ) (used : ℕ) → OfTypes k → AreBytes log
    → UndoneUntested k log used (undone_kept k log used)
undoes_untested k log used T B =
    record { result = refl; promised = λ R. rw (undone_kept_lem k log used T B R) at (undoes_so k log used T B) }

-- so a state that keeps the rules is undone to one that does
pub rules_go_back : {k : Kernel} {log : List ℕ} {used : ℕ} {r : Logged} → UndoneUntested k log used r → Rules k → Rules r.kernel
unfolding RulesAreKept
rules_go_back U R = ((U.promised R).rules_are_kept R).1

pub one_undo : OneUndo
unfolding OneUndo
one_undo k log used r s A B = A.result ∙ sym B.result
