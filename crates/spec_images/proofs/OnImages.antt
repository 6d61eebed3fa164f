-- What is promised of a call and of an undo on an image.
use Prim.Native.Nat.{ℕ, ◌≤◌, ◌<◌}
use mathlib.Core.Path.{◌≡◌, refl, sym, ◌∙◌}
use mathlib.Core.Bool.{Bool, true, false, cond, and-eq-true_iff, false≢true}
use mathlib.Core.List.{List}
use native.Mathlib.Omega.{arith}
use lib.Dec.{eqb, leb}
use lib.ListN.{length, take}
use borrow.Author.Tests.{eqb-true, eqb-false, ne_eqb, leb-true, le-leb}
use borrow.Table.Steps.{cases}
use Rattle.base_rows.proofs.Fitted.{take_bytes}
use Rattle.spec_kernel.specs.declared.records.Kernel.{Kernel}
use Rattle.spec_rules.proofs.Exactly.{rules_hold}
use Rattle.spec_calls.specs.Kinds.{is_known}
use Rattle.spec_calls.specs.Calls.{call_of}
use Rattle.spec_refusals.specs.Refusals.{number_of, unknown}
use Rattle.spec_notes.specs.Within.{AreBytes}
use Rattle.spec_answers.specs.declared.Logged.{Logged}
use Rattle.spec_answers.specs.Steps.{answer}
use Rattle.spec_answers.specs.Logs.{recorded, called_with, log_called, undone}
use Rattle.spec_answers.specs.Promises.{RefusalChangesNothing, RulesAreKept}
use Rattle.spec_answers.proofs.WithLogs.{never_16, answers}
use Rattle.spec_answers.proofs.Undos as Undos
use Rattle.spec_answers.proofs.Undos.{undoes_so}
use Rattle.spec_answers.specs.Runs.{Undamaged, IsRecord}
use Rattle.spec_images.specs.declared.Stored.{Stored}
use Rattle.spec_images.specs.Images.{image_of, is_image}
use Rattle.spec_images.specs.OnImages.{fits, stored, holds_image, state_at, keeping, keeping_in, damaged}
use Rattle.spec_images.specs.OnImages.{called_on, lent_called, log_called_on, undone_on, lent_undone, record_or0}
use Rattle.spec_images.specs.Promises.{Holds, DamagedIsRefused, NothingChanges, AsOnState, AnsweredOn, UndoneOn}
use Rattle.spec_images.specs.Promises.{OtherLengthsGetOne, OneCallOn, OneUndoOn}
use Rattle.spec_images.proofs.Reading.{passes, passes_image, state_told}
use Rattle.spec_images.proofs.Front.{in_front, fits_in, fits_not, front_read, front_length}

-- ---- whether an image is there
module _ (lent : List ℕ) (n : ℕ) where
  pub found : AreBytes lent → holds_image lent n ≡ true → Holds lent n (state_at lent n)
  unfolding holds_image
  found B h =
      let (a, b) = (and-eq-true_iff (leb n (length lent)) (is_image (take n lent))).0 h in
      (leb-true n (length lent) a, passes_image (take n lent) (take_bytes n lent B) b)

  pub there : {k : Kernel} → Holds lent n k → (holds_image lent n ≡ true) × (state_at lent n ≡ k)
  unfolding holds_image
  there (b, I) = (rw (le-leb n (length lent) b, passes (take n lent) I), state_told (take n lent) I)

-- ---- where the same on the state k gives l and the log log'', and is never answered 16
pub record Gives (k : Kernel) (l : Logged) (log log'' : List ℕ) : Type 0 where
  pub never : l.answer.number ≡ 16 → ⊥
  pub leaves : (l.answer.number ≡ 0 → ⊥) → (l.answer.value ≡ 255) × (log'' ≡ log)
  pub keeps : l.answer.number ≡ 0 → Undamaged l.kernel

module _ (lent : List ℕ) (n : ℕ) (log : List ℕ) (used : ℕ) (k : Kernel) (l : Logged) (log'' : List ℕ) (G : Gives k l log log'') where
  abbrev log' : List ℕ
  log' = cond (fits l.kernel lent) log'' log

  -- accepted and with room, or without, or refused
  one_of_three : (P : Stored → List ℕ → List ℕ → Type 0)
      → (l.answer.number ≡ 0 → length (image_of l.kernel) ≤ length lent
      → P (stored l.answer (length (image_of l.kernel)) l.used) (in_front l.kernel lent) log'')
      → (l.answer.number ≡ 0 → length lent < length (image_of l.kernel) → P (stored (answer 13 255 k.runner) n used) lent log)
      → ((l.answer.number ≡ 0 → ⊥) → P (stored l.answer n used) lent log)
      → P (keeping l k lent n used) (keeping_in l lent) log'
  one_of_three P a f b =
      cases (eqb l.answer.number 0)
      (λ e. let z = eqb-true l.answer.number 0 e in
      cases (fits l.kernel lent) (λ h. let (s, i) = fits_in l.kernel lent h in rw (e, h, i) (a z s))
      (λ h. let (s, i) = fits_not l.kernel lent h in rw (e, h, i) (f z s)))
      (λ e. let z = eqb-false l.answer.number 0 e in
      let same = (G.leaves z).1 in
      cases (fits l.kernel lent) (λ h. rw (e, h, same) (b z)) (λ h. rw (e, h) (b z)))

  pub not_damaged : (keeping l k lent n used).answer.number ≡ 16 → ⊥
  not_damaged = one_of_three (λ r _ _. r.answer.number ≡ 16 → ⊥) (λ _ _. G.never) (λ _ _ z. omega arith) (λ _. G.never)

  pub nothing_changes_lem : NothingChanges lent n log used (keeping l k lent n used) (keeping_in l lent) log'
  unfolding NothingChanges
  nothing_changes_lem =
      one_of_three
      (λ r i m. (r.answer.number ≡ 0 → ⊥)
      → (r.answer.value ≡ 255) × (r.length ≡ n) × (r.used ≡ used) × (i ≡ lent) × (m ≡ log)
      × (r.answer.number ≡ 16 → r.answer.runner ≡ 255))
      (λ z _ b. absurd (b z))
      (λ _ _ _. (refl, refl, refl, refl, refl, λ z. absurd (omega arith)))
      (λ b _. ((G.leaves b).0, refl, refl, refl, refl, λ z. absurd (G.never z)))

  pub as_on_state_lem : AsOnState k l log'' lent n used (keeping l k lent n used) (keeping_in l lent) log'
  as_on_state_lem =
      one_of_three (λ r i m. AsOnState k l log'' lent n used r i m)
      (λ z h. record {
        refused = λ b. absurd (b z);
        no_room = λ _ b. absurd (omega arith);
        accepted = λ _ _.
            let s = front_length l.kernel lent h in
            (refl, refl, s, refl, (omega arith, (G.keeps z, sym (front_read l.kernel lent))));
      })
      (λ z h. record { refused = λ b. absurd (b z); no_room = λ _ _. refl; accepted = λ _ b. absurd (omega arith) })
      (λ b. record { refused = λ _. refl; no_room = λ z _. absurd (b z); accepted = λ z _. absurd (b z) })

-- ---- the call and the undo on the state
call_gives : (k : Kernel) (bytes log : List ℕ) (used : ℕ) → Undamaged k → IsRecord bytes
    → Gives k (called_with k bytes log used) log (log_called k bytes log used)
unfolding RefusalChangesNothing RulesAreKept
call_gives k bytes log used K B =
    let A = answers k bytes log used K.types B in
    record {
      never = never_16 k bytes log used;
      leaves = λ b. let (_, _, l, v, _, _) = A.refusal_changes_nothing b in (v, l);
      keeps = λ _. let (T, R) = A.rules_are_kept K.rules in record { types = T; rules = R };
    }

undo_gives : (k : Kernel) (log : List ℕ) (used : ℕ) → Undamaged k → AreBytes log → Gives k (undone k log used) log log
unfolding RulesAreKept
undo_gives k log used K B =
    let A = undoes_so k log used K.types B in
    record {
      never =
          Undos.one_of_three k log used (λ x. x.answer.number ≡ 16 → ⊥) (λ _ _ z. omega arith) (λ _ _ z. omega arith)
          (λ _ z. omega arith);
      leaves = λ _. (Undos.one_of_three k log used (λ x. x.answer.value ≡ 255) (λ _ _. refl) (λ _ _. refl) (λ _. refl), refl);
      keeps = λ _. let (T, R) = A.rules_are_kept K.rules in record { types = T; rules = R };
    }

-- ---- on the first n of the lent bytes, whatever is done to the state whose image they are
module _ (lent : List ℕ) (n : ℕ) (log : List ℕ) (used : ℕ) (B : AreBytes lent) (give : Kernel → Logged) (log_then : Kernel → List ℕ)
    (G : (k : Kernel) → Undamaged k → Gives k (give k) log (log_then k)) where
  abbrev k₀ : Kernel
  k₀ = state_at lent n

  abbrev r : Stored
  r = cond (holds_image lent n) (keeping (give k₀) k₀ lent n used) (damaged n used)

  abbrev lent' : List ℕ
  lent' = cond (holds_image lent n) (keeping_in (give k₀) lent) lent

  abbrev log''' : List ℕ
  log''' = cond (holds_image lent n) (cond (fits (give k₀).kernel lent) (log_then k₀) log) log

  -- what it gives on the state that was found
  gives_found : holds_image lent n ≡ true → Gives k₀ (give k₀) log (log_then k₀)
  gives_found e = G k₀ (found lent n B e).1.0

  damaged_is_refused_lem : DamagedIsRefused lent n r
  unfolding DamagedIsRefused
  damaged_is_refused_lem =
      cases (holds_image lent n)
      (λ e. rw e (
        λ z. absurd (not_damaged lent n log used k₀ (give k₀) (log_then k₀) (gives_found e) z),
        λ none. absurd (none k₀ (found lent n B e)),
      ))
      (λ e. rw e (λ _ k H. false≢true (sym e ∙ (there lent n H).0), λ _. refl))

  changes_nothing : NothingChanges lent n log used r lent' log'''
  unfolding NothingChanges
  changes_nothing =
      cases (holds_image lent n) (λ e. rw e (nothing_changes_lem lent n log used k₀ (give k₀) (log_then k₀) (gives_found e)))
      (λ e. rw e (λ _. (refl, refl, refl, refl, refl, λ _. refl)))

  answers_as : (k : Kernel) → Holds lent n k → AsOnState k (give k) (log_then k) lent n used r lent' log'''
  answers_as k H =
      let (e, s) = there lent n H in
      rw (e, s) (as_on_state_lem lent n log used k (give k) (log_then k) (G k H.1.0))

-- ---- the promises
pub answers_on : (lent : List ℕ) (n : ℕ) (bytes log : List ℕ) (used : ℕ) → AreBytes lent → IsRecord bytes
    → AnsweredOn lent n bytes log used (called_on lent n bytes log used) (lent_called lent n bytes log used)
    (log_called_on lent n bytes log used)
unfolding called_on lent_called log_called_on
answers_on lent n bytes log used B I =
    let give : Kernel → Logged = λ k. called_with k bytes log used in
    let log_then : Kernel → List ℕ = λ k. log_called k bytes log used in
    let G : (k : Kernel) → Undamaged k → Gives k (give k) log (log_then k) = λ k K. call_gives k bytes log used K I in
    record {
      result = refl;
      image = refl;
      written = refl;
      damaged_is_refused = damaged_is_refused_lem lent n log used B give log_then G;
      nothing_changes = changes_nothing lent n log used B give log_then G;
      as_on_state = answers_as lent n log used B give log_then G;
    }

-- the log stays, whatever the tests say
same_log : (a b : Bool) (log : List ℕ) → cond a (cond b log log) log ≡ log
same_log true true log = refl
same_log true false log = refl
same_log false b log = refl

pub undoes_on : (lent : List ℕ) (n : ℕ) (log : List ℕ) (used : ℕ) → AreBytes lent → AreBytes log
    → UndoneOn lent n log used (undone_on lent n log used) (lent_undone lent n log used)
unfolding undone_on lent_undone
undoes_on lent n log used B L =
    let give : Kernel → Logged = λ k. undone k log used in
    let log_then : Kernel → List ℕ = λ _. log in
    let G : (k : Kernel) → Undamaged k → Gives k (give k) log log = λ k K. undo_gives k log used K L in
    let same = same_log (holds_image lent n) (fits (give (state_at lent n)).kernel lent) log in
    record {
      result = refl;
      image = refl;
      damaged_is_refused = damaged_is_refused_lem lent n log used B give log_then G;
      nothing_changes = rw same at (changes_nothing lent n log used B give log_then G);
      as_on_state = λ k H. rw same at (answers_as lent n log used B give log_then G k H);
    }

pub one_call_on : OneCallOn
unfolding OneCallOn
one_call_on lent n bytes log used r s l m i j R S =
    (R.result ∙ sym S.result, R.image ∙ sym S.image, R.written ∙ sym S.written)

pub one_undo_on : OneUndoOn
unfolding OneUndoOn
one_undo_on lent n log used r s l m R S = (R.result ∙ sym S.result, R.image ∙ sym S.image)

-- ---- a record of another length
pub other_lengths_get_one : OtherLengthsGetOne
unfolding OtherLengthsGetOne called_on called_with recorded record_or0 number_of unknown is_known call_of
other_lengths_get_one lent n bytes log used k H o =
    let (e, s) = there lent n H in
    let K = H.1.0 in
    rw (e, s, ne_eqb (length bytes) 16 o, rules_hold k K.types.sized K.rules)
