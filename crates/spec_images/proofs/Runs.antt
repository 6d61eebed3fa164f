-- A run over an image goes as the run over its state.
use Prim.Native.Nat.{ℕ, ◌≤◌}
use mathlib.Core.Path.{◌≡◌, refl, sym}
use mathlib.Core.Bool.{true, cond}
use mathlib.Core.List.{List, [], ◌∷◌}
use native.Mathlib.Omega.{arith}
use lib.Dec.{eqb}
use lib.ListN.{length}
use borrow.Author.Tests.{eqb-false, le-leb}
use borrow.Table.Steps.{cases}
use Rattle.spec_kernel.specs.declared.records.Kernel.{Kernel}
use Rattle.spec_answers.specs.declared.Logged.{Logged}
use Rattle.spec_answers.specs.Logs.{called_with, log_called, undone}
use Rattle.spec_answers.specs.Promises.{RefusalChangesNothing}
use Rattle.spec_answers.specs.Runs.{Undamaged, IsRecord, Run, Follows, Step, call, undo, AreSteps, given, after, after_all}
use Rattle.spec_answers.proofs.WithLogs.{answers}
use Rattle.spec_answers.proofs.Undos as Undos
use Rattle.spec_answers.proofs.LeadsBack.{begun}
use Rattle.spec_answers.proofs.Following.{call_follows, any_undo_follows, run_kept}
use Rattle.spec_images.specs.Images.{longest_image}
use Rattle.spec_images.specs.OnImages.{fits, keeping, keeping_in, called_on, lent_called, log_called_on, undone_on, lent_undone}
use Rattle.spec_images.specs.Promises.{Holds}
use Rattle.spec_images.specs.Runs.{Place, given_on, after_on, after_all_on, over, Alike, StepsAlike, RunsAlike}
use Rattle.spec_images.proofs.Front.{fits_in, front_read, front_length}
use Rattle.spec_images.proofs.Lengths.{image_short}
use Rattle.spec_images.proofs.OnImages.{there}

-- in such room every image fits
always_fits : (lent : List ℕ) (k : Kernel) → longest_image ≤ length lent → fits k lent ≡ true
always_fits lent k h = le-leb _ (length lent) (omega (arith, image_short k))

-- what is kept of a result l on the state k, whose image is there
module _ (lent : List ℕ) (n : ℕ) (log : List ℕ) (used : ℕ) (k : Kernel) (h : longest_image ≤ length lent) (l : Logged) where
  answered : (keeping l k lent n used).answer ≡ l.answer
  answered =
      cases (eqb l.answer.number 0) (λ e. rw (e, always_fits lent l.kernel h)) (λ e. rw e)

  module _ (log'' : List ℕ) (U : Undamaged l.kernel) (H : Holds lent n k)
      (stays : (l.answer.number ≡ 0 → ⊥) → (l.kernel ≡ k) × (l.used ≡ used) × (log'' ≡ log)) where
    kept : Holds (keeping_in l lent) (keeping l k lent n used).length l.kernel
        × (cond (fits l.kernel lent) log'' log ≡ log'') × ((keeping l k lent n used).used ≡ l.used)
        × (length (keeping_in l lent) ≡ length lent)
    kept =
        let f = always_fits lent l.kernel h in
        cases (eqb l.answer.number 0)
        (λ e. let (b, i) = fits_in l.kernel lent f in
        let s = front_length l.kernel lent b in
        rw (e, f, i) ((omega arith, (U, sym (front_read l.kernel lent))), refl, refl, s))
        (λ e. let (a, b, _) = stays (eqb-false l.answer.number 0 e) in rw (e, f, a) (H, refl, sym b, refl))

-- ---- a step
module _ (p : Place) (k : Kernel) (H : Holds p.lent p.size k) (h : longest_image ≤ length p.lent) where
  step_answered : (s : Step) → (given_on p s).answer ≡ (given (over p k) s).answer
  unfolding called_on undone_on
  step_answered (call bytes) =
      let (e, s) = there p.lent p.size H in
      rw (e, s) (answered p.lent p.size p.log p.used k h (called_with k bytes p.log p.used))
  step_answered undo =
      let (e, s) = there p.lent p.size H in
      rw (e, s) (answered p.lent p.size p.log p.used k h (undone k p.log p.used))

  -- then it stands as the run does, where the run's state keeps the rules
  abbrev Next : Step → Type 0
  Next s =
      Holds (after_on p s).lent (after_on p s).size (given (over p k) s).kernel
      × (over (after_on p s) (given (over p k) s).kernel ≡ after (over p k) s) × (length (after_on p s).lent ≡ length p.lent)

  call_next : (bytes : List ℕ) → IsRecord bytes → Undamaged (called_with k bytes p.log p.used).kernel → Next (call bytes)
  unfolding called_on lent_called log_called_on RefusalChangesNothing
  call_next bytes b U =
      let (e, s) = there p.lent p.size H in
      let l = called_with k bytes p.log p.used in
      let A = answers k bytes p.log p.used H.1.0.types b in
      let (x, y, z, w) =
      kept p.lent p.size p.log p.used k h l (log_called k bytes p.log p.used) U H
      (λ n. let (a, u, g, _, _, _) = A.refusal_changes_nothing n in (a, u, g)) in
      rw (e, s) (x, λ i. record { kernel = l.kernel; log = y i; used = z i }, w)

  undo_next : Undamaged (undone k p.log p.used).kernel → Next undo
  unfolding undone_on lent_undone
  undo_next U =
      let (e, s) = there p.lent p.size H in
      let l = undone k p.log p.used in
      let (x, _, z, w) =
      kept p.lent p.size p.log p.used k h l p.log U H
      (Undos.one_of_three k p.log p.used
      (λ x. (x.answer.number ≡ 0 → ⊥) → (x.kernel ≡ k) × (x.used ≡ p.used) × (p.log ≡ p.log))
      (λ _ _ n. absurd (n refl)) (λ _ _ _. (refl, refl, refl)) (λ _ _. (refl, refl, refl))) in
      rw (e, s) (x, λ i. record { kernel = l.kernel; log = p.log; used = z i }, w)

pub steps_alike : StepsAlike
unfolding StepsAlike
steps_alike p k s H h = step_answered p k H h s

-- ---- all steps, of a run that follows some calls from an empty log
module _ (start : Run) (K : Undamaged start.kernel) (z : start.used ≡ 0) where
  all_alike : (steps : List Step) (p : Place) (k : Kernel) {calls : List (List ℕ)} → Follows start [] calls (over p k)
      → Holds p.lent p.size k → longest_image ≤ length p.lent → AreSteps steps
      → Alike (after_all_on p steps) (after_all (over p k) steps)
  all_alike [] p k F H h b = record { holds = H; log = refl; used = refl }
  all_alike (call bytes ∷ steps) p k F H h (b, c) =
      let G = call_follows start [] bytes b F in
      let (x, y, w) = call_next p k H h bytes b (run_kept start [] K G) in
      rw y at (all_alike steps (after_on p (call bytes)) _ (rw (sym y) at G) x (omega arith) c)
  all_alike (undo ∷ steps) p k F H h c =
      let G = any_undo_follows start [] K z F in
      let (x, y, w) = undo_next p k H h (run_kept start [] K G) in
      rw y at (all_alike steps (after_on p undo) _ (rw (sym y) at G) x (omega arith) c)

pub runs_alike : RunsAlike
unfolding RunsAlike
runs_alike p k steps H h z b = all_alike (over p k) H.1.0 z steps p k (begun (over p k)) H h b
