-- Whether the room holds an image, from what reading it gave; and what then comes back of a call and of an undo.
use Prim.Native.Nat.{ℕ}
use mathlib.Core.Path.{◌≡◌, refl, ap, ◌∙◌}
use mathlib.Core.Bool.{true, false, cond}
use mathlib.Core.List.{List}
use native.Mathlib.Omega.{arith}
use lib.ListN.{length}
use borrow.Author.Tests.{eq-eqb, ne_eqb}
use borrow.Table.Steps.{cases}
use Rattle.base_bytes.specs.Logs.{noted}
use Rattle.spec_kernel.specs.declared.records.Kernel.{Kernel}
use Rattle.spec_kernel.specs.Records.{fresh}
use Rattle.spec_rules.specs.Tests.{keeps_rules}
use Rattle.spec_rules.proofs.Exactly.{rules_hold}
use Rattle.spec_notes.specs.Within.{AreBytes}
use Rattle.spec_answers.specs.declared.Logged.{Logged}
use Rattle.spec_answers.specs.Steps.{answer}
use Rattle.spec_answers.specs.Logs.{recorded, log_after, called_with, log_called, undone_kept}
use Rattle.spec_answers.proofs.Undos.{undone_kept_lem}
use Rattle.spec_images.specs.declared.Recalled.{Recalled}
use Rattle.spec_images.specs.declared.Stored.{Stored}
use Rattle.spec_images.specs.Images.{image_of, recalled}
use Rattle.spec_images.specs.OnImages.{fits, stored, holds_image, state_at, keeping, keeping_in}
use Rattle.spec_images.specs.OnImages.{called_on, lent_called, log_called_on, undone_on, lent_undone}
use Rattle.spec_images.proofs.OnImages.{found}

-- ---- what is kept of a result l
module _ (l : Logged) (k : Kernel) (lent : List ℕ) (n used : ℕ) where
  abbrev pub Kept : Stored → List ℕ → Type 0
  Kept r lent' = (r ≡ keeping l k lent n used) × (lent' ≡ keeping_in l lent)

  pub kept_refused : (l.answer.number ≡ 0 → ⊥) → Kept (stored l.answer n used) lent
  kept_refused h = rw (ne_eqb l.answer.number 0 h) (refl, refl)

  module _ (z : l.answer.number ≡ 0) where
    pub kept_short : fits l.kernel lent ≡ false
        → Kept (stored (answer 13 255 k.runner) n used) (noted lent 0 (image_of l.kernel))
    kept_short h = rw (eq-eqb l.answer.number 0 z, h) (refl, refl)

    pub kept_new : fits l.kernel lent ≡ true
        → Kept (stored l.answer (length (image_of l.kernel)) l.used) (noted lent 0 (image_of l.kernel))
    kept_new h = rw (eq-eqb l.answer.number 0 z, h) (refl, refl)

-- ---- whether an image is there, from what reading it gave
module _ (lent : List ℕ) (n : ℕ) where
  module _ (r : Recalled) (e : r ≡ cond (holds_image lent n) (recalled 0 (state_at lent n)) (recalled 16 fresh)) where
    -- 16 came back
    pub not_read : (r.number ≡ 0 → ⊥) → holds_image lent n ≡ false
    not_read h = cases (holds_image lent n) (λ i. absurd (h (ap (λ (x : Recalled). x.number) e ∙ rw i))) (λ i. i)

    -- or the state
    pub was_read : r.number ≡ 0 → (holds_image lent n ≡ true) × (r.kernel ≡ state_at lent n)
    was_read z =
        cases (holds_image lent n) (λ i. (i, ap (λ (x : Recalled). x.kernel) e ∙ rw i))
        (λ i. let d : r.number ≡ 16 = ap (λ (x : Recalled). x.number) e ∙ rw i in absurd (omega arith))

  -- ---- a call
  module _ (bytes log : List ℕ) (used : ℕ) where
    pub call_damaged : holds_image lent n ≡ false
        → (stored (answer 16 255 255) n used ≡ called_on lent n bytes log used) × (lent ≡ lent_called lent n bytes log used)
        × (log ≡ log_called_on lent n bytes log used)
    unfolding called_on lent_called log_called_on
    call_damaged e = rw e (refl, refl, refl)

    module _ (B : AreBytes lent) (e : holds_image lent n ≡ true) (k : Kernel) (f : k ≡ state_at lent n) where
      keeps : keeps_rules (state_at lent n) ≡ true
      keeps = let (_, (K, _)) = found lent n B e in rules_hold (state_at lent n) K.types.sized K.rules

      pub call_found : (keeping (recorded k bytes log used) k lent n used ≡ called_on lent n bytes log used)
          × (keeping_in (recorded k bytes log used) lent ≡ lent_called lent n bytes log used)
          × (cond (fits (recorded k bytes log used).kernel lent) (log_after k bytes log used) log ≡ log_called_on lent n bytes log used)
      unfolding called_on lent_called log_called_on called_with log_called
      call_found = rw (f, e, keeps) (refl, refl, refl)

  -- ---- an undo
  module _ (log : List ℕ) (used : ℕ) where
    pub undo_damaged : holds_image lent n ≡ false
        → (stored (answer 16 255 255) n used ≡ undone_on lent n log used) × (lent ≡ lent_undone lent n log used)
    unfolding undone_on lent_undone
    undo_damaged e = rw e (refl, refl)

    pub undo_found : AreBytes lent → AreBytes log → holds_image lent n ≡ true → (k : Kernel) → k ≡ state_at lent n
        → (keeping (undone_kept k log used) k lent n used ≡ undone_on lent n log used)
        × (keeping_in (undone_kept k log used) lent ≡ lent_undone lent n log used)
    unfolding undone_on lent_undone
    undo_found B L e k f =
        let (_, (K, _)) = found lent n B e in
        rw (f, e, undone_kept_lem (state_at lent n) log used K.types L K.rules) (refl, refl)
