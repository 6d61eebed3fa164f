-- Bytes are read exactly where they are the image of a state that keeps the rules, and then as that state.
use Prim.Native.Nat.{ℕ}
use mathlib.Core.Path.{◌≡◌, refl, sym, ap, ◌∙◌}
use mathlib.Core.Bool.{true, false, and-eq-true_iff}
use mathlib.Core.List.{List}
use native.Mathlib.Omega.{arith}
use borrow.Table.Steps.{cases}
use Rattle.spec_kernel.specs.declared.records.Kernel.{Kernel}
use Rattle.spec_kernel.specs.Records.{fresh}
use Rattle.spec_rules.specs.Tests.{keeps_rules}
use Rattle.spec_rules.proofs.Exactly.{rules_mean, rules_hold}
use Rattle.spec_notes.specs.Touched.{same_row}
use Rattle.spec_notes.specs.Within.{AreBytes}
use Rattle.spec_notes.proofs.RecordsBack.{same_row_lem}
use Rattle.spec_notes.proofs.Slight.{row_same}
use Rattle.spec_answers.specs.Runs.{Undamaged}
use Rattle.spec_images.specs.declared.Recalled.{Recalled}
use Rattle.spec_images.specs.Images.{image_of, state_in, is_image, recalled, read_from}
use Rattle.spec_images.specs.Promises.{IsImageOf, ReadExactly, ReadIsThat, ElseNothing, ReadBack, ReadsBack, OneState, OneReading}
use Rattle.spec_images.proofs.ImagesBack.{state_back}
use Rattle.spec_images.proofs.AnyImage.{state_sized, state_undamaged}

-- ---- the test
pub image_passes : (k : Kernel) → Undamaged k → is_image (image_of k) ≡ true
unfolding is_image
image_passes k K = rw (state_back k K, rules_hold k K.types.sized K.rules, row_same (image_of k))

-- an image's state is the one that it tells
pub state_told : (s : List ℕ) {k : Kernel} → IsImageOf s k → state_in s ≡ k
state_told s {k} (K, e) = ap state_in (sym e) ∙ state_back k K

pub passes : (s : List ℕ) {k : Kernel} → IsImageOf s k → is_image s ≡ true
passes s {k} (K, e) = ap is_image (sym e) ∙ image_passes k K

pub passes_image : (s : List ℕ) → AreBytes s → is_image s ≡ true → IsImageOf s (state_in s)
unfolding is_image
passes_image s B h =
    let (r, e) = (and-eq-true_iff (keeps_rules (state_in s)) (same_row (image_of (state_in s)) s)).0 h in
    (state_undamaged s B (rules_mean (state_in s) (state_sized s B) r), same_row_lem (image_of (state_in s)) s e)

-- ---- what is promised of reading
module _ (s : List ℕ) where
  one_of_two : (P : Recalled → Type 0) → (is_image s ≡ true → P (recalled 0 (state_in s))) → (is_image s ≡ false → P (recalled 16 fresh))
      → P (read_from s)
  unfolding read_from
  one_of_two P a b = cases (is_image s) (λ e. rw e (a e)) (λ e. rw e (b e))

  read_is_that_lem : ReadIsThat s (read_from s)
  unfolding ReadIsThat read_from
  read_is_that_lem k I = rw (passes s I, state_told s I)

  pub reads : AreBytes s → ReadBack s (read_from s)
  unfolding ReadExactly ReadIsThat ElseNothing
  reads B =
      record {
        result = refl;
        read_exactly = (
          one_of_two (λ r. r.number ≡ 0 → (k : Kernel) × IsImageOf s k) (λ e _. (state_in s, passes_image s B e))
              (λ _ z. absurd (omega arith)),
          λ y. ap (λ (r : Recalled). r.number) (read_is_that_lem y.0 y.1),
        );
        read_is_that = read_is_that_lem;
        else_nothing = λ none.
            one_of_two (λ r. r ≡ recalled 16 fresh) (λ e. absurd (none (state_in s) (passes_image s B e))) (λ _. refl);
      }

-- ---- over all images
pub reads_back : ReadsBack
unfolding ReadsBack read_from
reads_back k K = rw (image_passes k K, state_back k K)

pub one_state : OneState
unfolding OneState
one_state k u K U e = sym (state_back k K) ∙ ap state_in e ∙ state_back u U

pub one_reading : OneReading
unfolding OneReading
one_reading s r t R T = R.result ∙ sym T.result
