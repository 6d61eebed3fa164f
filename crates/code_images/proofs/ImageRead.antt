-- What is read of bytes: the state whose image they are, or nothing, by the tests that the code makes.
use Prim.Native.Nat.{ℕ}
use mathlib.Core.Path.{◌≡◌, refl, ap}
use mathlib.Core.Bool.{Bool, true, false, ◌&&◌}
use mathlib.Core.List.{List, [], ◌∷◌}
use lib.Dec.{eqb}
use lib.Pointwise.{pointwise}
use Rattle.spec_kernel.specs.Records.{fresh}
use Rattle.spec_rules.specs.Tests.{keeps_rules}
use Rattle.spec_notes.specs.Touched.{same_row}
use Rattle.spec_images.specs.Images.{image_of, state_in, is_image, recalled, read_from}

module _ (s : List ℕ) where
  pub read_broken : keeps_rules (state_in s) ≡ false → recalled 16 fresh ≡ read_from s
  unfolding read_from is_image
  read_broken e = rw e

  module _ (kept : keeps_rules (state_in s) ≡ true) where
    pub read_other : same_row (image_of (state_in s)) s ≡ false → recalled 16 fresh ≡ read_from s
    unfolding read_from is_image
    read_other e = rw (kept, e)

    pub read_same : same_row (image_of (state_in s)) s ≡ true → recalled 0 (state_in s) ≡ read_from s
    unfolding read_from is_image
    read_same e = rw (kept, e)

-- two rows, as `==` has them
pub row_pairs : (a b : List ℕ) → pointwise eqb a b ≡ same_row a b
row_pairs [] [] = refl
row_pairs [] (y ∷ b) = refl
row_pairs (x ∷ a) [] = refl
row_pairs (x ∷ a) (y ∷ b) = ap (λ (r : Bool). eqb x y && r) (row_pairs a b)
