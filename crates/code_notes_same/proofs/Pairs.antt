-- Two lists that are compared pair by pair.
use Prim.Native.Nat.{ℕ, suc}
use mathlib.Core.Path.{◌≡◌, refl, ap}
use mathlib.Core.Bool.{Bool, false, ◌&&◌, and-false}
use mathlib.Core.List.{List, [], ◌∷◌}
use native.Mathlib.Omega.{arith}
use lib.Dec.{eqb}
use lib.ListN.{length}
use lib.Pointwise.{pointwise}
use Rattle.std.specs.List.{list_all, zip}
use Rattle.spec_notes.specs.Touched.{same_row}
use Rattle.spec_notes.specs.Same.{same_all}

module _ {A : Type 0} (test : A → A → Bool) where
  -- as long, they are the same where all pairs are
  pub paired : (a b : List A) → length a ≡ length b → list_all (λ (p : A × A). test p.0 p.1) (zip a b) ≡ same_all test a b
  paired [] [] h = refl
  paired [] (y ∷ b) h = absurd (omega arith)
  paired (x ∷ a) [] h = absurd (omega arith)
  paired (x ∷ a) (y ∷ b) h = ap (λ (r : Bool). test x y && r) (paired a b (omega arith))

  pub unpaired : (a b : List A) → (length a ≡ length b → ⊥) → false ≡ same_all test a b
  unpaired [] [] h = absurd (h refl)
  unpaired [] (y ∷ b) h = refl
  unpaired (x ∷ a) [] h = refl
  unpaired (x ∷ a) (y ∷ b) h = rw (← unpaired a b (λ e. h (ap suc e)), and-false)

-- two rows, as `==` has them
pub row_pairs : (a b : List ℕ) → pointwise eqb a b ≡ same_row a b
row_pairs [] [] = refl
row_pairs [] (y ∷ b) = refl
row_pairs (x ∷ a) [] = refl
row_pairs (x ∷ a) (y ∷ b) = ap (λ (r : Bool). eqb x y && r) (row_pairs a b)

-- two rows are the same where all their numbers are
pub row_all : (a b : List ℕ) → same_row a b ≡ same_all eqb a b
row_all [] [] = refl
row_all [] (y ∷ b) = refl
row_all (x ∷ a) [] = refl
row_all (x ∷ a) (y ∷ b) = rw (row_all a b)
