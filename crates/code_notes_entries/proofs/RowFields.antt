-- A field of a row that is cut to its widths; and two rows are the same where no field of one is flagged beside the other.
use Prim.Native.Nat.{ℕ, zero, suc, ◌+◌, ◌*◌, ◌%◌, ◌^◌}
use mathlib.Core.Path.{◌≡◌, refl, sym, ◌∙◌}
use mathlib.Core.Bool.{Bool, true, false, cond, ◌&&◌, and-false}
use mathlib.Core.List.{List, [], ◌∷◌}
use native.Mathlib.Nat.{zero-mod}
use native.Mathlib.Omega.{arith}
use lib.Dec.{eqb}
use lib.ListN.{length, get_or}
use borrow.Author.Tests.{ne_eqb}
use Rattle.base_rows.specs.Rows.{flags_of, fitted}
use Rattle.spec_notes.specs.Touched.{same_row}

-- past the last field or width there is 0
pub fitted_at : (ws xs : List ℕ) (i : ℕ) → get_or (fitted ws xs) i 0 ≡ get_or xs i 0 % 256 ^ get_or ws i 0
unfolding fitted
fitted_at [] xs i = omega arith
fitted_at (w ∷ ws) [] i = sym (zero-mod (256 ^ get_or (w ∷ ws) i 0))
fitted_at (w ∷ ws) (x ∷ xs) zero = refl
fitted_at (w ∷ ws) (x ∷ xs) (suc i) = fitted_at ws xs i

-- twice a number is 0 where it is
twice : (n : ℕ) → eqb (0 + 2 * n) 0 ≡ eqb n 0
twice zero = refl
twice (suc n) = rw (ne_eqb (0 + 2 * suc n) 0 (λ z. omega arith), ne_eqb (suc n) 0 (λ z. omega arith))

-- two rows are the same where no field of one is flagged beside the other
pub same_flags : (os ps : List ℕ) → length os ≡ length ps → eqb (flags_of os ps) 0 ≡ same_row os ps
unfolding flags_of
same_flags [] [] e = refl
same_flags [] (p ∷ ps) e = absurd (omega arith)
same_flags (o ∷ os) [] e = absurd (omega arith)
same_flags (o ∷ os) (p ∷ ps) e = go (eqb o p) (same_flags os ps (omega arith))
  where
    go : (b : Bool) → eqb (flags_of os ps) 0 ≡ same_row os ps → eqb (cond b 0 1 + 2 * flags_of os ps) 0 ≡ (b && same_row os ps)
    go true h = twice (flags_of os ps) ∙ h
    go false h = ne_eqb (1 + 2 * flags_of os ps) 0 (λ z. omega arith)

-- and two rows differ where a field does
pub row_other : (xs ys : List ℕ) (i : ℕ) → length xs ≡ length ys → (get_or xs i 0 ≡ get_or ys i 0 → ⊥) → same_row xs ys ≡ false
row_other [] [] i e h = absurd (h refl)
row_other [] (y ∷ ys) i e h = refl
row_other (x ∷ xs) [] i e h = refl
row_other (x ∷ xs) (y ∷ ys) zero e h = rw (ne_eqb x y h)
row_other (x ∷ xs) (y ∷ ys) (suc i) e h = rw (row_other xs ys i (omega arith) h, and-false)
