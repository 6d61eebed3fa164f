-- Laws on rows that fit their widths: they are all there as far as their widths go, and a row that is read fits where the predicted one
-- does.
use Prim.Native.Nat.{ℕ, zero, suc, ◌+◌, ◌/◌, ◌^◌, ◌<◌}
use mathlib.Core.Path.{◌≡◌, refl}
use mathlib.Core.List.{List, [], ◌∷◌}
use native.Mathlib.Nat.{mod-eq_of_lt}
use native.Mathlib.Omega.{arith}
use lib.ListN.{get_or, take, drop}
use lib.Seq.{get_or-drop}
use borrow.Table.Steps.{cases}
use Rattle.base_rows.specs.Rows.{first_flagged, taken, row_from, fitted, Fit}
use Rattle.base_bytes.proofs.Numbers.{un_small}

-- Where each field fits its width, nothing is cut.
pub fitted_fit : (ws xs : List ℕ) → Fit ws xs → fitted ws xs ≡ xs
unfolding fitted
fitted_fit [] [] q = refl
fitted_fit (w ∷ ws) (x ∷ xs) (h, q) = rw (mod-eq_of_lt h, fitted_fit ws xs q)
fitted_fit [] (x ∷ xs) q = elim q [ ]
fitted_fit (w ∷ ws) [] q = elim q [ ]

-- Every number is a byte, past the end too.
abbrev pub Bytes : List ℕ → Type 0
Bytes s = (i : ℕ) → get_or s i 0 < 256

pub drop_bytes : (n : ℕ) (s : List ℕ) → Bytes s → Bytes (drop n s)
drop_bytes n s h i = rw get_or-drop (h (n + i))

pub take_bytes : (n : ℕ) (s : List ℕ) → Bytes s → Bytes (take n s)
take_bytes zero s h i = omega arith
take_bytes (suc n) [] h i = omega arith
take_bytes (suc n) (x ∷ s) h zero = h 0
take_bytes (suc n) (x ∷ s) h (suc i) = take_bytes n s (λ j. h (suc j)) i

-- A field that is read fits its width where the predicted one does,
pub row_at : (ws : List ℕ) (flags : ℕ) (ps s : List ℕ) → Bytes s → (i : ℕ) → get_or ps i 0 < 256 ^ get_or ws i 0
    → get_or (row_from ws flags ps s) i 0 < 256 ^ get_or ws i 0
unfolding row_from
row_at [] flags ps s h i p = omega arith
row_at (w ∷ ws) flags [] s h i p = p
row_at (w ∷ ws) flags (x ∷ ps) s h zero p = cases (first_flagged flags) (λ e. rw e (un_small w s h)) (λ e. rw e p)
row_at (w ∷ ws) flags (x ∷ ps) s h (suc i) p = row_at ws (flags / 2) ps (drop (taken w flags) s) (drop_bytes (taken w flags) s h) i p

-- and so does the whole row.
pub rows_fit : (ws : List ℕ) (flags : ℕ) (ps s : List ℕ) → Bytes s → Fit ws ps → Fit ws (row_from ws flags ps s)
unfolding row_from
rows_fit [] flags [] s h q = tt
rows_fit (w ∷ ws) flags (p ∷ ps) s h (b, q) = (
  cases (first_flagged flags) (λ e. rw e (un_small w s h)) (λ e. rw e b),
  rows_fit ws (flags / 2) ps (drop (taken w flags) s) (drop_bytes (taken w flags) s h) q,
)
rows_fit [] flags (p ∷ ps) s h q = elim q [ ]
rows_fit (w ∷ ws) flags [] s h q = elim q [ ]
