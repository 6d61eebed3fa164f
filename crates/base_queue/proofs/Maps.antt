-- A loop that puts f of each member in its place: the first k are done, the others as they were.
use Prim.Native.Nat.{ℕ, zero, suc, ◌+◌, ◌≤◌, ◌<◌}
use mathlib.Core.Path.{◌≡◌, refl, ap}
use mathlib.Core.List.{List, [], ◌∷◌, ◌++◌, map, append-nil}
use native.Mathlib.Numerals.{add-one}
use native.Mathlib.Omega.{arith}
use lib.ListN.{length, take, drop, get_or, set, length-map, drop_of_length-le}
use lib.Seq.{take_all}

module _ {A : Type 0} (f : A → A) where
  one_more_lem : (d : A) (l : List A) (k : ℕ) → k < length l
      → set (take k (map f l) ++ drop k l) k (f (get_or l k d)) ≡ take (suc k) (map f l) ++ drop (suc k) l
  one_more_lem d [] k h = absurd (omega arith)
  one_more_lem d (x ∷ l) zero h = refl
  one_more_lem d (x ∷ l) (suc k) h = ap (λ (r : List A). f x ∷ r) (one_more_lem d l k (omega arith))

  pub map_next : (d : A) (l : List A) (k : ℕ) → k < length l
      → set (take k (map f l) ++ drop k l) k (f (get_or l k d)) ≡ take (k + 1) (map f l) ++ drop (k + 1) l
  map_next d l k h = rw add-one (one_more_lem d l k h)

  pub map_end : (l : List A) (k : ℕ) → length l ≤ k → take k (map f l) ++ drop k l ≡ map f l
  map_end l k h =
      let e : length (map f l) ≤ k = rw length-map h in
      rw (take_all k (map f l) e, drop_of_length-le l h, append-nil)
