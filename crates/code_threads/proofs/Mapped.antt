-- An array that `map` makes, where each call of the closure computes h and leaves the closure as it was.
use Prim.Native.Nat.{ℕ, zero, suc, ◌+◌, ◌≤◌}
use mathlib.Core.Path.{◌≡◌, subst}
use mathlib.Core.List.{List, map}
use native.Mathlib.Numerals.{add-one}
use native.Mathlib.Omega.{arith}
use lib.ListN.{length, drop, drop_of_length-le}
use lib.Seq.{drop-cons}
use denote.Param.Members.{Mut}
use Rattle.std.specs.Fn.{Called}
use Rattle.std.specs.Array.{IsMapOf, MapsFrom}

module _ {F A B : Type 0} (g : Mut F (A × Unit {0}) B) (f : F) (h : A → B)
    (calls : (x : A) (y : B) (q : F) → Called g f (x, tt) y q → (q ≡ f) × (y ≡ h x)) where
  maps_from : (n i : ℕ) (xs : List A) (ys : List B) → i + n ≡ length xs → i + n ≡ length ys → MapsFrom g f xs ys i n
      → drop i ys ≡ map h (drop i xs)
  maps_from zero i xs ys e d m =
      let a : length xs ≤ i = omega arith in
      let b : length ys ≤ i = omega arith in
      rw (drop_of_length-le xs a, drop_of_length-le ys b)
  maps_from (suc n) i xs ys e d (q, x, y, of, to, call, rest) =
      let c = calls x y q call in
      let r : drop (suc i) ys ≡ map h (drop (suc i) xs) = rw add-one at (maps_from n (i + 1) xs ys (omega arith) (omega arith) (subst (λ z. MapsFrom g z xs ys (i + 1) n) c.0 rest)) in
      rw (drop-cons ys i y (omega arith), drop-cons xs i x (omega arith), of.0, to.0, c.1, r)

  pub mapped : (xs : List A) (ys : List B) (n : ℕ) → length xs ≡ n → IsMapOf g f xs ys n → ys ≡ map h xs
  mapped xs ys n e m = maps_from n 0 xs ys (omega arith) (omega (arith, m.long)) m.each
