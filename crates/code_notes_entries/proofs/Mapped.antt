-- An array's `map` by a closure that stays as it was gives the list's `map`.
use Prim.Native.Nat.{ℕ, zero, suc, ◌+◌, ◌<◌, ◌≤◌}
use mathlib.Core.Path.{◌≡◌, refl, ap, subst}
use mathlib.Core.List.{List, ◌∷◌, map}
use native.Mathlib.Numerals.{add-one}
use native.Mathlib.Omega.{arith}
use lib.ListN.{length, drop, drop_of_length-le}
use lib.Seq.{drop-cons}
use Rattle.std.specs.Array.{IsMapOf, MapsFrom}
use Rattle.std.specs.Fn.{Called, Mut}

module _ {F A B : Type 0} (g : Mut F (A × Unit {0}) B) (f : A → B) (s : F)
    (h : (x : A) (y : B) (q : F) → Called g s (x, tt) y q → (y ≡ f x) × (q ≡ s)) where
  mapped_from : (n i : ℕ) (p : F) (xs : List A) (ys : List B) → p ≡ s → length xs ≡ i + n → length ys ≡ i + n
      → MapsFrom g p xs ys i n → drop i ys ≡ map f (drop i xs)
  mapped_from zero i p xs ys e a b m =
      let k : length xs ≤ i = omega arith in
      let l : length ys ≤ i = omega arith in
      rw (drop_of_length-le xs k, drop_of_length-le ys l)
  mapped_from (suc n) i p xs ys e a b (q, x, y, ex, ey, call, rest) =
      let (v, w) = h x y q (subst (λ (z : F). Called g z (x, tt) y q) e call) in
      let r = mapped_from n (i + 1) q xs ys w (omega arith) (omega arith) rest in
      let k : i < length xs = omega arith in
      let l : i < length ys = omega arith in
      rw (drop-cons ys i y l, drop-cons xs i x k, ey.0, ex.0, v) (ap (λ t. f x ∷ t) (rw add-one at r))

  pub mapped : (n : ℕ) (xs : List A) (ys : List B) → length xs ≡ n → IsMapOf g s xs ys n → ys ≡ map f xs
  mapped n xs ys e m = mapped_from n 0 s xs ys refl (omega arith) (omega (arith, m.long)) m.each
