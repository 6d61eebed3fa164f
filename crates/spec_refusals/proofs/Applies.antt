-- A list of numbers with their conditions: no entry has a given number; and the entries tried in turn.
use Prim.Native.Nat.{ℕ, zero, suc}
use mathlib.Core.Path.{◌≡◌, refl, sym}
use mathlib.Core.Bool.{Bool, true, false, not, ◌&&◌, false≢true}
use mathlib.Core.List.{List, [], ◌∷◌}
use lib.Dec.{eqb}
use lib.ListN.{get_or, drop}
use borrow.Author.Tests.{not-true, eqb-false}
use Rattle.spec_refusals.specs.Refusals.{first_that_applies}

pub and_left : (a b : Bool) → (a && b) ≡ true → a ≡ true
and_left true b e = refl
and_left false b e = e

pub and_right : (a b : Bool) → (a && b) ≡ true → b ≡ true
and_right true b e = e
and_right false true e = refl
and_right false false e = e

-- no entry has the number n
abbrev pub lacks : ℕ → List (ℕ × Bool) → Bool
lacks n [] = true
lacks n (t ∷ l) = let r = lacks n l in not (eqb t.0 n) && r

-- and so its first has another
pub lacks_head : (n : ℕ) (t : ℕ × Bool) (l : List (ℕ × Bool)) → lacks n (t ∷ l) ≡ true → t.0 ≡ n → ⊥
lacks_head n t l z = eqb-false t.0 n (not-true (eqb t.0 n) (and_left (not (eqb t.0 n)) (lacks n l) z))

-- an entry that doesn't apply leaves it to those behind it
pub passed : (l : List (ℕ × Bool)) (i : ℕ) {x : ℕ} → x ≡ first_that_applies (drop i l) → (get_or l i (0, false)).1 ≡ false
    → x ≡ first_that_applies (drop (suc i) l)
passed [] zero e h = e
passed [] (suc i) e h = e
passed (t ∷ l) zero e h = rw h at e
passed (t ∷ l) (suc i) e h = passed l i e h

-- and one that applies decides
pub decides : (l : List (ℕ × Bool)) (i : ℕ) {x : ℕ} → x ≡ first_that_applies (drop i l) → (get_or l i (0, false)).1 ≡ true
    → (get_or l i (0, false)).0 ≡ x
decides [] i e h = absurd (false≢true h)
decides (t ∷ l) zero e h = sym (rw h at e)
decides (t ∷ l) (suc i) e h = decides l i e h
