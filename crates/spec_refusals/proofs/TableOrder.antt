-- The order of the table decides [01, answers 4]: a number is given exactly where its condition holds and none before it does,
-- and a call is accepted exactly where no condition holds.
use Prim.Native.Nat.{ℕ, zero, suc, ◌<◌}
use mathlib.Core.Path.{◌≡◌, refl, sym}
use mathlib.Core.Bool.{Bool, true, false, not, cond, ◌&&◌, false≢true}
use mathlib.Core.List.{List, [], ◌∷◌, ◌++◌, map}
use mathlib.Core.Logic.{◌↔◌}
use native.Mathlib.Omega.{arith}
use lib.Dec.{eqb}
use lib.ListN.{length, get_or}
use borrow.Author.Tests.{not-true, eqb-false, ne_eqb}
use Rattle.spec_kernel.specs.declared.records.Kernel.{Kernel}
use Rattle.spec_calls.specs.declared.call.Call.{Call}
use Rattle.spec_refusals.specs.Refusals.{refusals, first_that_applies, number_of}
use Rattle.spec_refusals.proofs.Applies.{and_left, and_right, lacks, lacks_head}

abbrev number : List (ℕ × Bool) → ℕ → ℕ
number l i = (get_or l i (0, false)).0

abbrev condition : List (ℕ × Bool) → ℕ → Bool
condition l i = (get_or l i (0, false)).1

-- no two entries have one number, and none has 0
abbrev pub distinct : List (ℕ × Bool) → Bool
distinct [] = true
distinct (t ∷ l) = let r = distinct l in not (eqb t.0 0) && (lacks t.0 l && r)

-- a number that isn't 0 and that no entry has is neither an entry's nor given
lacks_at : (n : ℕ) (l : List (ℕ × Bool)) → lacks n l ≡ true → (i : ℕ) → i < length l → number l i ≡ n → ⊥
lacks_at n [] d i h e = omega arith
lacks_at n (t ∷ l) d zero h e = lacks_head n t l d e
lacks_at n (t ∷ l) d (suc i) h e = lacks_at n l (and_right (not (eqb t.0 n)) (lacks n l) d) i (omega arith) e

pub lacks_first : (n : ℕ) (l : List (ℕ × Bool)) → lacks n l ≡ true → (n ≡ 0 → ⊥) → first_that_applies l ≡ n → ⊥
lacks_first n [] d z e = z (sym e)
lacks_first n ((m, true) ∷ l) d z e = lacks_head n (m, true) l d e
lacks_first n ((m, false) ∷ l) d z e = lacks_first n l (and_right (not (eqb m n)) (lacks n l) d) z e

module _ (t : ℕ × Bool) (l : List (ℕ × Bool)) (d : distinct (t ∷ l) ≡ true) where
  non_zero : t.0 ≡ 0 → ⊥
  non_zero = eqb-false t.0 0 (not-true (eqb t.0 0) (and_left (not (eqb t.0 0)) (lacks t.0 l && distinct l) d))

  rest_lacks : lacks t.0 l ≡ true
  rest_lacks = and_left (lacks t.0 l) (distinct l) (and_right (not (eqb t.0 0)) (lacks t.0 l && distinct l) d)

  rest_distinct : distinct l ≡ true
  rest_distinct = and_right (lacks t.0 l) (distinct l) (and_right (not (eqb t.0 0)) (lacks t.0 l && distinct l) d)

-- none before i applies: one more entry in front that doesn't
one_more_lem : (n : ℕ) (l : List (ℕ × Bool)) (i : ℕ) → ((j : ℕ) → j < i → condition l j ≡ false) → (j : ℕ) → j < suc i
    → condition ((n, false) ∷ l) j ≡ false
one_more_lem n l i f zero h = refl
one_more_lem n l i f (suc j) h = f j (omega arith)

-- where the number of an entry is given, its condition holds and none before it does
given_means : (l : List (ℕ × Bool)) → distinct l ≡ true → (i : ℕ) → i < length l → first_that_applies l ≡ number l i
    → (condition l i ≡ true) × ((j : ℕ) → j < i → condition l j ≡ false)
given_means [] d i h e = absurd (omega arith)
given_means ((n, true) ∷ l) d zero h e = (refl, λ j g. absurd (omega arith))
given_means ((n, false) ∷ l) d zero h e = absurd (lacks_first n l (rest_lacks (n, false) l d) (non_zero (n, false) l d) e)
given_means ((n, true) ∷ l) d (suc i) h e = absurd (lacks_at n l (rest_lacks (n, true) l d) i (omega arith) (sym e))
given_means ((n, false) ∷ l) d (suc i) h e =
    let r = given_means l (rest_distinct (n, false) l d) i (omega arith) e in
    (r.0, one_more_lem n l i r.1)

-- and the other way
first_given : (l : List (ℕ × Bool)) (i : ℕ) → condition l i ≡ true → ((j : ℕ) → j < i → condition l j ≡ false)
    → first_that_applies l ≡ number l i
first_given [] i e f = refl
first_given ((n, true) ∷ l) zero e f = refl
first_given ((n, false) ∷ l) zero e f = absurd (false≢true e)
first_given ((n, true) ∷ l) (suc i) e f = absurd (false≢true (sym (f 0 (omega arith))))
first_given ((n, false) ∷ l) (suc i) e f = first_given l i e (λ j h. f (suc j) (omega arith))

-- 0 is given exactly where no condition holds
none_given : (l : List (ℕ × Bool)) → distinct l ≡ true → first_that_applies l ≡ 0 → (i : ℕ) → condition l i ≡ false
none_given [] d e i = refl
none_given ((n, true) ∷ l) d e i = absurd (non_zero (n, true) l d e)
none_given ((n, false) ∷ l) d e zero = refl
none_given ((n, false) ∷ l) d e (suc i) = none_given l (rest_distinct (n, false) l d) e i

gives_none : (l : List (ℕ × Bool)) → ((i : ℕ) → condition l i ≡ false) → first_that_applies l ≡ 0
gives_none [] f = refl
gives_none ((n, true) ∷ l) f = absurd (false≢true (sym (f 0)))
gives_none ((n, false) ∷ l) f = gives_none l (λ i. f (suc i))

-- ---- any table whose numbers are distinct and none 0
module _ (l : List (ℕ × Bool)) (d : distinct l ≡ true) where
  -- an entry's number is given exactly where its condition holds and none before it does
  pub first_exactly : (i : ℕ) → i < length l
      → (first_that_applies l ≡ number l i) ↔ ((condition l i ≡ true) × ((j : ℕ) → j < i → condition l j ≡ false))
  first_exactly i h = (given_means l d i h, λ r. first_given l i r.0 r.1)

  -- and 0 exactly where none holds
  pub none_exactly : (first_that_applies l ≡ 0) ↔ ((i : ℕ) → condition l i ≡ false)
  none_exactly = (none_given l d, gives_none l)

-- entries behind a table are asked where nothing of it applies
pub first_append : (l m : List (ℕ × Bool)) → distinct l ≡ true
    → first_that_applies (l ++ m) ≡ cond (eqb (first_that_applies l) 0) (first_that_applies m) (first_that_applies l)
first_append [] m d = refl
first_append ((n, true) ∷ l) m d = rw (ne_eqb n 0 (non_zero (n, true) l d))
first_append ((n, false) ∷ l) m d = first_append l m (rest_distinct (n, false) l d)

-- ---- the twelve
module _ (k : Kernel) (c : Call) where
  -- the numbers stand in document 01's order [01, table]
  pub numbers_in_order : map (λ t. t.0) (refusals k c) ≡ 1 ∷ 3 ∷ 2 ∷ 5 ∷ 4 ∷ 9 ∷ 8 ∷ 10 ∷ 12 ∷ 11 ∷ 6 ∷ 7 ∷ []
  numbers_in_order = refl

  pub accepted_exactly_lem : (number_of k c ≡ 0) ↔ ((i : ℕ) → (get_or (refusals k c) i (0, false)).1 ≡ false)
  unfolding number_of
  accepted_exactly_lem = none_exactly (refusals k c) refl
