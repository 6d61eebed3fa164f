-- Laws on lines: the decimal digits of a number of 64 bits spell it, and what one number adds to a line.
use Rattle.std.proofs.Common.{ℕ, zero, suc, ◌+◌, ◌-◌, ◌*◌, ◌/◌, ◌%◌, ◌^◌, ◌≤◌, ◌<◌, ◌≡◌, refl, List, [], ◌∷◌, ◌++◌, append_assoc, Bool, true, false, cond, ltb, eqb, length, set, drop, get_or, arith, add-one, eq-eqb}
use Rattle.std.proofs.lemmas.List.{drop-set}
use native.Mathlib.Nat.{pow-suc, eq-or-lt_of_le}
use mathlib.Core.Logic.{⊎_elim}
use lib.ListN.{drop_of_length-le}
use lib.Seq.{drop-cons}
use borrow.Author.Tests.{lt-ltb, le-ltb, ne_eqb}
use Rattle.base_lines.specs.Lines.{decimal, decimal_in, spelt_behind, is_empty, line}

-- digits behind others
spelt_append : (n : ℕ) (xs ys : List ℕ) → spelt_behind n (xs ++ ys) ≡ spelt_behind (spelt_behind n xs) ys
unfolding spelt_behind
spelt_append n [] ys = refl
spelt_append n (x ∷ xs) ys = spelt_append (10 * n + (x - 48)) xs ys

-- what has no more than `most` digits is spelt by them
spelt_in : (most n : ℕ) → n < 10 ^ most → spelt_behind 0 (decimal_in most n) ≡ n
unfolding spelt_behind decimal_in
spelt_in zero n h = let p : 10 ^ 0 ≡ 1 = refl in omega arith
spelt_in (suc most) n h = go (λ g. spelt_in most (n / 10) g) (ltb n 10) refl
  where
    go : (n / 10 < 10 ^ most → spelt_behind 0 (decimal_in most (n / 10)) ≡ n / 10) → (t : Bool) → ltb n 10 ≡ t
        → spelt_behind 0 (cond t ((48 + n) ∷ []) (decimal_in most (n / 10) ++ ((48 + n % 10) ∷ []))) ≡ n
    go f true e = omega arith
    go f false e =
        let p : 10 ^ suc most ≡ 10 ^ most * 10 = pow-suc 10 most in
        let less : n / 10 < 10 ^ most = omega arith in
        rw (spelt_append, f less) (omega arith)

-- a number of 64 bits has no more than twenty
pub spelt : (n : ℕ) → n < 2 ^ 64 → spelt_behind 0 (decimal n) ≡ n
unfolding decimal
spelt n h = spelt_in 20 n (omega arith)

-- the last digit of what has no more than one
last_digit : (most n : ℕ) → n < 10 → decimal_in (suc most) n ≡ (48 + n % 10) ∷ []
unfolding decimal_in
last_digit most n h = let small : n % 10 ≡ n = omega arith in rw (lt-ltb n 10 h, small)

-- the last digit of what has more
more_digits : (most n : ℕ) → 10 ≤ n → decimal_in (suc most) n ≡ decimal_in most (n / 10) ++ ((48 + n % 10) ∷ [])
unfolding decimal_in
more_digits most n h = rw (le-ltb n 10 h)

-- the last digit written in front of those behind it, where it is the first
pub last_written : (i n : ℕ) (xs : List ℕ) → 0 < i → i ≤ length xs → n < 10
    → drop (i - 1) (set xs (i - 1) (48 + n % 10)) ≡ decimal_in i n ++ drop i xs
last_written zero n xs p h k = absurd (omega arith)
last_written (suc m) n xs p h k =
    let e : suc m - 1 ≡ m = omega arith in
    let within : m < length xs = omega arith in
    rw (e, drop-set xs m (48 + n % 10) within, last_digit m n k, add-one)

-- and where it is not
pub more_written : (i n : ℕ) (xs : List ℕ) → 0 < i → i ≤ length xs → 10 ≤ n
    → decimal_in (i - 1) (n / 10) ++ drop (i - 1) (set xs (i - 1) (48 + n % 10)) ≡ decimal_in i n ++ drop i xs
more_written zero n xs p h k = absurd (omega arith)
more_written (suc m) n xs p h k =
    let e : suc m - 1 ≡ m = omega arith in
    let within : m < length xs = omega arith in
    rw (e, drop-set xs m (48 + n % 10) within, more_digits m n k, append_assoc, add-one)

-- a list is empty from its end on
rest_empty : (ns : List ℕ) (i : ℕ) → i ≤ length ns → is_empty (drop i ns) ≡ eqb i (length ns)
rest_empty ns i h =
    ⊎_elim
    (λ e. let past : length ns ≤ i = omega arith in rw (drop_of_length-le ns past, eq-eqb i (length ns) e))
    (λ g. rw (drop-cons ns i 0 g, ne_eqb i (length ns) (λ e. absurd (omega arith))))
    (eq-or-lt_of_le h)

-- one number of a line
pub line_next : (ns : List ℕ) (i : ℕ) → i < length ns
    → line (drop i ns) ≡ (decimal (get_or ns i 0) ++ (cond (eqb (i + 1) (length ns)) 10 32 ∷ [])) ++ line (drop (i + 1) ns)
unfolding line
line_next ns i h = rw (drop-cons ns i 0 h, append_assoc, ← rest_empty ns (i + 1) (omega arith), add-one)
