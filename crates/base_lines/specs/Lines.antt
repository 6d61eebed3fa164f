-- Numbers as lines of text. Assumes nothing.
use Rattle.std.specs.Prelude.{ℕ, zero, suc, ◌+◌, ◌-◌, ◌*◌, ◌/◌, ◌%◌, List, [], ◌∷◌, ◌++◌, Bool, true, false, cond, ltb}

-- The decimal digits of n, the highest first, where it has no more than `most`.
unfoldable pub decimal_in : ℕ → ℕ → List ℕ
decimal_in zero n = []
decimal_in (suc most) n = cond (ltb n 10) ((48 + n) ∷ []) (decimal_in most (n / 10) ++ ((48 + n % 10) ∷ []))

-- The decimal digits of a number of 64 bits.
unfoldable pub decimal : ℕ → List ℕ
decimal n = decimal_in 20 n

-- The number that digits spell behind those of n.
unfoldable pub spelt_behind : ℕ → List ℕ → ℕ
spelt_behind n [] = n
spelt_behind n (d ∷ ds) = spelt_behind (10 * n + (d - 48)) ds

abbrev pub is_empty : List ℕ → Bool
is_empty [] = true
is_empty (n ∷ ns) = false

-- A line of numbers, with a blank between two of them and a newline behind the last.
unfoldable pub line : List ℕ → List ℕ
line [] = []
line (n ∷ ns) = decimal n ++ (cond (is_empty ns) 10 32 ∷ line ns)
