-- A set of numbers below 64 as a word: x is in it where bit x is set. Assumes nothing.
use Rattle.std.specs.Prelude.{ℕ, ◌^◌, ◌≡◌, Bool, cond, ◌&&◌, ltb}
use Rattle.std.specs.Int.Bits.{bit_or}
use Rattle.base_bits.specs.Words.{has_bit}

-- The set with x in it, where it joins; a number above 63 leaves it.
unfoldable pub joined : ℕ → ℕ → Bool → ℕ
joined set x joins = cond (ltb x 64 && joins) (bit_or set (2 ^ x)) set

-- In the set are those below n that f holds of.
pub record Tells (set n : ℕ) (f : ℕ → Bool) : Type 0 where
  pub of : (x : ℕ) → has_bit set x ≡ (ltb x n && f x)
