-- A word of 32 bits: one bit of it, and whether a word matches the values of a mask.
-- Assumes nothing.
use Rattle.std.specs.Prelude.{ℕ, zero, suc, ◌+◌, ◌-◌, ◌/◌, ◌%◌, ◌^◌, Bool, true, false, cond, not, ◌&&◌, ◌||◌, ltb, eqb}

-- Bit i of the number is set.
unfoldable pub has_bit : ℕ → ℕ → Bool
has_bit word i = eqb (word / 2 ^ i % 2) 1

-- Bit i of the word is set; no bit above 31 is.
unfoldable pub bit_at : ℕ → ℕ → Bool
bit_at word i = ltb i 32 && has_bit word i

-- The word with bit i set; a bit above 31 leaves it.
unfoldable pub with_bit : ℕ → ℕ → ℕ
with_bit word i = cond (ltb i 32 && not (bit_at word i)) (word + 2 ^ i) word

-- The word with bit i clear.
unfoldable pub without_bit : ℕ → ℕ → ℕ
without_bit word i = cond (bit_at word i) (word - 2 ^ i) word

-- The test passes at every number below n.
unfoldable pub every_below : ℕ → (ℕ → Bool) → Bool
every_below zero test = true
every_below (suc n) test = every_below n test && test n

-- The test passes at some number below n.
unfoldable pub some_below : ℕ → (ℕ → Bool) → Bool
some_below zero test = false
some_below (suc n) test = some_below n test || test n

-- Both are set, or both are clear.
abbrev pub same_bit : Bool → Bool → Bool
same_bit true b = b
same_bit false b = not b

-- Each masked bit is as its value says; true of mask 0 [01, calls: Event 1, 3].
unfoldable pub all_match : ℕ → ℕ → ℕ → Bool
all_match mask values bits = every_below 32 (λ i. not (bit_at mask i) || same_bit (bit_at values i) (bit_at bits i))

-- Some masked bit is as its value says; not true of mask 0 [01, calls: Event 2, 3].
unfoldable pub any_match : ℕ → ℕ → ℕ → Bool
any_match mask values bits = some_below 32 (λ i. bit_at mask i && same_bit (bit_at values i) (bit_at bits i))
