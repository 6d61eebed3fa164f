-- The lowest clear bit is clear, every bit before it is set, and 255 says that all are.
use Prim.Native.Nat.{ℕ, zero, suc, ◌+◌, ◌^◌, ◌≤◌, ◌<◌}
use mathlib.Core.Path.{◌≡◌, refl, sym, ◌∙◌}
use mathlib.Core.Bool.{true, false, true≢false}
use native.Mathlib.Omega.{arith}
use lib.Dec.{eqb}
use borrow.Author.Tests.{eqb-true, eqb-false}
use borrow.Table.Steps.{cases}
use Rattle.base_bits.specs.Words.{bit_at, with_bit}
use Rattle.base_bits.proofs.Laws.{with_high, with_below}
use Rattle.spec_kernel.specs.Free.{lowest_clear}

module _ (word : ℕ) where
  -- a bit that isn't 255 is one of those looked at, and clear
  found : (i n : ℕ) → (lowest_clear word i n ≡ 255 → ⊥)
      → (lowest_clear word i n < i + n) × (bit_at word (lowest_clear word i n) ≡ false)
  found i zero s = absurd (s refl)
  found i (suc n) s =
      cases (bit_at word i)
      (λ e. let (below, clear) = found (suc i) n (rw e at s) in rw e (omega (arith, below), clear))
      (λ e. rw e (omega arith, e))

  -- no clear bit is lower
  at_most : (i n j : ℕ) → i ≤ j → j < i + n → bit_at word j ≡ false → lowest_clear word i n ≤ j
  at_most i zero j a b e = absurd (omega arith)
  at_most i (suc n) j a b e =
      cases (bit_at word i)
      (λ z. let ne : i ≡ j → ⊥ = λ y. true≢false (sym (rw y at z) ∙ e) in
      rw z (at_most (suc i) n j (omega (arith, ne)) (omega arith) e))
      (λ z. rw z a)

  module _ (n : ℕ) where
    -- whatever stands before it is set
    before : (j : ℕ) → j < n → j < lowest_clear word 0 n → bit_at word j ≡ true
    before j h b = cases (bit_at word j) (λ e. e) (λ e. absurd (omega (arith, at_most 0 n j (omega arith) (omega arith) e)))

    module _ (s : lowest_clear word 0 n ≡ 255 → ⊥) where
      -- the bit is one of the first n, and clear
      pub clear_is_clear : (lowest_clear word 0 n < n) × (bit_at word (lowest_clear word 0 n) ≡ false)
      clear_is_clear = let (a, b) = found 0 n s in (omega arith, b)

      -- and the lowest: every bit before it is set
      pub clear_is_lowest : (j : ℕ) → j < lowest_clear word 0 n → bit_at word j ≡ true
      clear_is_lowest j h = before j (omega (arith, clear_is_clear.0)) h

    -- 255 says that every one is set
    pub none_clear : n ≤ 255 → lowest_clear word 0 n ≡ 255 → (j : ℕ) → j < n → bit_at word j ≡ true
    none_clear b s j h = before j h (omega arith)

    -- a word of n bits stays one with that bit set
    pub with_lowest : word < 2 ^ n → with_bit word (lowest_clear word 0 n) < 2 ^ n
    with_lowest b =
        cases (eqb (lowest_clear word 0 n) 255)
        (λ e. let z = eqb-true (lowest_clear word 0 n) 255 e in rw (with_high word (lowest_clear word 0 n) (omega arith)) b)
        (λ e. with_below word (lowest_clear word 0 n) (clear_is_clear (eqb-false (lowest_clear word 0 n) 255 e)).0 b)
