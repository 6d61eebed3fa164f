-- Laws of a bit that is set or cleared, and of the mask 0, for the proofs here and in the crates above.
-- Assumes nothing.
use mathlib.Core.Path.{◌≡◌, refl, sym, ◌∙◌}
use mathlib.Core.Bool.{true, false, or-true, or-false, and-false, and-eq-true_iff}
use Prim.Native.Nat.{ℕ, zero, suc, ◌+◌, ◌-◌, ◌*◌, ◌/◌, ◌%◌, ◌^◌, ◌≤◌, ◌<◌}
use native.Mathlib.Nat.{one-mul, add-sub_cancel, sub-add_cancel, pow-suc}
use native.Mathlib.Omega.{arith}
use lib.Bits.{bit_and, bit_or, and_step, or_add_and, or_lt}
use lib.Dec.{ltb, lit<}
use lib.Pow.{pow-lt, shl_exact}
use borrow.Author.Tests.{lt-ltb, le-ltb, ltb-true}
use Rattle.base_bits.specs.Words.{has_bit, bit_at, with_bit, without_bit, every_below, some_below, all_match, any_match}
use Rattle.base_bits.proofs.Digits.{either, below, digit, bit_has, bit_or_lem}
use Rattle.base_bits.proofs.Members.{single_has, single_lacks, and_single, has_large, has_past, taken_lacks}

-- With mask 0 every masked bit matches, and not one does [01, calls: Event 3].
pub mask_none : (values bits : ℕ) → all_match 0 values bits ≡ true
unfolding all_match every_below bit_at has_bit
mask_none values bits = refl

pub mask_none_any : (values bits : ℕ) → any_match 0 values bits ≡ false
unfolding any_match some_below bit_at has_bit
mask_none_any values bits = refl

-- ---- the word of one bit

pub one_shifted : (width i : ℕ) → i < width → 1 * 2 ^ i % 2 ^ width ≡ 2 ^ i
one_shifted width i h = rw (shl_exact 1 i width (lit< tt) (omega arith), one-mul)

single_same : (i : ℕ) → i < 32 → bit_at (2 ^ i) i ≡ true
single_same i h = bit_has (2 ^ i) i h ∙ single_has i

single_other : (i j : ℕ) → (i ≡ j → ⊥) → bit_at (2 ^ i) j ≡ false
unfolding bit_at
single_other i j n = rw (single_lacks i j n, and-false)

-- ---- the two definitions, case by case

module _ (word i : ℕ) where
  -- of a word the test of any number is that of the first 32
  pub word_has : word < 2 ^ 32 → bit_at word i ≡ has_bit word i
  unfolding bit_at
  word_has s = below i (λ h. rw (lt-ltb i 32 h)) (λ h. rw (le-ltb i 32 h) (sym (has_past word 32 s i h)))

  pub with_high : 32 ≤ i → with_bit word i ≡ word
  unfolding with_bit
  with_high h = rw (le-ltb i 32 h)

  with_clear : i < 32 → bit_at word i ≡ false → with_bit word i ≡ word + 2 ^ i
  unfolding with_bit
  with_clear h e = rw (lt-ltb i 32 h, e)

  without_set : bit_at word i ≡ true → without_bit word i ≡ word - 2 ^ i
  unfolding without_bit
  without_set e = rw e

  pub without_clear : bit_at word i ≡ false → without_bit word i ≡ word
  unfolding without_bit
  without_clear e = rw e

-- ---- the same by operations on whole words

-- what a mask takes away and what its complement leaves are the whole word
and_rest : (n word mask : ℕ) → word < 2 ^ n → mask < 2 ^ n → bit_and word (2 ^ n - 1 - mask) + bit_and word mask ≡ word
and_rest zero word mask a b =
    let z : word ≡ 0 = omega arith in
    rw z
and_rest (suc n) word mask a b =
    let p : 2 ^ suc n ≡ 2 ^ n * 2 = pow-suc 2 n in
    let w : word / 2 < 2 ^ n = omega arith in
    let m : mask / 2 < 2 ^ n = omega arith in
    let high : (2 ^ suc n - 1 - mask) / 2 ≡ 2 ^ n - 1 - mask / 2 = omega arith in
    let low : (2 ^ suc n - 1 - mask) % 2 ≡ 1 - mask % 2 = omega arith in
    let rest = and_rest n (word / 2) (mask / 2) w m in
    rw (and_step word (2 ^ suc n - 1 - mask), and_step word mask, high, low) (omega arith)

module _ (word i : ℕ) (h : i < 32) where
  and_bit : bit_and word (2 ^ i) ≡ digit (bit_at word i) * 2 ^ i
  and_bit = and_single word i ∙ rw (bit_has word i h)

  pub with_or : with_bit word i ≡ bit_or word (2 ^ i)
  unfolding with_bit
  with_or =
      let sum : bit_or word (2 ^ i) + digit (bit_at word i) * 2 ^ i ≡ word + 2 ^ i = rw and_bit at (or_add_and word (2 ^ i)) in
      rw (lt-ltb i 32 h) (either (bit_at word i) (λ e. rw e (omega (arith, rw e at sum))) (λ e. rw e (omega (arith, rw e at sum))))

  -- the word less what it shares with the bit alone
  pub without_and : without_bit word i ≡ word - bit_and word (2 ^ i)
  unfolding without_bit
  without_and = rw and_bit (either (bit_at word i) (λ e. rw e (omega arith)) (λ e. rw e (omega arith)))

  -- or what it shares with all other bits
  pub without_mask : word < 2 ^ 32 → without_bit word i ≡ bit_and word (2 ^ 32 - 1 - 2 ^ i)
  unfolding without_bit
  without_mask s =
      let sum : bit_and word (2 ^ 32 - 1 - 2 ^ i) + digit (bit_at word i) * 2 ^ i ≡ word = rw and_bit at (and_rest 32 word (2 ^ i) s (pow-lt h)) in
      either (bit_at word i) (λ e. rw e (omega (arith, rw e at sum))) (λ e. rw e (omega (arith, rw e at sum)))

-- ---- a bit that is set can be taken away

module _ (word i : ℕ) (e : bit_at word i ≡ true) where
  set_low : i < 32
  unfolding bit_at
  set_low = ltb-true i 32 ((and-eq-true_iff (ltb i 32) (has_bit word i)).0 e).0

  set_there : has_bit word i ≡ true
  set_there = sym (bit_has word i set_low) ∙ e

  set_large : 2 ^ i ≤ word
  set_large = has_large word i set_there

  set_taken : bit_at (word - 2 ^ i) i ≡ false
  set_taken = bit_has (word - 2 ^ i) i set_low ∙ taken_lacks word i set_there

-- ---- what holds of a word whose bit i is set or cleared

module _ (word i : ℕ) where
  -- The bit that is set is set, and the bit that is cleared is clear.
  pub bit_same : i < 32 → bit_at (with_bit word i) i ≡ true
  bit_same h = rw (with_or word i h, bit_or_lem, single_same i h, or-true)

  pub bit_gone : bit_at (without_bit word i) i ≡ false
  bit_gone = either (bit_at word i) (λ e. rw (without_set word i e) (set_taken word i e)) (λ e. rw (without_clear word i e) e)

  -- A bit that was clear and is set, or was set and is cleared, can be put back.
  pub undo_with : bit_at word i ≡ false → without_bit (with_bit word i) i ≡ word
  undo_with e =
      below i
      (λ h. rw (without_set (with_bit word i) i (bit_same h), with_clear word i h e) (add-sub_cancel word (2 ^ i)))
      (λ h. rw (with_high word i h) (without_clear word i e))

  pub undo_without : bit_at word i ≡ true → with_bit (without_bit word i) i ≡ word
  undo_without e =
      rw (with_clear (without_bit word i) i (set_low word i e) bit_gone, without_set word i e) (sub-add_cancel (set_large word i e))

  -- A word stays one.
  pub with_small : word < 2 ^ 32 → with_bit word i < 2 ^ 32
  with_small s = below i (λ h. rw (with_or word i h) (or_lt 32 word (2 ^ i) s (pow-lt h))) (λ h. rw (with_high word i h) s)

  -- with so many bits it keeps to them
  pub with_below : {n : ℕ} → i < n → word < 2 ^ n → with_bit word i < 2 ^ n
  with_below {n} b s = below i (λ h. rw (with_or word i h) (or_lt n word (2 ^ i) s (pow-lt b))) (λ h. rw (with_high word i h) s)

  pub without_small : {n : ℕ} → word < n → without_bit word i < n
  without_small s = either (bit_at word i) (λ e. rw (without_set word i e) (omega arith)) (λ e. rw (without_clear word i e) s)

-- Every other bit is as it was.
pub bit_other : (word i j : ℕ) → (i ≡ j → ⊥) → bit_at (with_bit word i) j ≡ bit_at word j
bit_other word i j n = below i (λ h. rw (with_or word i h, bit_or_lem, single_other i j n, or-false)) (λ h. rw (with_high word i h))

pub bit_other_without : (word i j : ℕ) → (i ≡ j → ⊥) → bit_at (without_bit word i) j ≡ bit_at word j
bit_other_without word i j n =
    either (bit_at word i)
    (λ e. sym (bit_other (without_bit word i) i j n) ∙ rw (undo_without word i e))
    (λ e. rw (without_clear word i e))
