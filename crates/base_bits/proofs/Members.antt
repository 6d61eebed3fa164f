-- Laws of the bits of any number, and of a word as the set of those whose bit is set: who joins, who is taken out, who was told.
-- Assumes nothing.
use mathlib.Core.Path.{◌≡◌, sym, ap, ◌∙◌}
use mathlib.Core.Bool.{Bool, true, false, ◌&&◌, or-true, or-false}
use Prim.Native.Nat.{ℕ, zero, suc, ◌+◌, ◌-◌, ◌*◌, ◌/◌, ◌%◌, ◌^◌, ◌≤◌, ◌<◌}
use native.Mathlib.Nat.{one-mul, zero-mul, zero-add, zero-div, div-eq_of_lt, div_self, add-div_right, mod-one, mod-eq_of_lt}
use native.Mathlib.Nat.{sub-add_cancel, pow-suc, mul-mod_left, le-div_iff_mul-le}
use native.Mathlib.Numerals.{one-add}
use native.Mathlib.Omega.{arith}
use lib.Arith.{lt_of_le-ne}
use lib.Bits.{bit_and, bit_or, and_high, and_le_l, and_le_r, or_add_and, or_disjoint, or_zero_l}
use lib.Dec.{eqb, ltb, lit<}
use lib.Pow.{pow_pos, pow_mono, pow-lt, pow-add, high_ones, shl-shr, mod-pow-add}
use borrow.Author.Tests.{lt-ltb, le-ltb, ltb-true, ltb-false, eqb-true, eqb-false, eq-eqb, ne_eqb}
use Rattle.base_bits.specs.Words.{has_bit}
use Rattle.base_bits.specs.Sets.{joined, Tells}
use Rattle.base_bits.proofs.Digits.{either, digit, has_low, has_digit, has_or}

-- ---- none, and the word of one bit

pub has_none : (i : ℕ) → has_bit 0 i ≡ false
has_none i = has_low 0 i ∙ rw zero-div

pub single_has : (i : ℕ) → has_bit (2 ^ i) i ≡ true
single_has i = has_low (2 ^ i) i ∙ rw (div_self (pow_pos i))

power_digit : (i j : ℕ) → (i ≡ j → ⊥) → 2 ^ i / 2 ^ j % 2 ≡ 0
power_digit i j n =
    either (ltb i j)
    (λ e. rw (div-eq_of_lt (pow-lt (ltb-true i j e))))
    (λ e.
    let s : i ≡ suc (i - suc j) + j = omega (arith, lt_of_le-ne (ltb-false i j e) (λ q. n (sym q))) in
    rw (s, pow-add, shl-shr, pow-suc, mul-mod_left))

pub single_lacks : (i j : ℕ) → (i ≡ j → ⊥) → has_bit (2 ^ i) j ≡ false
single_lacks i j n = has_low (2 ^ i) j ∙ rw (power_digit i j n)

pub and_single : (word i : ℕ) → bit_and word (2 ^ i) ≡ digit (has_bit word i) * 2 ^ i
and_single word i = ap (bit_and word) (sym (high_ones 1 i ∙ one-mul (2 ^ i))) ∙ and_high word 1 i ∙ rw (has_digit word i)

-- ---- a bit that is set can be taken away

module _ (word i : ℕ) (e : has_bit word i ≡ true) where
  one_there : word / 2 ^ i % 2 ≡ 1
  one_there = has_digit word i ∙ ap digit e

  pub has_large : 2 ^ i ≤ word
  has_large =
      let q : 1 ≤ word / 2 ^ i = omega (arith, one_there) in
      omega (arith, (le-div_iff_mul-le (pow_pos i)).0 q)

  -- it is clear then, and every other bit is as it was
  pub taken_lacks : has_bit (word - 2 ^ i) i ≡ false
  taken_lacks =
      let q : word / 2 ^ i ≡ (word - 2 ^ i) / 2 ^ i + 1 =
      ap (λ (x : ℕ). x / 2 ^ i) (sym (sub-add_cancel has_large)) ∙ add-div_right (word - 2 ^ i) (pow_pos i) in
      let z : (word - 2 ^ i) / 2 ^ i % 2 ≡ 0 = omega (arith, one_there) in
      has_low (word - 2 ^ i) i ∙ rw z

  pub taken_others : (j : ℕ) → (i ≡ j → ⊥) → has_bit (word - 2 ^ i) j ≡ has_bit word j
  taken_others j n =
      let apart : bit_and (word - 2 ^ i) (2 ^ i) ≡ 0 = and_single (word - 2 ^ i) i ∙ rw (taken_lacks, zero-mul) in
      let back : bit_or (word - 2 ^ i) (2 ^ i) ≡ word = or_disjoint (word - 2 ^ i) (2 ^ i) apart ∙ sub-add_cancel has_large in
      sym (ap (λ (w : ℕ). has_bit w j) (sym back) ∙ rw (has_or, single_lacks i j n, or-false))

-- ---- a number below a power of two

module _ (word n : ℕ) (s : word < 2 ^ n) where
  pub has_within : (i : ℕ) → has_bit word i ≡ true → i < n
  has_within i e =
      either (ltb i n) (λ h. ltb-true i n h)
      (λ h. absurd (omega (arith, has_large word i e, pow_mono (ltb-false i n h))))

  pub has_past : (i : ℕ) → n ≤ i → has_bit word i ≡ false
  has_past i h = either (has_bit word i) (λ e. absurd (omega (arith, has_within i e))) (λ e. e)

below_power : (n : ℕ) → n < 2 ^ n
below_power zero = lit< tt
below_power (suc n) = rw pow-suc (omega (arith, below_power n))

-- A number with no bit set is 0.
pub none_has : (word : ℕ) → ((i : ℕ) → has_bit word i ≡ false) → word ≡ 0
none_has word h = sym (mod-eq_of_lt (below_power word)) ∙ low word
  where
    low : (k : ℕ) → word % 2 ^ k ≡ 0
    low zero = mod-one word
    low (suc k) = rw (← one-add k, mod-pow-add word 1 k, has_digit word k, h k, zero-mul, zero-add) (low k)

-- Two numbers are 0 together where each is.
pub or_none : (a b : ℕ) → eqb (bit_or a b) 0 ≡ (eqb a 0 && eqb b 0)
or_none a b =
    either (eqb (bit_or a b) 0)
    (λ e. let z : bit_or a b ≡ 0 = eqb-true _ _ e in
    let f : (a ≡ 0) × (b ≡ 0) = omega (arith, or_add_and a b, and_le_l a b, and_le_r a b) in
    rw (e, eq-eqb a 0 f.0, eq-eqb b 0 f.1))
    (λ e. let n = eqb-false (bit_or a b) 0 e in
    either (eqb a 0)
    (λ f. rw (e, f) (sym (ne_eqb b 0 (λ g. n (rw (eqb-true a 0 f, or_zero_l) g)))))
    (λ f. rw (e, f)))

-- ---- who joins, and who was told

module _ (set i : ℕ) (h : i < 64) where
  joined_or : joined set i true ≡ bit_or set (2 ^ i)
  unfolding joined
  joined_or = rw (lt-ltb i 64 h)

  joined_not : joined set i false ≡ set
  unfolding joined
  joined_not = rw (lt-ltb i 64 h)

  joined_same : (b : Bool) → has_bit set i ≡ false → has_bit (joined set i b) i ≡ b
  joined_same true e = rw (joined_or, has_or, single_has, or-true)
  joined_same false e = rw joined_not e

  joined_others : (b : Bool) (j : ℕ) → (i ≡ j → ⊥) → has_bit (joined set i b) j ≡ has_bit set j
  joined_others true j n = rw (joined_or, has_or, single_lacks i j n, or-false)
  joined_others false j n = rw joined_not

pub tells_none : (f : ℕ → Bool) → Tells 0 0 f
tells_none f = record { of = λ x. has_none x ∙ rw (le-ltb x 0 (omega arith)) }

-- b is what f says of the next
pub tells_next : {set n : ℕ} {f : ℕ → Bool} {b : Bool} → Tells set n f → n < 64 → b ≡ f n → Tells (joined set n b) (n + 1) f
tells_next {set} {n} {f} {b} t h e = record { of = after }
  where
    after : (x : ℕ) → has_bit (joined set n b) x ≡ (ltb x (n + 1) && f x)
    after x =
        either (eqb n x)
        (λ q. let w : n ≡ x = eqb-true n x q in
        let z : has_bit set n ≡ false = t.of n ∙ rw (le-ltb n n (omega arith)) in
        rw (← w, joined_same set n h b z, lt-ltb n (n + 1) (omega arith)) e)
        (λ q. let w = eqb-false n x q in
        joined_others set n h b x w ∙ t.of x
        ∙ either (ltb x n)
        (λ l. rw (l, lt-ltb x (n + 1) (omega (arith, ltb-true x n l))))
        (λ l. rw (l, le-ltb x (n + 1) (omega (arith, lt_of_le-ne (ltb-false x n l) w)))))
