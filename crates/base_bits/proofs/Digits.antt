-- The bits of a word are its digits, an operation on two words works on each bit apart, and two words are equal if their bits are.
-- Assumes nothing.
use mathlib.Core.Path.{◌≡◌, refl, sym, ap, ap₂, ◌∙◌}
use mathlib.Core.Bool.{Bool, true, false, cond, not, ◌&&◌, ◌||◌, and-eq-true_iff}
use Prim.Native.Nat.{ℕ, zero, suc, ◌+◌, ◌*◌, ◌/◌, ◌%◌, ◌^◌, ◌≤◌, ◌<◌, min, max}
use native.Mathlib.Nat.{mod-lt, mod-eq_of_lt, mod-one}
use native.Mathlib.Numerals.{one-add}
use native.Mathlib.Omega.{arith}
use lib.Arith.{digits_div, digits_mod}
use lib.Bits.{bit_and, bit_or, bit_xor, and_step, or_step, xor_step, and_shr, or_shr, xor_shr, differ}
use lib.Dec.{ltb, eqb, lit<, lit≤}
use lib.Pow.{pow_pos, mod-pow-add}
use borrow.Author.Tests.{lt-ltb, le-ltb, eq-eqb, eqb-true, ltb-true, ltb-false}
use Rattle.base_bits.specs.Words.{has_bit, bit_at, every_below, same_bit}

-- ---- cases

-- a test passes or fails
pub either : {P : Type 0} (b : Bool) → (b ≡ true → P) → (b ≡ false → P) → P
either true f g = f refl
either false f g = g refl

-- a word has a bit i or not
pub below : {P : Type 0} (i : ℕ) → (i < 32 → P) → (32 ≤ i → P) → P
below i f g = either (ltb i 32) (λ e. f (ltb-true i 32 e)) (λ e. g (ltb-false i 32 e))

-- each pair of bits
pub pairs : (P : Bool → Bool → Type 0) → P true true → P true false → P false true → P false false → (a b : Bool) → P a b
pairs P x y z w true true = x
pairs P x y z w true false = y
pairs P x y z w false true = z
pairs P x y z w false false = w

-- ---- a bit is a digit

abbrev pub digit : Bool → ℕ
digit b = cond b 1 0

digit_small : (b : Bool) → digit b < 2
digit_small true = lit< tt
digit_small false = lit< tt

digit_test : (b : Bool) → eqb (digit b) 1 ≡ b
digit_test true = refl
digit_test false = refl

digit_same : (a b : Bool) → eqb (digit a) (digit b) ≡ same_bit a b
digit_same = pairs _ refl refl refl refl

test_digit : (d : ℕ) → d < 2 → d ≡ digit (eqb d 1)
test_digit zero h = refl
test_digit (suc zero) h = refl
test_digit (suc (suc d)) h = absurd (omega arith)

module _ (word i : ℕ) where
  -- A bit is the digit there.
  pub has_low : has_bit word i ≡ eqb (word / 2 ^ i % 2) 1
  unfolding has_bit
  has_low = refl

  pub has_digit : word / 2 ^ i % 2 ≡ digit (has_bit word i)
  has_digit = test_digit _ (mod-lt _ (lit< tt)) ∙ ap digit (sym has_low)

  -- A word has those below 32.
  pub bit_has : i < 32 → bit_at word i ≡ has_bit word i
  unfolding bit_at
  bit_has h = rw (lt-ltb i 32 h)

  -- There it is the digit.
  pub bit_low : i < 32 → bit_at word i ≡ eqb (word / 2 ^ i % 2) 1
  bit_low h = bit_has h ∙ has_low

  -- No bit above 31 is set.
  pub bit_high : 32 ≤ i → bit_at word i ≡ false
  unfolding bit_at
  bit_high h = rw (le-ltb i 32 h)

  pub bit_digit : i < 32 → word / 2 ^ i % 2 ≡ digit (bit_at word i)
  bit_digit h = has_digit ∙ ap digit (sym (bit_has h))

-- ---- an operation on two words works on each bit apart

module _ (op f : ℕ → ℕ → ℕ) (g : Bool → Bool → Bool)
    (shr : (a b k : ℕ) → op a b / 2 ^ k ≡ op (a / 2 ^ k) (b / 2 ^ k))
    (step : (a b : ℕ) → op a b ≡ op (a / 2) (b / 2) * 2 + f (a % 2) (b % 2))
    (one : (p q : Bool) → f (digit p) (digit q) ≡ digit (g p q)) (a b i : ℕ) where
  has_op : has_bit (op a b) i ≡ g (has_bit a i) (has_bit b i)
  has_op =
      let r : Bool = g (has_bit a i) (has_bit b i) in
      let d : op a b / 2 ^ i % 2 ≡ digit r = rw (shr, step, has_digit a i, has_digit b i, one) (digits_mod _ (digit_small r)) in
      has_low (op a b) i ∙ rw (d, digit_test)

  bit_op : g false false ≡ false → bit_at (op a b) i ≡ g (bit_at a i) (bit_at b i)
  bit_op none =
      below i
      (λ h. rw (bit_has (op a b) i h, bit_has a i h, bit_has b i h) has_op)
      (λ h. rw (bit_high (op a b) i h, bit_high a i h, bit_high b i h) (sym none))

pub has_or : (a b i : ℕ) → has_bit (bit_or a b) i ≡ (has_bit a i || has_bit b i)
has_or = has_op bit_or max ◌||◌ or_shr or_step (pairs _ refl refl refl refl)

pub bit_and_lem : (a b i : ℕ) → bit_at (bit_and a b) i ≡ (bit_at a i && bit_at b i)
bit_and_lem a b i = bit_op bit_and min ◌&&◌ and_shr and_step (pairs _ refl refl refl refl) a b i refl

pub bit_or_lem : (a b i : ℕ) → bit_at (bit_or a b) i ≡ (bit_at a i || bit_at b i)
bit_or_lem a b i = bit_op bit_or max ◌||◌ or_shr or_step (pairs _ refl refl refl refl) a b i refl

pub bit_xor_lem : (a b i : ℕ) → bit_at (bit_xor a b) i ≡ not (same_bit (bit_at a i) (bit_at b i))
bit_xor_lem a b i = bit_op bit_xor differ (λ p q. not (same_bit p q)) xor_shr xor_step (pairs _ refl refl refl refl) a b i refl

-- ---- two words are equal if each of their bits is the same

-- two tests that pass together are one
pub same_truth : (p q : Bool) → (p ≡ true → q ≡ true) → (q ≡ true → p ≡ true) → p ≡ q
same_truth true q f g = sym (f refl)
same_truth false true f g = g refl
same_truth false false f g = refl

-- two numbers by their high part and their low part
same_parts : (n a b r s : ℕ) → r < n → s < n → eqb (a * n + r) (b * n + s) ≡ (eqb r s && eqb a b)
same_parts n a b r s hr hs =
    same_truth _ _
    (λ e.
    let f : a * n + r ≡ b * n + s = eqb-true _ _ e in
    let low : r ≡ s = sym (digits_mod a hr) ∙ ap (λ (x : ℕ). x % n) f ∙ digits_mod b hs in
    let high : a ≡ b = sym (digits_div a hr) ∙ ap (λ (x : ℕ). x / n) f ∙ digits_div b hs in
    rw (eq-eqb r s low, eq-eqb a b high))
    (λ e.
    let k : (eqb r s ≡ true) × (eqb a b ≡ true) = (and-eq-true_iff (eqb r s) (eqb a b)).0 e in
    eq-eqb _ _ (ap₂ (λ (x y : ℕ). x * n + y) (eqb-true a b k.1) (eqb-true r s k.0)))

module _ (x y : ℕ) where
  same_below : (n : ℕ) → n ≤ 32 → eqb (x % 2 ^ n) (y % 2 ^ n) ≡ every_below n (λ i. same_bit (bit_at x i) (bit_at y i))
  unfolding every_below
  same_below zero h = eq-eqb _ _ (mod-one x ∙ sym (mod-one y))
  same_below (suc n) h =
      let top : eqb (x / 2 ^ n % 2) (y / 2 ^ n % 2) ≡ same_bit (bit_at x n) (bit_at y n) = rw (bit_digit x n h, bit_digit y n h, digit_same) in
      rw (← one-add n, mod-pow-add x 1 n, mod-pow-add y 1 n)
      (same_parts (2 ^ n) _ _ _ _ (mod-lt x (pow_pos n)) (mod-lt y (pow_pos n)) ∙ ap₂ ◌&&◌ (same_below n (omega arith)) top)

  pub same_word : x < 2 ^ 32 → y < 2 ^ 32 → eqb x y ≡ every_below 32 (λ i. same_bit (bit_at x i) (bit_at y i))
  same_word hx hy = rw (mod-eq_of_lt hx, mod-eq_of_lt hy) at (same_below 32 (lit≤ tt))
