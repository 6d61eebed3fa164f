-- The two modes of a match, told from the masked bits that differ from their values: in mode all there is none, in mode any they
-- are not the whole mask. Assumes nothing.
use mathlib.Core.Path.{◌≡◌, refl, ap, ◌∙◌}
use mathlib.Core.Bool.{Bool, true, false, not, ◌&&◌, ◌||◌, and-false}
use Prim.Native.Nat.{ℕ, zero, suc, ◌^◌, ◌<◌}
use native.Mathlib.Nat.{lt_of_le_of_lt}
use lib.Bits.{bit_and, bit_xor, and_le_r}
use lib.Dec.{eqb, lit<}
use Rattle.base_bits.specs.Words.{bit_at, every_below, some_below, same_bit, all_match, any_match}
use Rattle.base_bits.proofs.Digits.{pairs, bit_and_lem, bit_xor_lem, same_word}
use Rattle.base_bits.proofs.Members.{has_none}

not_both : (a b : Bool) → not (a && b) ≡ (not a || not b)
not_both = pairs _ refl refl refl refl

not_every : (n : ℕ) (f : ℕ → Bool) → not (every_below n f) ≡ some_below n (λ i. not (f i))
unfolding every_below some_below
not_every zero f = refl
not_every (suc n) f = not_both (every_below n f) (f n) ∙ ap (λ (b : Bool). b || not (f n)) (not_every n f)

no_bit : (i : ℕ) → bit_at 0 i ≡ false
unfolding bit_at
no_bit i = rw (has_none, and-false)

-- of one bit, with its mask and its value: it is not a masked one that differs; it is not the mask again
all_bit : (m v b : Bool) → same_bit (not (same_bit b v) && m) false ≡ (not m || same_bit v b)
all_bit true = pairs _ refl refl refl refl
all_bit false = pairs _ refl refl refl refl

any_bit : (m v b : Bool) → not (same_bit (not (same_bit b v) && m) m) ≡ (m && same_bit v b)
any_bit true = pairs _ refl refl refl refl
any_bit false = pairs _ refl refl refl refl

module _ (mask values bits : ℕ) (h : mask < 2 ^ 32) where
  -- the masked bits that differ from their values
  abbrev wrong : ℕ
  wrong = bit_and (bit_xor bits values) mask

  wrong_at : (i : ℕ) → bit_at wrong i ≡ (not (same_bit (bit_at bits i) (bit_at values i)) && bit_at mask i)
  wrong_at i = rw (bit_and_lem, bit_xor_lem)

  wrong_small : wrong < 2 ^ 32
  wrong_small = lt_of_le_of_lt (and_le_r (bit_xor bits values) mask) h

  pub none_wrong : eqb wrong 0 ≡ all_match mask values bits
  unfolding all_match
  none_wrong = same_word wrong 0 wrong_small (lit< tt) ∙ simp (wrong_at, no_bit, all_bit)

  pub some_right : not (eqb wrong mask) ≡ any_match mask values bits
  unfolding any_match
  some_right = ap not (same_word wrong mask wrong_small h) ∙ not_every 32 _ ∙ simp (wrong_at, any_bit)
