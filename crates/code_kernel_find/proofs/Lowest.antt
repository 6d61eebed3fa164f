-- The lowest free id, as the library's searches find it.
use Prim.Native.Nat.{ℕ, zero, suc}
use mathlib.Core.Path.{◌≡◌, refl}
use mathlib.Core.Bool.{Bool, not}
use mathlib.Core.List.{List, [], ◌∷◌}
use native.Mathlib.Numerals.{add-one}
use borrow.Table.Steps.{cases}
use Rattle.std.specs.List.{find, position, position_from, range_with_len}
use Rattle.std.specs.Option.{option_map_or, unwrap_or}
use Rattle.std.proofs.lemmas.Iterator.Adapters.{position_from-zero}
use Rattle.base_bits.specs.Words.{bit_at}
use Rattle.spec_kernel.specs.Free.{lowest_free, lowest_clear}

-- the place of the first record that isn't live, or 255
module _ {A : Type 0} (live : A → Bool) where
  lowest_from : (k : ℕ) (l : List A) → option_map_or (λ i. i) (position_from (λ r. not (live r)) k l) 255 ≡ lowest_free live k l
  lowest_from k [] = refl
  lowest_from k (x ∷ l) = cases (live x) (λ t. rw (t, add-one) (lowest_from (suc k) l)) (λ f. rw f)

  pub position_lowest : (l : List A) → option_map_or (λ i. i) (position (λ r. not (live r)) l) 255 ≡ lowest_free live 0 l
  position_lowest l = rw (position_from-zero (λ r. not (live r)) l) (lowest_from 0 l)

-- the first of n bits from i on that is clear, or 255
pub find_lowest : (word i n : ℕ) → unwrap_or (find (λ j. not (bit_at word j)) (range_with_len i n)) 255 ≡ lowest_clear word i n
find_lowest word i zero = refl
find_lowest word i (suc n) = cases (bit_at word i) (λ t. rw (t, add-one) (find_lowest word (suc i) n)) (λ f. rw f)
