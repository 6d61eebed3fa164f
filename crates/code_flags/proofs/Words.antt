-- The word of live flags stays one when a flag is made, also where none is free.
use Prim.Native.Nat.{ℕ, ◌<◌, ◌^◌}
use mathlib.Core.Path.{◌≡◌, refl}
use lib.Dec.{eqb}
use borrow.Author.Tests.{eqb-true, eqb-false}
use borrow.Table.Steps.{cases}
use Rattle.base_bits.specs.Words.{with_bit}
use Rattle.base_bits.proofs.Laws.{with_below}
use Rattle.spec_kernel.specs.Free.{lowest_clear}
use Rattle.spec_kernel.specs.Sizes.{flag_count}
use Rattle.spec_kernel.proofs.LowestClear.{clear_is_clear}

-- there is no bit 255
none_made : (word : ℕ) → with_bit word 255 ≡ word
unfolding with_bit
none_made word = refl

made_below : (n word : ℕ) → word < 2 ^ n → with_bit word (lowest_clear word 0 n) < 2 ^ n
made_below n word s =
    cases (eqb (lowest_clear word 0 n) 255)
    (λ e. rw (eqb-true (lowest_clear word 0 n) 255 e, none_made word) s)
    (λ e. with_below word (lowest_clear word 0 n) (clear_is_clear word n (eqb-false _ 255 e)).0 s)

pub made_fits : (flags : ℕ) → flags < 2 ^ 16 → with_bit flags (lowest_clear flags 0 flag_count) < 2 ^ 16
made_fits = made_below flag_count
