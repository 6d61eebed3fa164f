-- Free ids: what is created gets the lowest [01, modelled 5].
use Rattle.std.specs.Prelude.{ℕ, zero, suc, Bool, cond, List, [], ◌∷◌}
use Rattle.base_bits.specs.Words.{bit_at}
use Rattle.spec_kernel.specs.declared.records.Kernel.{Kernel}
use Rattle.spec_kernel.specs.Sizes.{flag_count}

module _ {A : Type 0} where
  -- the first place, counted from k, whose record isn't live; 255 where every one is
  abbrev pub lowest_free : (A → Bool) → ℕ → List A → ℕ
  lowest_free live k [] = 255
  lowest_free live k (r ∷ l) = let n = lowest_free live (suc k) l in cond (live r) n k

abbrev pub free_thread : Kernel → ℕ
free_thread k = lowest_free (λ r. r.live) 0 k.threads

abbrev pub free_semaphore : Kernel → ℕ
free_semaphore k = lowest_free (λ r. r.live) 0 k.semaphores

abbrev pub free_message : Kernel → ℕ
free_message k = lowest_free (λ r. r.live) 0 k.messages

-- the first of n bits from i on that is clear; 255 where every one is set
abbrev pub lowest_clear : ℕ → ℕ → ℕ → ℕ
lowest_clear word i zero = 255
lowest_clear word i (suc n) = let r = lowest_clear word (suc i) n in cond (bit_at word i) r i

abbrev pub free_flag : Kernel → ℕ
free_flag k = lowest_clear k.flags 0 flag_count
