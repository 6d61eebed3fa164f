-- How many pass a test, which is how many have what the test says.
use Prim.Native.Nat.{ℕ, zero, suc, ◌+◌}
use mathlib.Core.Path.{◌≡◌, refl, sym, ap, ◌∙◌}
use mathlib.Core.Bool.{Bool, true, not, false≢true}
use mathlib.Core.Logic.{◌↔◌}
use native.Mathlib.Omega.{arith}
use borrow.Table.Steps.{cases}
use Rattle.base_bits.specs.Words.{same_bit}
use Rattle.base_queue.specs.Tables.{one}
use Rattle.spec_kernel.specs.declared.records.Message.{Message}
use Rattle.spec_kernel.specs.declared.records.Kernel.{Kernel}
use Rattle.spec_kernel.specs.Sizes.{thread_count, semaphore_count, message_count, flag_count}
use Rattle.spec_kernel.specs.Records.{thread, semaphore, message, flag}
use Rattle.spec_notes.specs.Touched.{same_thread, same_semaphore, same_message}
use Rattle.spec_notes.specs.Counts.{Counts, none, has, lacks, without_place}

-- ---- tests
-- how many of n ids from i on pass a test
abbrev pub count_from : (ℕ → Bool) → ℕ → ℕ → ℕ
count_from f i zero = 0
count_from f i (suc n) = let r = count_from f (suc i) n in one (f i) + r

unfoldable pub same_message_record : Message → Message → Bool
same_message_record r s = same_message (without_place r) (without_place s)

unfoldable pub threads_differ : Kernel → Kernel → ℕ
threads_differ k k' = count_from (λ t. not (same_thread (thread k t) (thread k' t))) 0 thread_count

unfoldable pub semaphores_differ : Kernel → Kernel → ℕ
semaphores_differ k k' = count_from (λ i. not (same_semaphore (semaphore k i) (semaphore k' i))) 0 semaphore_count

unfoldable pub messages_differ : Kernel → Kernel → ℕ
messages_differ k k' = count_from (λ m. not (same_message_record (message k m) (message k' m))) 0 message_count

unfoldable pub flags_differ : Kernel → Kernel → ℕ
flags_differ k k' = count_from (λ i. not (same_bit (flag k i) (flag k' i))) 0 flag_count

-- ---- what they count
-- the last of n ids may as well be counted first
count_last : (f : ℕ → Bool) (i n last : ℕ) → i + n ≡ last → count_from f i (suc n) ≡ one (f last) + count_from f i n
count_last f i zero last e = let z : i ≡ last = omega arith in rw z
count_last f i (suc n) last e = let r = count_last f (suc i) n last (omega arith) in omega arith

module _ (P : ℕ → Type 0) where
  -- those that pass a test which says exactly P
  pub counts_tested : (f : ℕ → Bool) → ((i : ℕ) → (f i ≡ true) ↔ P i) → (n : ℕ) → Counts P n (count_from f 0 n)
  counts_tested f means zero = none
  counts_tested f means (suc n) =
      let r = counts_tested f means n in
      let l = count_last f 0 n n (omega arith) in
      cases (f n)
      (λ e. let c = rw e at l in
      let z : count_from f 0 (suc n) ≡ suc (count_from f 0 n) = omega arith in
      rw z (has ((means n).0 e) r))
      (λ e. let c = rw e at l in
      let z : count_from f 0 (suc n) ≡ count_from f 0 n = omega arith in
      rw z (lacks (λ p. false≢true (sym e ∙ (means n).1 p)) r))

  -- two that count the same are equal
  pub counts_once : {n t s : ℕ} → Counts P n t → Counts P n s → t ≡ s
  counts_once none none = refl
  counts_once (has p c) (has q d) = ap suc (counts_once c d)
  counts_once (has p c) (lacks q d) = absurd (q p)
  counts_once (lacks p c) (has q d) = absurd (p q)
  counts_once (lacks p c) (lacks q d) = counts_once c d
