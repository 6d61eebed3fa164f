-- The tests count the records that are not equal: T, S and M of document 01, F of document 02.
use Prim.Native.Nat.{ℕ}
use mathlib.Core.Path.{◌≡◌, refl, sym, ◌∙◌}
use mathlib.Core.Bool.{Bool, true, false, not, false≢true}
use mathlib.Core.Logic.{◌↔◌}
use borrow.Author.Tests.{not-true}
use borrow.Table.Steps.{cases}
use Rattle.base_bits.specs.Words.{same_bit}
use Rattle.spec_kernel.specs.declared.records.Message.{Message}
use Rattle.spec_kernel.specs.declared.records.Kernel.{Kernel}
use Rattle.spec_kernel.specs.Records.{thread, semaphore, message, flag}
use Rattle.spec_notes.specs.Rows.{message_row}
use Rattle.spec_notes.specs.Touched.{same_thread, same_semaphore, same_message}
use Rattle.spec_notes.specs.Counts.{Differ, without_place}
use Rattle.spec_notes.proofs.RecordsBack.{same_thread_lem, same_semaphore_lem, same_message_lem}
use Rattle.spec_notes.proofs.Counting.{same_message_record, threads_differ, semaphores_differ, messages_differ, flags_differ}
use Rattle.spec_notes.proofs.Counting.{counts_tested}
use Rattle.spec_notes.proofs.Slight.{row_same}
use Rattle.spec_notes.proofs.Lengths.{thread_same, semaphore_same}

message_same : (r : Message) → same_message r r ≡ true
unfolding same_message
message_same r = row_same (message_row r 0)

bit_same : (b : Bool) → same_bit b b ≡ true
bit_same true = refl
bit_same false = refl

same_bit_lem : (a b : Bool) → same_bit a b ≡ true → a ≡ b
same_bit_lem true true h = refl
same_bit_lem true false h = sym h
same_bit_lem false true h = h
same_bit_lem false false h = refl

-- a test that passes for equals alone fails exactly for unequals
fails_exactly : {A : Type 0} (same : A → A → Bool) → ((x : A) → same x x ≡ true) → (x y : A) → (same x y ≡ true → x ≡ y)
    → (not (same x y) ≡ true) ↔ (x ≡ y → ⊥)
fails_exactly same equal x y means = (
  λ n e. false≢true (sym (not-true (same x y) n) ∙ rw e (equal y)),
  λ n. cases (same x y) (λ e. absurd (n (means e))) (λ e. rw e),
)

module _ (k k' : Kernel) where
  thread_differs_lem : (t : ℕ) → (not (same_thread (thread k t) (thread k' t)) ≡ true) ↔ (thread k t ≡ thread k' t → ⊥)
  thread_differs_lem t =
      fails_exactly same_thread thread_same (thread k t) (thread k' t)
      (same_thread_lem (thread k t) (thread k' t))

  semaphore_differs_lem : (i : ℕ) → (not (same_semaphore (semaphore k i) (semaphore k' i)) ≡ true) ↔ (semaphore k i ≡ semaphore k' i → ⊥)
  semaphore_differs_lem i =
      fails_exactly same_semaphore semaphore_same (semaphore k i) (semaphore k' i) (same_semaphore_lem (semaphore k i) (semaphore k' i))

  message_differs_lem : (m : ℕ)
      → (not (same_message_record (message k m) (message k' m)) ≡ true) ↔ (without_place (message k m) ≡ without_place (message k' m) → ⊥)
  unfolding same_message_record
  message_differs_lem m =
      let r = without_place (message k m) in
      let s = without_place (message k' m) in
      fails_exactly same_message message_same r s (same_message_lem r s)

  flag_differs : (i : ℕ) → (not (same_bit (flag k i) (flag k' i)) ≡ true) ↔ (flag k i ≡ flag k' i → ⊥)
  flag_differs i = fails_exactly same_bit bit_same (flag k i) (flag k' i) (same_bit_lem (flag k i) (flag k' i))

  pub differ : Differ k k' (threads_differ k k') (semaphores_differ k k') (messages_differ k k') (flags_differ k k')
  unfolding threads_differ semaphores_differ messages_differ flags_differ
  differ = record {
    threads = counts_tested _ _ thread_differs_lem _;
    semaphores = counts_tested _ _ semaphore_differs_lem _;
    messages = counts_tested _ _ message_differs_lem _;
    flags = counts_tested _ _ flag_differs _;
  }
