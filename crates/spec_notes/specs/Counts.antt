-- T, S and M of document 01 and F of document 02: how many thread, semaphore, message and flag records differ between two states, and the
-- most bytes of a note.
use Rattle.std.specs.Prelude.{ℕ, zero, suc, ◌+◌, ◌*◌, ◌≡◌}
use Rattle.spec_kernel.specs.declared.records.Message.{Message}
use Rattle.spec_kernel.specs.declared.records.Kernel.{Kernel}
use Rattle.spec_kernel.specs.Sizes.{thread_count, semaphore_count, message_count, flag_count}
use Rattle.spec_kernel.specs.Records.{thread, semaphore, message, flag}

-- Of the numbers below n, exactly `total` have the property.
pub data Counts (P : ℕ → Type 0) : ℕ → ℕ → Type 0 where
  none : Counts P zero zero
  has : {n total : ℕ} → P n → Counts P n total → Counts P (suc n) (suc total)
  lacks : {n total : ℕ} → (P n → ⊥) → Counts P n total → Counts P (suc n) total

-- A message's record without its channel, which is its place and no part of the record [01, notes 4].
abbrev pub without_place : Message → Message
without_place r =
    record {
      live = r.live;
      owner = r.owner;
      sender = r.sender;
      channel = 0;
      kind = r.kind;
      size = r.size;
      address = r.address;
    }

-- So many records of threads, of semaphores, of messages and of flags are not equal in the two states [01, notes 4; 02 §1].
pub record Differ (k k' : Kernel) (T S M F : ℕ) : Type 0 where
  pub threads : Counts (λ t. thread k t ≡ thread k' t → ⊥) thread_count T
  pub semaphores : Counts (λ i. semaphore k i ≡ semaphore k' i → ⊥) semaphore_count S
  pub messages : Counts (λ m. without_place (message k m) ≡ without_place (message k' m) → ⊥) message_count M
  pub flags : Counts (λ i. flag k i ≡ flag k' i → ⊥) flag_count F

-- The most bytes of a note, where so many differ [01, notes 4; 02 §1].
abbrev pub most_bytes : ℕ → ℕ → ℕ → ℕ → ℕ
most_bytes T S M F = 96 + 24 * T + 16 * S + 16 * M + 8 * F
