-- What a call leaves as it was: who isn't touched keeps its place among the others that aren't, and the rest is told by the call.
use Rattle.std.specs.Prelude.{ℕ, ◌≡◌, not, cond, ◌⊎◌, length}
use Rattle.base_queue.specs.Lists.{keep}
use Rattle.base_queue.specs.Queues.{items}
use Rattle.base_bits.specs.Words.{bit_at, with_bit, without_bit}
use Rattle.spec_kernel.specs.declared.records.Kernel.{Kernel}
use Rattle.spec_kernel.specs.Sizes.{flag_count}
use Rattle.spec_kernel.specs.Free.{lowest_clear}
use Rattle.spec_calls.specs.declared.call.Call.{Call}
use Rattle.spec_notes.specs.Touched.{touched_thread, touched_message}
use Rattle.spec_notes.specs.Predicted.{predicted_flags}
use Rattle.spec_notes.specs.Back.{earlier}

-- the word with bit i the other way
abbrev pub other_way : ℕ → ℕ → ℕ
other_way word i = cond (bit_at word i) (without_bit word i) (with_bit word i)

-- The flags before are told by the call, or the lowest free one was made.
abbrev pub FlagsTold : Call → ℕ → ℕ → Type 0
FlagsTold c old new = (old ≡ predicted_flags c new) ⊎ (old ≡ without_bit (predicted_flags c new) (lowest_clear old 0 flag_count))

-- k before the call, k' after it
pub record LeftAlone (k : Kernel) (c : Call) (k' : Kernel) : Type 0 where
  pub thread_count : length k.threads ≡ length k'.threads
  pub semaphore_count : length k.semaphores ≡ length k'.semaphores
  pub event_count : length k.events ≡ length k'.events
  pub message_count : length k.messages ≡ length k'.messages
  pub places : keep (λ t. not (touched_thread k c k' t)) (items k'.places) ≡ keep (λ t. not (touched_thread k c k' t)) (items k.places)
  pub time : keep (λ t. not (touched_thread k c k' t)) (items k'.time) ≡ keep (λ t. not (touched_thread k c k' t)) (items k.time)
  pub posted : keep (λ m. not (touched_message k c k' m)) (items k'.posted) ≡ keep (λ m. not (touched_message k c k' m))
      (items k.posted)
  pub bits : (k.bits ≡ k'.bits) ⊎ (k.bits ≡ other_way k'.bits c.a)
  pub flags : FlagsTold c k.flags k'.flags
  pub uptime : k.uptime ≡ earlier c k'.uptime
