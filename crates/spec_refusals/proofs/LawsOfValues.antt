-- The value that comes back, by the kind of the call.
use mathlib.Core.Path.{◌≡◌}
use Rattle.spec_kernel.specs.declared.records.Kernel.{Kernel}
use Rattle.spec_kernel.specs.Free.{free_thread, free_semaphore, free_message, free_flag}
use Rattle.spec_kernel.specs.Channels.{next_message}
use Rattle.spec_calls.specs.declared.call.Call.{Call}
use Rattle.spec_calls.specs.Kinds.{kind_of}
use Rattle.spec_refusals.specs.Named.{value_of}

module _ (k : Kernel) (c : Call) where
  -- The value: the new id of a create, and the message that a pend takes, 255 where it takes none [01, answers 1].
  pub thread_given : c.kind ≡ 2 → value_of k c ≡ free_thread k
  unfolding value_of kind_of
  thread_given e = rw e

  pub semaphore_given : c.kind ≡ 14 → value_of k c ≡ free_semaphore k
  unfolding value_of kind_of
  semaphore_given e = rw e

  pub message_given : c.kind ≡ 24 → value_of k c ≡ free_message k
  unfolding value_of kind_of
  message_given e = rw e

  pub message_received : c.kind ≡ 27 → value_of k c ≡ next_message k c.b
  unfolding value_of kind_of
  message_received e = rw e

  pub flag_given : c.kind ≡ 31 → value_of k c ≡ free_flag k
  unfolding value_of kind_of
  flag_given e = rw e
