-- The part of the state that a post touches: the threads and their places, and the semaphores.
use Rattle.std.specs.Prelude.{ℕ, ◌≡◌, set}
use Rattle.spec_kernel.specs.declared.records.Semaphore.{Semaphore}
use Rattle.spec_kernel.specs.declared.records.Kernel.{Kernel}
use Rattle.spec_moves.specs.Standing.{threads_of}
use Rattle.spec_moves.specs.States.{with_threads, with_semaphores}
use Rattle.code_semaphores.specs.declared.waiting.Waiting.{Waiting}

abbrev pub waiting_of : Kernel → Waiting
waiting_of k = record { threads = threads_of k; semaphores = k.semaphores }

abbrev pub with_waiting : Waiting → Kernel → Kernel
with_waiting w k = with_semaphores w.semaphores (with_threads w.threads k)

-- semaphore i gets the record r
abbrev pub storing : ℕ → Semaphore → Waiting → Waiting
storing i r w = record { threads = w.threads; semaphores = set w.semaphores i r }

-- x is w after f: in every state, whatever the rest of it holds
abbrev pub Does : (Kernel → Kernel) → Waiting → Waiting → Type 0
Does f w x = (k : Kernel) → with_waiting x k ≡ f (with_waiting w k)
