-- Which message a pend takes.
use Rattle.std.specs.Prelude.{ℕ, zero, suc, Bool, cond, ◌&&◌, List, [], ◌++◌, eqb, get_or}
use Rattle.base_queue.specs.declared.Queue.{Queue}
use Rattle.base_queue.specs.Lists.{keep, first_of}
use Rattle.base_queue.specs.Queues.{items}
use Rattle.spec_kernel.specs.declared.records.Message.{Message}
use Rattle.spec_kernel.specs.declared.records.Kernel.{Kernel}
use Rattle.spec_kernel.specs.Sizes.{channel_count}
use Rattle.spec_kernel.specs.Records.{no_message}
use Rattle.spec_kernel.specs.Conditions.{masks}
use Rattle.spec_kernel.specs.Places.{channel}

-- the masked ones of thread t's n channels from c on, one behind the other
unfoldable pub masked_from : Kernel → ℕ → ℕ → ℕ → ℕ → List ℕ
masked_from k t mask c zero = []
masked_from k t mask c (suc n) = cond (masks mask c) (channel k t c) [] ++ masked_from k t mask (suc c) n

-- The message that a pend gets: of the channels it asks for, the lowest with any, and there the oldest; else 255 [01, calls: Message 3].
unfoldable pub lowest_masked : Kernel → ℕ → ℕ → ℕ
lowest_masked k t mask = first_of (masked_from k t mask 1 channel_count)

abbrev pub is_for : ℕ → ℕ → Message → Bool
is_for t mask r = eqb r.owner t && masks mask r.channel

-- the first of the posted messages that thread t may take; in a state that keeps the rules this is the one above
unfoldable pub first_for : List Message → Queue → ℕ → ℕ → ℕ
first_for messages posted t mask = first_of (keep (λ m. is_for t mask (get_or messages m no_message)) (items posted))

-- the running thread's
abbrev pub next_message : Kernel → ℕ → ℕ
next_message k mask = first_for k.messages k.posted k.runner mask
