-- `code_threads::freed_posts` meets its contract: the rest is those of the members passed that t doesn't own.
use Prim.Native.Nat.{ℕ, ◌≤◌}
use mathlib.Core.Path.{◌≡◌}
use mathlib.Core.Bool.{Bool, not}
use mathlib.Core.List.{List}
use lib.ListN.{length, take, get_or}
use Rattle.base_queue.specs.Lists.{keep}
use Rattle.base_queue.specs.Queues.{items, pack}
use Rattle.spec_kernel.specs.declared.records.Message.{Message}
use Rattle.spec_kernel.specs.Records.{no_message}
use Rattle.spec_threads.specs.Threads.{owns}
use Rattle.code_threads.proofs.freed_posts.Given as goal

abbrev pub stays : List Message → ℕ → ℕ → Bool
stays messages t m = not (owns t (get_or messages m no_message))

abbrev pub kept : List Message → ℕ → List ℕ → ℕ → List ℕ
kept messages t l i = keep (stays messages t) (take i l)

abbrev pub invariant-loop-m : goal.invariant-loop-m
invariant-loop-m l =
    (l.m-items ≡ items l.fn.posted) × (length (kept l.messages l.t l.m-items l.m-index) ≤ l.m-index)
    × (l.rest ≡ pack (kept l.messages l.t l.m-items l.m-index))
