-- Which ids a call can touch, of each table: so many from a first one on. All others are as they were, so the same note can be
-- written without a look at them.
use Rattle.std.specs.Prelude.{ℕ, cond, List, eqb, ltb}
use Rattle.spec_kernel.specs.declared.records.Kernel.{Kernel}
use Rattle.spec_kernel.specs.Sizes.{thread_count, semaphore_count, event_count, message_count}
use Rattle.spec_kernel.specs.Places.{home}
use Rattle.code_kernel_find.specs.AtHome.{first_at_home}
use Rattle.spec_calls.specs.declared.call.Call.{Call}
use Rattle.spec_refusals.specs.Named.{class_by}
use Rattle.spec_calls.specs.declared.kinds.Which.{Which}
use Rattle.spec_calls.specs.declared.kinds.Which.TheVariants.{Any, New, Runner, Taken, Waiter}
use Rattle.spec_calls.specs.Kinds.{is_which, kind_of, names, id_named}

pub record Span : Type 0 where
  pub first : ℕ
  pub count : ℕ

abbrev pub span : ℕ → ℕ → Span
span first count = record { first = first; count = count }

-- one id; nobody where the table has no such id
abbrev pub alone : ℕ → ℕ → Span
alone size x = cond (ltb x size) (span x 1) (span 0 0)

-- The ids of a class of this size that a call can touch, by its column of the row: all, one, or nobody. A new one and a message that
-- is taken have the id that the call answers; `waiter` is the first that waits for semaphore or flag a.
unfoldable pub span_of : ℕ → Which → Call → ℕ → ℕ → ℕ → Span
span_of size which c runner value waiter =
    cond (is_which which Any) (span 0 size)
    (cond (names which) (alone size (id_named which c))
    (cond (is_which which Runner) (alone size runner)
    (cond (is_which which Waiter) (alone size waiter)
    (cond (is_which which New) (alone size value) (cond (is_which which Taken) (alone size value) (span 0 0))))))

unfoldable pub thread_span : Call → ℕ → ℕ → ℕ → Span
thread_span c runner value waiter = span_of thread_count (kind_of c).thread c runner value waiter

unfoldable pub semaphore_span : Call → ℕ → Span
semaphore_span c value = span_of semaphore_count (kind_of c).semaphore c 255 value 255

unfoldable pub event_span : Call → Span
event_span c = span_of event_count (kind_of c).event c 255 255 255

unfoldable pub message_span : Call → ℕ → Span
message_span c value = span_of message_count (kind_of c).message c 255 value 255

-- ---- the sections, of the ids in the span
abbrev pub in_span : Span → (ℕ → ℕ → List ℕ) → List ℕ
in_span s entries = entries s.first s.count

-- the first that waits for semaphore or flag a
abbrev pub waiter_of : Kernel → Call → ℕ
waiter_of k c = first_at_home k.threads k.places (home (class_by c) c.a)
