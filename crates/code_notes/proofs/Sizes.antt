-- How long the parts of a note can be, whatever the two states hold; and what a scratch array holds that is long enough.
use Prim.Native.Nat.{ℕ, ◌+◌, ◌*◌, ◌/◌, ◌%◌, ◌≤◌, ◌<◌}
use mathlib.Core.Path.{◌≡◌, refl, ap, sym, ◌∙◌}
use mathlib.Core.Bool.{Bool, true, false, cond}
use mathlib.Core.List.{List, ◌++◌}
use native.Mathlib.Nat.{mod-eq_of_lt}
use native.Mathlib.Omega.{arith}
use lib.Dec.{eqb, ltb}
use lib.ListN.{length, take, length-append}
use borrow.Author.Tests.{ltb-true}
use Rattle.base_bytes.specs.Bytes.{le}
use Rattle.base_bytes.specs.Pens.{pen, puts}
use Rattle.base_bytes.proofs.Writing.{front_written, length_puts}
use Rattle.spec_kernel.specs.declared.records.Thread.{Thread}
use Rattle.spec_kernel.specs.declared.records.Semaphore.{Semaphore}
use Rattle.spec_kernel.specs.declared.records.Event.{Event}
use Rattle.spec_kernel.specs.declared.records.Message.{Message}
use Rattle.spec_kernel.specs.Sizes.{thread_count, semaphore_count, event_count, message_count}
use Rattle.spec_moves.specs.declared.parts.Threads.{Threads}
use Rattle.spec_moves.specs.declared.parts.Posts.{Posts}
use Rattle.spec_calls.specs.declared.call.Call.{Call}
use Rattle.spec_calls.specs.declared.kinds.Which.{Which}
use Rattle.spec_calls.specs.declared.kinds.Which.TheVariants.{Runner, Waiter, New, Taken, Any}
use Rattle.spec_calls.specs.Kinds.{is_which, kind_of, names, id_named}
use Rattle.spec_notes.specs.Sections.{thread_entries, semaphore_entries, bit_noted, event_entries, message_entries}
use Rattle.code_notes_spans.specs.Spans.{Span, span, alone, span_of, in_span, thread_span, semaphore_span, event_span, message_span}
use Rattle.spec_notes.proofs.EntriesShort.{threads_run, semaphores_run, bit_short, events_run, messages_run}

-- what was written to the front of an array that is long enough: that it stands there, and how far it goes
pub composed : (l m part : List ℕ) (r : ℕ) → pen m r ≡ puts (pen l 0) part → length part ≤ length l
    → (r ≤ length m) × (take r m ≡ part) × (r ≡ length part)
composed l m part r e h =
    let (n, t) = front_written l m part r e h in
    let s : length m ≡ length l = ap (λ p. length p.log) e ∙ length_puts (pen l 0) part in
    (omega (arith, n, s, h), t, n)

low : (q r : ℕ) → r < 256 → (256 * q + r) % 256 ≡ r
low q r h = omega arith

-- two bytes hold no more of a number than what is below 65,536
pub two_bytes_lem : (x : ℕ) → le 2 (x % 65536) ≡ le 2 x
unfolding le
two_bytes_lem x =
    let a : x % 65536 % 256 ≡ x % 256 = omega arith in
    let h : x / 256 ≡ 256 * (x / 65536) + x % 65536 / 256 = omega arith in
    let l : x % 65536 / 256 < 256 = omega arith in
    let b : x % 65536 / 256 % 256 ≡ x / 256 % 256 = mod-eq_of_lt l ∙ sym (rw h (low (x / 65536) (x % 65536 / 256) l)) in
    rw (a, b)

-- ---- the spans stay within their tables
record Inside (size : ℕ) (s : Span) : Type 0 where
  fits : s.first + s.count ≤ size

either : (b : Bool) {size : ℕ} {s t : Span} → Inside size s → Inside size t → Inside size (cond b s t)
either true p q = p
either false p q = q

none : (size : ℕ) → Inside size (span 0 0)
none size = record { fits = omega arith }

all : (size : ℕ) → Inside size (span 0 size)
all size = record { fits = omega arith }

alone_inside : (size x : ℕ) → Inside size (alone size x)
alone_inside size x = go (ltb x size) refl
  where
    go : (b : Bool) → ltb x size ≡ b → Inside size (cond b (span x 1) (span 0 0))
    go true e = record { fits = omega (arith, ltb-true x size e) }
    go false e = none size

span_in : (size : ℕ) (which : Which) (c : Call) (runner value waiter : ℕ) → Inside size (span_of size which c runner value waiter)
unfolding span_of
span_in size which c runner value waiter =
    either (is_which which Any) (all size)
    (either (names which) (alone_inside size (id_named which c))
    (either (is_which which Runner) (alone_inside size runner)
    (either (is_which which Waiter) (alone_inside size waiter)
    (either (is_which which New) (alone_inside size value) (either (is_which which Taken) (alone_inside size value) (none size))))))

thread_in_lem : (c : Call) (runner value waiter : ℕ) → Inside thread_count (thread_span c runner value waiter)
unfolding thread_span
thread_in_lem c runner value waiter = span_in thread_count (kind_of c).thread c runner value waiter

semaphore_in : (c : Call) (value : ℕ) → Inside semaphore_count (semaphore_span c value)
unfolding semaphore_span
semaphore_in c value = span_in semaphore_count (kind_of c).semaphore c 255 value 255

event_in : (c : Call) → Inside event_count (event_span c)
unfolding event_span
event_in c = span_in event_count (kind_of c).event c 255 255 255

message_in_lem : (c : Call) (value : ℕ) → Inside message_count (message_span c value)
unfolding message_span
message_in_lem c value = span_in message_count (kind_of c).message c 255 value 255

pub thread_inside : (c : Call) (runner value waiter : ℕ)
    → (thread_span c runner value waiter).first + (thread_span c runner value waiter).count ≤ thread_count
thread_inside c runner value waiter = (thread_in_lem c runner value waiter).fits

pub semaphore_inside : (c : Call) (value : ℕ) → (semaphore_span c value).first + (semaphore_span c value).count ≤ semaphore_count
semaphore_inside c value = (semaphore_in c value).fits

pub event_inside : (c : Call) → (event_span c).first + (event_span c).count ≤ event_count
event_inside c = (event_in c).fits

pub message_inside : (c : Call) (value : ℕ) → (message_span c value).first + (message_span c value).count ≤ message_count
message_inside c value = (message_in_lem c value).fits

-- ---- so many bytes each
module _ (c : Call) where
  pub threads_short : (runner waiter : ℕ) (old : Threads) (new : List Thread) (value : ℕ)
      → length (in_span (thread_span c runner value waiter) (thread_entries c runner old new)) ≤ 15 * thread_count
  threads_short runner waiter old new value =
      let s = thread_span c runner value waiter in
      omega (arith, thread_inside c runner value waiter, threads_run c old new runner s.first s.count)

  pub semaphores_short : (old new : List Semaphore) (value : ℕ)
      → length (in_span (semaphore_span c value) (semaphore_entries c old new)) ≤ 15 * semaphore_count
  semaphores_short old new value =
      let s = semaphore_span c value in
      omega (arith, semaphore_inside c value, semaphores_run c old new s.first s.count)

  pub events_short : (bits after : ℕ) (old new : List Event)
      → length (bit_noted bits after ++ in_span (event_span c) (event_entries old new)) ≤ 1 + 11 * event_count
  events_short bits after old new =
      let s = event_span c in
      rw length-append (omega (arith, bit_short bits after, event_inside c, events_run old new s.first s.count))

  pub messages_short : (runner : ℕ) (old : Posts) (new : List Message) (value : ℕ)
      → length (in_span (message_span c value) (message_entries c runner old new)) ≤ 17 * message_count
  messages_short runner old new value =
      let s = message_span c value in
      omega (arith, message_inside c value, messages_run c runner old new s.first s.count)
