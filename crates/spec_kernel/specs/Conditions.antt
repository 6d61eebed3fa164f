-- What a thread's condition says.
use Rattle.std.specs.Prelude.{ℕ, ◌-◌, Bool, true, false, ◌&&◌, eqb, ltb}
use Rattle.base_bits.specs.Words.{bit_at}
use Rattle.spec_kernel.specs.declared.records.Condition.{Condition}
use Rattle.spec_kernel.specs.declared.records.Condition.TheVariants.{Ready, Asleep, ForSemaphore, ForEvent, ForMessage, ForFlag}
use Rattle.spec_kernel.specs.declared.records.Thread.{Thread}
use Rattle.spec_kernel.specs.Sizes.{semaphore_count, event_count, flag_count}

abbrev pub ready_for : Condition → Bool
ready_for Ready = true
ready_for Asleep = false
ready_for (ForSemaphore i) = false
ready_for (ForEvent i) = false
ready_for (ForMessage mask) = false
ready_for (ForFlag i) = false

-- a live thread that is ready
abbrev pub is_ready : Thread → Bool
is_ready r = r.live && ready_for r.condition

-- The classes of objects that have a queue of waiting threads [01, state 1.3; 02 §1].
pub data Class : Type 0 where
  of_semaphores : Class
  of_events : Class
  of_flags : Class

abbrev pub ids_in : Class → ℕ
ids_in of_semaphores = semaphore_count
ids_in of_events = event_count
ids_in of_flags = flag_count

abbrev pub on_object : Class → ℕ → Condition → Bool
on_object class i Ready = false
on_object class i Asleep = false
on_object of_semaphores i (ForSemaphore j) = eqb j i
on_object of_events i (ForSemaphore j) = false
on_object of_flags i (ForSemaphore j) = false
on_object of_semaphores i (ForEvent j) = false
on_object of_events i (ForEvent j) = eqb j i
on_object of_flags i (ForEvent j) = false
on_object class i (ForMessage mask) = false
on_object of_semaphores i (ForFlag j) = false
on_object of_events i (ForFlag j) = false
on_object of_flags i (ForFlag j) = eqb j i

-- a live thread that waits for object i of this class
abbrev pub waits_for : Class → ℕ → Thread → Bool
waits_for class i r = r.live && on_object class i r.condition

abbrev pub timed_for : Condition → ℕ → Bool
timed_for Ready ticks = false
timed_for Asleep ticks = true
timed_for (ForSemaphore i) ticks = ltb 0 ticks
timed_for (ForEvent i) ticks = ltb 0 ticks
timed_for (ForMessage mask) ticks = ltb 0 ticks
timed_for (ForFlag i) ticks = ltb 0 ticks

-- A live thread that sleeps, or waits and has ticks left: who belongs in the time queue [01, state 2].
abbrev pub is_timed : Thread → Bool
is_timed r = r.live && timed_for r.condition r.ticks

-- Channel c is bit c - 1 of the mask; no mask has a channel 0 [01, calls: Message 3].
abbrev pub masks : ℕ → ℕ → Bool
masks mask c = ltb 0 c && bit_at mask (c - 1)

-- a thread of this condition waits for messages on channel c
abbrev pub awaits : Condition → ℕ → Bool
awaits Ready c = false
awaits Asleep c = false
awaits (ForSemaphore i) c = false
awaits (ForEvent i) c = false
awaits (ForMessage mask) c = masks mask c
awaits (ForFlag i) c = false
