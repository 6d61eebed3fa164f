-- The state rules of document 01, in its terms and order: one definition for each, and the record that collects them.
use Rattle.std.specs.Prelude.{ℕ, ◌+◌, ◌≤◌, ◌<◌, ◌≡◌, Bool, true, false, ◌&&◌, [], ◌⊎◌, eqb, ltb, length}
use Rattle.base_queue.specs.Lists.{count, Ordered}
use Rattle.base_queue.specs.Queues.{capacity, items, Tidy}
use Rattle.base_queue.specs.Tables.{one}
use Rattle.spec_kernel.specs.declared.records.Condition.TheVariants.{ForMessage}
use Rattle.spec_kernel.specs.declared.records.Kernel.{Kernel}
use Rattle.spec_kernel.specs.Records.{thread, semaphore, event, message, flag, no_thread, no_semaphore, no_message}
use Rattle.spec_kernel.specs.Sizes.{thread_count, semaphore_count, event_count, message_count, priority_count, channel_count}
use Rattle.spec_kernel.specs.Conditions.{is_ready, Class, of_semaphores, of_events, of_flags, ids_in, on_object, waits_for, is_timed, masks}
use Rattle.spec_kernel.specs.Places.{home_of, has_home, at_home, ready_list, queue_of, semaphore_queue}
use Rattle.spec_kernel.specs.Places.{event_queue, time_queue, channel, on_channel, is_queued, stream_of}
use Rattle.spec_kernel.specs.Truth.{is_true}
use Rattle.spec_kernel.specs.Runner.{first_ready}

-- What the types give of every value: the number of records, the store of each table, and bytes for priorities.
pub record Sized (k : Kernel) : Type 0 where
  pub threads : length k.threads ≡ thread_count
  pub semaphores : length k.semaphores ≡ semaphore_count
  pub events : length k.events ≡ event_count
  pub messages : length k.messages ≡ message_count
  pub places : length k.places.at ≡ capacity
  pub time : length k.time.at ≡ capacity
  pub posted : length k.posted.at ≡ capacity
  pub priorities : (t : ℕ) → (thread k t).priority < 256
  pub channels : (m : ℕ) → (message k m).channel < 256

-- That a thread has a single condition needs no rule: it is one field of the record [01, state 1.1].

-- A ready thread stands once in the list of its priority; nobody else stands there [01, state 1.2].
unfoldable pub ReadyPlaces : Kernel → Type 0
ReadyPlaces k = (t p : ℕ) → p ≤ priority_count → count t (ready_list k p) ≡ one (is_ready (thread k t) && eqb (thread k t).priority p)

-- Who waits for a semaphore, event or flag stands once in its queue, and nobody else does; what is waited for is live [01, state 1.3;
-- 02 §1].
unfoldable pub WaitingPlaces : Kernel → Type 0
WaitingPlaces k = (class : Class) (t i : ℕ) → i < ids_in class → count t (queue_of class k i) ≡ one (waits_for class i (thread k t))

-- a semaphore or a flag that is live; an event is always there
abbrev pub is_object : Class → Kernel → ℕ → Bool
is_object of_semaphores k i = (semaphore k i).live
is_object of_events k i = ltb i event_count
is_object of_flags k i = flag k i

unfoldable pub LiveObjects : Kernel → Type 0
LiveObjects k = (class : Class) (t i : ℕ) → on_object class i (thread k t).condition ≡ true → is_object class k i ≡ true

-- Who isn't live, sleeps or waits for a message stands in no list and no such queue [01, state 1.4].
unfoldable pub NoOtherPlaces : Kernel → Type 0
NoOtherPlaces k = (t : ℕ) → has_home (thread k t) ≡ false → count t (items k.places) ≡ 0

-- In each of the three tables the store behind the last place is 0 [01, state 1.5].
unfoldable pub UnusedStore : Kernel → Type 0
UnusedStore k = Tidy k.places × Tidy k.time × Tidy k.posted

-- Who sleeps, or waits and has ticks left, stands once in the time queue; nobody else stands there [01, state 2].
unfoldable pub TimePlaces : Kernel → Type 0
TimePlaces k = (t : ℕ) → count t (time_queue k) ≡ one (is_timed (thread k t))

-- Nobody waits before a higher priority; the moves keep the order of arrival. Of every home: a ready list has one priority [01, state 3.1].
unfoldable pub WaitingOrder : Kernel → Type 0
WaitingOrder k = (home : ℕ) → Ordered (λ t. (thread k t).priority) (at_home k home)

-- In the time queue nobody stands before one with fewer ticks left; the moves keep the order of entry [01, state 3.2].
unfoldable pub TimeOrder : Kernel → Type 0
TimeOrder k = Ordered (λ t. (thread k t).ticks) (time_queue k)

-- While anybody waits for a semaphore its count is 0 [01, state 4.1].
unfoldable pub WaitersAtZero : Kernel → Type 0
WaitersAtZero k = (i : ℕ) → i < semaphore_count → (semaphore_queue k i ≡ [] → ⊥) → (semaphore k i).count ≡ 0

-- No count is above its maximum [01, state 4.2].
unfoldable pub CountsAtMost : Kernel → Type 0
CountsAtMost k = (i : ℕ) → (semaphore k i).count ≤ (semaphore k i).maximum

-- Nobody waits for an event that is TRUE [01, state 4.3].
unfoldable pub TrueWithoutWaiters : Kernel → Type 0
TrueWithoutWaiters k = (i : ℕ) → i < event_count → is_true k.bits (event k i) ≡ true → event_queue k i ≡ []

-- On a channel that it waits for, a thread has no message [01, state 5].
unfoldable pub NoneAwaited : Kernel → Type 0
NoneAwaited k = (t c mask : ℕ) → (thread k t).condition ≡ ForMessage mask → masks mask c ≡ true → channel k t c ≡ []

-- Whoever owns a live message is live [01, state 6.1].
unfoldable pub LiveOwners : Kernel → Type 0
LiveOwners k = (m : ℕ) → (message k m).live ≡ true → (thread k (message k m).owner).live ≡ true

-- A queued message stands once, in the one channel of its owner that it is on, a held one in none; the moves keep the age [01, state 6.1].
unfoldable pub ChannelPlaces : Kernel → Type 0
ChannelPlaces k = (m t c : ℕ) → 0 < c → count m (channel k t c) ≡ one (is_queued (message k m) && on_channel t c (message k m))

-- A message that is held, or isn't live, stands in nobody's channel [01, state 6.2].
unfoldable pub NoOtherPosts : Kernel → Type 0
NoOtherPosts k = (m : ℕ) → is_queued (message k m) ≡ false → count m (items k.posted) ≡ 0

-- The sizes [01, state 7.1; modelled 4]. Counts, times, types, sizes, addresses and levels have theirs from their types.
unfoldable pub PrioritySizes : Kernel → Type 0
PrioritySizes k =
    (t : ℕ) → (thread k t).live ≡ true
    → (1 ≤ (thread k t).priority) × ((thread k t).priority ≤ priority_count) × (1 ≤ (thread k t).first) × ((thread k t).first ≤ priority_count)

unfoldable pub MaskSizes : Kernel → Type 0
MaskSizes k = (t mask : ℕ) → (thread k t).condition ≡ ForMessage mask → (1 ≤ mask) × (mask ≤ 32767)

unfoldable pub ReplySizes : Kernel → Type 0
ReplySizes k = (t : ℕ) → ((thread k t).reply < message_count) ⊎ ((thread k t).reply ≡ 255)

unfoldable pub MaximumSizes : Kernel → Type 0
MaximumSizes k = (i : ℕ) → (semaphore k i).live ≡ true → 1 ≤ (semaphore k i).maximum

unfoldable pub MessageSizes : Kernel → Type 0
MessageSizes k = (m : ℕ) → ((message k m).sender < thread_count) × ((message k m).channel ≤ channel_count)

-- Who is timed has ticks left, and so has a periodic semaphore [01, state 7.2].
unfoldable pub TicksLeft : Kernel → Type 0
TicksLeft k = (t : ℕ) → is_timed (thread k t) ≡ true → 0 < (thread k t).ticks

unfoldable pub PeriodicTicks : Kernel → Type 0
PeriodicTicks k = (i : ℕ) → 0 < (semaphore k i).period → 0 < (semaphore k i).ticks

-- A record that isn't live is 0 throughout, ready and none being 0 too [01, state 7.3].
unfoldable pub DeadThreads : Kernel → Type 0
DeadThreads k = (t : ℕ) → (thread k t).live ≡ false → thread k t ≡ no_thread

unfoldable pub DeadSemaphores : Kernel → Type 0
DeadSemaphores k = (i : ℕ) → (semaphore k i).live ≡ false → semaphore k i ≡ no_semaphore

unfoldable pub DeadMessages : Kernel → Type 0
DeadMessages k = (m : ℕ) → (message k m).live ≡ false → message k m ≡ no_message

-- Who isn't timed has no ticks left; nor has a semaphore whose period is 0, which isn't periodic [01, state 7.3].
unfoldable pub OtherTicks : Kernel → Type 0
OtherTicks k = (t : ℕ) → is_timed (thread k t) ≡ false → (thread k t).ticks ≡ 0

unfoldable pub UnperiodicTicks : Kernel → Type 0
UnperiodicTicks k = (i : ℕ) → (semaphore k i).period ≡ 0 → (semaphore k i).ticks ≡ 0

-- Outside every region the first ready thread runs, or none where none is ready [01, state 8.1].
unfoldable pub FirstRuns : Kernel → Type 0
FirstRuns k = k.unscheduled + k.critical ≡ 0 → k.runner ≡ first_ready k

-- Inside a region whoever runs is ready; it may be any ready thread [01, state 8.2].
unfoldable pub SomeRuns : Kernel → Type 0
SomeRuns k = 0 < k.unscheduled + k.critical → is_ready (thread k k.runner) ≡ true

-- How the lists lie in their store: in `places` by home, in `posted` by owner and channel. Not document 01's, ours.
unfoldable pub StoreOrder : Kernel → Type 0
StoreOrder k = Ordered (λ t. home_of (thread k t)) (items k.places) × Ordered (λ m. stream_of (message k m)) (items k.posted)

-- The state rules.
pub record Rules (k : Kernel) : Type 0 where
  pub ready_places : ReadyPlaces k
  pub waiting_places : WaitingPlaces k
  pub live_objects : LiveObjects k
  pub no_other_places : NoOtherPlaces k
  pub unused_store : UnusedStore k
  pub time_places : TimePlaces k
  pub waiting_order : WaitingOrder k
  pub time_order : TimeOrder k
  pub waiters_at_zero : WaitersAtZero k
  pub counts_at_most : CountsAtMost k
  pub true_without_waiters : TrueWithoutWaiters k
  pub none_awaited : NoneAwaited k
  pub live_owners : LiveOwners k
  pub channel_places : ChannelPlaces k
  pub no_other_posts : NoOtherPosts k
  pub priority_sizes : PrioritySizes k
  pub mask_sizes : MaskSizes k
  pub reply_sizes : ReplySizes k
  pub maximum_sizes : MaximumSizes k
  pub message_sizes : MessageSizes k
  pub ticks_left : TicksLeft k
  pub periodic_ticks : PeriodicTicks k
  pub dead_threads : DeadThreads k
  pub dead_semaphores : DeadSemaphores k
  pub dead_messages : DeadMessages k
  pub other_ticks : OtherTicks k
  pub unperiodic_ticks : UnperiodicTicks k
  pub first_runs : FirstRuns k
  pub some_runs : SomeRuns k
  pub store_order : StoreOrder k
