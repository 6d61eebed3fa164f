-- From the rules of document 01 back to the records and the tables.
use Prim.Native.Nat.{ℕ}
use mathlib.Core.Path.{◌≡◌, refl, sym, ap, ◌∙◌}
use mathlib.Core.Bool.{true, false, false≢true, and-eq-true_iff}
use native.Mathlib.Omega.{arith}
use lib.Dec.{ltb}
use borrow.Author.Tests.{ltb-true}
use borrow.Table.Steps.{cases}
use Rattle.base_bits.specs.Words.{bit_at}
use Rattle.base_queue.specs.Lists.{count}
use Rattle.base_queue.specs.Queues.{items}
use Rattle.base_queue.specs.Tables.{one}
use Rattle.base_queue.proofs.Counts.{same, count_keep}
use Rattle.base_queue.proofs.Orders.{pairs_ordered}
use Rattle.spec_kernel.specs.declared.records.Condition.{Condition}
use Rattle.spec_kernel.specs.declared.records.Condition.TheVariants.{Ready, Asleep, ForSemaphore, ForEvent, ForMessage, ForFlag}
use Rattle.spec_kernel.specs.declared.records.Kernel.{Kernel}
use Rattle.spec_kernel.specs.Records.{thread, semaphore, event, message}
use Rattle.spec_kernel.specs.Sizes.{event_count, flag_count}
use Rattle.spec_kernel.specs.Conditions.{of_semaphores, of_events, of_flags, awaits, masks}
use Rattle.spec_kernel.specs.Places.{home_of, rank_of, semaphore_queue, event_queue, is_queued, channel}
use Rattle.spec_kernel.specs.Truth.{is_true}
use Rattle.spec_kernel.specs.Runner.{chosen, first_ready}
use Rattle.spec_moves.specs.Standing.{threads_of, posts_of, Standing, Filed}
use Rattle.spec_rules.specs.Rules.{Sized, Rules}
use Rattle.spec_rules.specs.Rules.{WaitingPlaces, LiveObjects}
use Rattle.spec_rules.specs.Rules.{UnusedStore, TimePlaces, WaitingOrder, TimeOrder, StoreOrder}
use Rattle.spec_rules.specs.Rules.{WaitersAtZero, CountsAtMost, TrueWithoutWaiters}
use Rattle.spec_rules.specs.Rules.{NoneAwaited, LiveOwners, ChannelPlaces, NoOtherPosts}
use Rattle.spec_rules.specs.Rules.{PrioritySizes, MaskSizes, ReplySizes, MaximumSizes, MessageSizes, FirstRuns, SomeRuns}
use Rattle.spec_rules.specs.Rules.{TicksLeft, PeriodicTicks, OtherTicks, UnperiodicTicks, DeadThreads, DeadSemaphores, DeadMessages}
use Rattle.spec_rules.proofs.OfRecords.{ConditionKept, KeptThread, KeptSemaphore, KeptMessage}
use Rattle.spec_rules.proofs.Homes.{Housed, stands}
use Rattle.spec_rules.proofs.Runner.{first_place}
use Rattle.spec_rules.proofs.Whole.{Whole, live_below, homes, timed}

-- a condition that awaits a channel has a mask with it
awaited : (c : Condition) (n : ℕ) → awaits c n ≡ true → (mask : ℕ) × (c ≡ ForMessage mask) × (masks mask n ≡ true)
awaited Ready n h = absurd (false≢true h)
awaited Asleep n h = absurd (false≢true h)
awaited (ForSemaphore i) n h = absurd (false≢true h)
awaited (ForEvent i) n h = absurd (false≢true h)
awaited (ForMessage mask) n h = (mask, refl, h)
awaited (ForFlag i) n h = absurd (false≢true h)

module _ (k : Kernel) (Z : Sized k) (R : Rules k) where
  -- ---- the records
  condition_of : (t : ℕ) → (thread k t).live ≡ true → (c : Condition) → (thread k t).condition ≡ c → ConditionKept k (thread k t).ticks c
  unfolding WaitingPlaces LiveObjects WaitersAtZero TrueWithoutWaiters MaskSizes TicksLeft OtherTicks
  condition_of t l Ready e = R.other_ticks t (rw (l, e))
  condition_of t l Asleep e = R.ticks_left t (rw (l, e))
  condition_of t l (ForSemaphore i) e =
      let s = R.live_objects of_semaphores t i (rw (e, same)) in
      let b = live_below k Z i s in
      let once : count t (semaphore_queue k i) ≡ 1 = R.waiting_places of_semaphores t i b ∙ rw (l, e, same) in
      (s, R.waiters_at_zero i b (λ z. omega (arith, rw z at once)))
  condition_of t l (ForEvent i) e =
      let b = ltb-true i event_count (R.live_objects of_events t i (rw (e, same))) in
      let once : count t (event_queue k i) ≡ 1 = R.waiting_places of_events t i b ∙ rw (l, e, same) in
      (b, cases (is_true k.bits (event k i)) (λ h. absurd (omega (arith, rw (R.true_without_waiters i b h) at once))) (λ h. h))
  condition_of t l (ForMessage mask) e = R.mask_sizes t mask e
  condition_of t l (ForFlag i) e =
      let (b, f) = (and-eq-true_iff (ltb i flag_count) (bit_at k.flags i)).0 (R.live_objects of_flags t i (rw (e, same))) in
      (ltb-true i flag_count b, f)

  kept_thread : (t : ℕ) → KeptThread k (thread k t)
  unfolding PrioritySizes ReplySizes DeadThreads
  kept_thread t = record {
    living =
        λ e. record { priority = R.priority_sizes t e; reply = R.reply_sizes t; condition = condition_of t e (thread k t).condition refl };
    gone = R.dead_threads t;
  }

  kept_semaphore : (i : ℕ) → KeptSemaphore (semaphore k i)
  unfolding CountsAtMost MaximumSizes PeriodicTicks DeadSemaphores UnperiodicTicks
  kept_semaphore i = record {
    living = λ e. record { maximum = R.maximum_sizes i e; count = R.counts_at_most i; ticks = (R.unperiodic_ticks i, R.periodic_ticks i) };
    gone = R.dead_semaphores i;
  }

  -- a queued message stands in its channel
  in_channel : (m : ℕ) → is_queued (message k m) ≡ true → count m (channel k (message k m).owner (message k m).channel) ≡ 1
  unfolding ChannelPlaces
  in_channel m q =
      let r = message k m in
      let (_, p) = (and-eq-true_iff r.live (ltb 0 r.channel)).0 q in
      R.channel_places m r.owner r.channel (ltb-true 0 r.channel p) ∙ simp (q, same)

  -- its owner doesn't await it
  unawaited : (m : ℕ) → (message k m).live ≡ true → awaits (thread k (message k m).owner).condition (message k m).channel ≡ false
  unfolding NoneAwaited
  unawaited m l =
      let r = message k m in
      cases (awaits (thread k r.owner).condition r.channel)
      (λ h. let (mask, e, a) = awaited (thread k r.owner).condition r.channel h in
      let once = in_channel m (rw (l, ((and-eq-true_iff (ltb 0 r.channel) _).0 a).0)) in
      absurd (omega (arith, rw (R.none_awaited r.owner r.channel mask e a) at once)))
      (λ h. h)

  kept_message : (m : ℕ) → KeptMessage k (message k m)
  unfolding LiveOwners MessageSizes DeadMessages
  kept_message m = record {
    living =
        λ e. record { owner = R.live_owners m e; sender = (R.message_sizes m).0; channel = (R.message_sizes m).1; unawaited = unawaited m e };
    gone = R.dead_messages m;
  }

  -- ---- the tables
  abbrev home : (t : ℕ) → Housed (thread k t)
  home = homes k Z kept_thread

  pub standing : Standing (threads_of k)
  unfolding UnusedStore TimePlaces WaitingOrder TimeOrder StoreOrder rank_of
  standing = record {
    count = Z.threads;
    tidy_places = R.unused_store.0;
    tidy_time = R.unused_store.1;
    placed = stands k home R.ready_places R.waiting_places R.no_other_places;
    timed = λ t. R.time_places t ∙ ap one (timed k Z kept_thread t);
    in_rank =
        pairs_ordered (λ t. home_of (thread k t)) (λ t. (thread k t).priority) Z.priorities (items k.places) R.store_order.0
        R.waiting_order;
    in_time = R.time_order;
  }

  -- a message stands in `posted` once, where it is queued
  queued : (m : ℕ) → count m (items k.posted) ≡ one (is_queued (message k m))
  unfolding NoOtherPosts
  queued m = cases (is_queued (message k m)) (λ e. rw e (simp (count_keep, same) at (in_channel m e))) (λ e. rw e (R.no_other_posts m e))

  pub filed : Filed (posts_of k)
  unfolding UnusedStore StoreOrder
  filed = record { count = Z.messages; tidy = R.unused_store.2; placed = queued; in_stream = R.store_order.1 }

  -- ---- who runs
  -- the first place is the first ready one
  pub chosen_first : chosen k ≡ first_ready k
  unfolding StoreOrder
  chosen_first = first_place k home R.store_order.0

  -- ---- all of it
  pub whole_of : Whole k
  unfolding FirstRuns SomeRuns
  whole_of = record {
    threads = kept_thread;
    semaphores = kept_semaphore;
    messages = kept_message;
    standing = standing;
    filed = filed;
    runs = (λ e. R.first_runs e ∙ sym chosen_first, R.some_runs);
  }
