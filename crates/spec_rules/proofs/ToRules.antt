-- From the records and the tables to the rules of document 01.
use Prim.Native.Nat.{ℕ, ◌≤◌, ◌<◌}
use mathlib.Core.Path.{◌≡◌, refl, sym, ap, ◌∙◌}
use mathlib.Core.Bool.{Bool, true, false, false≢true, and-eq-true_iff}
use mathlib.Core.Logic.{◌⊎◌, inl}
use native.Mathlib.Omega.{arith}
use lib.Dec.{eqb}
use borrow.Author.Tests.{eqb-true, eqb-false, ltb-true, ltb-false, lt-ltb}
use borrow.Table.Steps.{cases}
use Rattle.base_queue.specs.Lists.{count}
use Rattle.base_queue.specs.Queues.{items}
use Rattle.base_queue.specs.Tables.{one}
use Rattle.base_queue.proofs.Counts.{count_keep, kept}
use Rattle.base_queue.proofs.Orders.{ordered_pairs}
use Rattle.spec_kernel.specs.declared.records.Condition.{Condition}
use Rattle.spec_kernel.specs.declared.records.Condition.TheVariants.{Ready, Asleep, ForSemaphore, ForEvent, ForMessage, ForFlag}
use Rattle.spec_kernel.specs.declared.records.Kernel.{Kernel}
use Rattle.spec_kernel.specs.Records.{thread, semaphore, message}
use Rattle.spec_kernel.specs.Sizes.{thread_count, event_count, flag_count, message_count, channel_count}
use Rattle.spec_kernel.specs.Conditions.{Class, of_semaphores, of_events, of_flags, ids_in, on_object, waits_for}
use Rattle.spec_kernel.specs.Places.{home as place, home_of, rank_of, at_home, queue_of, semaphore_queue, event_queue}
use Rattle.spec_kernel.specs.Places.{is_queued, on_channel, channel}
use Rattle.spec_rules.specs.Rules.{Sized, Rules}
use Rattle.spec_rules.specs.Rules.{LiveObjects, NoOtherPlaces, UnusedStore}
use Rattle.spec_rules.specs.Rules.{TimePlaces, WaitingOrder, TimeOrder, StoreOrder}
use Rattle.spec_rules.specs.Rules.{WaitersAtZero, CountsAtMost, TrueWithoutWaiters}
use Rattle.spec_rules.specs.Rules.{NoneAwaited, LiveOwners, ChannelPlaces, NoOtherPosts}
use Rattle.spec_rules.specs.Rules.{PrioritySizes, MaskSizes, ReplySizes, MaximumSizes, MessageSizes, FirstRuns, SomeRuns}
use Rattle.spec_rules.specs.Rules.{TicksLeft, PeriodicTicks, OtherTicks, UnperiodicTicks, DeadThreads, DeadSemaphores, DeadMessages}
use Rattle.spec_rules.proofs.OfRecords.{live_or_not, ConditionKept}
use Rattle.spec_rules.proofs.Homes.{Housed, waiting_for, cond_one, ready_places_lem, waiting_places_lem}
use Rattle.spec_rules.proofs.Runner.{nobody, first_place}
use Rattle.spec_rules.proofs.Whole.{Whole, homes, conditions, timed}

-- who stands somewhere once belongs there
belongs : (b : Bool) → 0 < one b → b ≡ true
belongs true h = refl
belongs false h = absurd (omega arith)

on_object_lem : (class : Class) (i : ℕ) (c : Condition) → on_object class i c ≡ true → c ≡ waiting_for class i
on_object_lem class i Ready h = cc
on_object_lem class i Asleep h = cc
on_object_lem of_semaphores i (ForSemaphore j) h = ap ForSemaphore (eqb-true j i h)
on_object_lem of_events i (ForSemaphore j) h = cc
on_object_lem of_flags i (ForSemaphore j) h = cc
on_object_lem of_semaphores i (ForEvent j) h = cc
on_object_lem of_events i (ForEvent j) h = ap ForEvent (eqb-true j i h)
on_object_lem of_flags i (ForEvent j) h = cc
on_object_lem class i (ForMessage mask) h = cc
on_object_lem of_semaphores i (ForFlag j) h = cc
on_object_lem of_events i (ForFlag j) h = cc
on_object_lem of_flags i (ForFlag j) h = ap ForFlag (eqb-true j i h)

module _ (k : Kernel) (Z : Sized k) (W : Whole k) where
  abbrev home : (t : ℕ) → Housed (thread k t)
  home = homes k Z W.threads

  abbrev condition : (t : ℕ) → ConditionKept k (thread k t).ticks (thread k t).condition
  condition = conditions k Z W.threads

  -- ---- who stands in a queue waits for its object
  in_line : (h u : ℕ) → 0 < count u (at_home k h) → eqb (home_of (thread k u)) h ≡ true
  in_line h u c = (kept (λ t. eqb (home_of (thread k t)) h) (items k.places) c).0

  waits : (class : Class) (i u : ℕ) → i < ids_in class → 0 < count u (queue_of class k i) → (thread k u).condition ≡ waiting_for class i
  waits class i u b c =
      let w : waits_for class i (thread k u) ≡ true = sym ((home u).waiting class i b) ∙ in_line (place class i) u c in
      on_object_lem class i (thread k u).condition ((and-eq-true_iff (thread k u).live _).0 w).1

  waiters_at_zero_lem : WaitersAtZero k
  unfolding WaitersAtZero
  waiters_at_zero_lem i b some =
      cases (eqb (semaphore k i).count 0) (eqb-true (semaphore k i).count 0)
      (λ e. absurd (some (nobody (semaphore_queue k i) λ u c.
      eqb-false (semaphore k i).count 0 e (rw (waits of_semaphores i u b c) at (condition u)).1)))

  true_without_waiters_lem : TrueWithoutWaiters k
  unfolding TrueWithoutWaiters
  true_without_waiters_lem i b h = nobody (event_queue k i) λ u c.
      false≢true (sym (rw (waits of_events i u b c) at (condition u)).1 ∙ h)

  live_objects_lem : LiveObjects k
  unfolding LiveObjects
  live_objects_lem of_semaphores t i e = (rw (on_object_lem of_semaphores i (thread k t).condition e) at (condition t)).0
  live_objects_lem of_events t i e = lt-ltb i event_count (rw (on_object_lem of_events i (thread k t).condition e) at (condition t)).0
  live_objects_lem of_flags t i e =
      let (b, l) = rw (on_object_lem of_flags i (thread k t).condition e) at (condition t) in rw (lt-ltb i flag_count b, l)

  none_awaited_lem : NoneAwaited k
  unfolding NoneAwaited
  none_awaited_lem t c mask e h = nobody (channel k t c) λ m d.
      let (on, there) = kept (λ m. on_channel t c (message k m)) (items k.posted) d in
      let (owner, number) = (and-eq-true_iff _ _).0 on in
      let queued = belongs (is_queued (message k m)) (rw (W.filed.placed m) at there) in
      let L = (W.messages m).living ((and-eq-true_iff _ _).0 queued).0 in
      false≢true (sym (rw (eqb-true (message k m).owner t owner, eqb-true (message k m).channel c number, e) at L.unawaited) ∙ h)

  channel_places_lem : ChannelPlaces k
  unfolding ChannelPlaces
  channel_places_lem m t c _ = rw (count_keep, W.filed.placed m, cond_one)

  -- ---- the rules
  pub rules_of : Rules k
  unfolding NoOtherPlaces UnusedStore TimePlaces WaitingOrder TimeOrder StoreOrder CountsAtMost LiveOwners
      NoOtherPosts
      PrioritySizes MaskSizes ReplySizes MaximumSizes MessageSizes FirstRuns SomeRuns
      TicksLeft PeriodicTicks OtherTicks UnperiodicTicks DeadThreads DeadSemaphores DeadMessages rank_of
  rules_of =
      let S = W.standing in
      let T = timed k Z W.threads in
      let l = items k.places in
      let (byHome, byPriority) = ordered_pairs (λ t. home_of (thread k t)) (λ t. (thread k t).priority) Z.priorities l S.in_rank in
      record {
        ready_places = ready_places_lem k home S.placed;
        waiting_places = waiting_places_lem k home S.placed;
        live_objects = live_objects_lem;
        no_other_places = λ t e. S.placed t ∙ ap one e;
        unused_store = (S.tidy_places, S.tidy_time, W.filed.tidy);
        time_places = λ t. S.timed t ∙ ap one (sym (T t));
        waiting_order = byPriority;
        time_order = S.in_time;
        waiters_at_zero = waiters_at_zero_lem;
        counts_at_most = λ i. live_or_not (λ r. r.count ≤ r.maximum) (W.semaphores i) (λ L. L.count) (omega arith);
        true_without_waiters = true_without_waiters_lem;
        none_awaited = none_awaited_lem;
        live_owners = λ m e. ((W.messages m).living e).owner;
        channel_places = channel_places_lem;
        no_other_posts = λ m e. W.filed.placed m ∙ ap one e;
        priority_sizes = λ t e. ((W.threads t).living e).priority;
        mask_sizes = λ t mask e. rw e at (condition t);
        reply_sizes =
            λ t. live_or_not (λ r. (r.reply < message_count) ⊎ (r.reply ≡ 255)) (W.threads t) (λ L. L.reply) (inl (omega arith));
        maximum_sizes = λ i e. ((W.semaphores i).living e).maximum;
        message_sizes =
            λ m. live_or_not (λ r. (r.sender < thread_count) × (r.channel ≤ channel_count)) (W.messages m)
            (λ L. (L.sender, L.channel)) (omega arith);
        ticks_left = λ t e. ltb-true 0 (thread k t).ticks (sym (T t) ∙ e);
        periodic_ticks = λ i. live_or_not (λ r. 0 < r.period → 0 < r.ticks) (W.semaphores i) (λ L. L.ticks.1) (omega arith);
        dead_threads = λ t. (W.threads t).gone;
        dead_semaphores = λ i. (W.semaphores i).gone;
        dead_messages = λ m. (W.messages m).gone;
        other_ticks = λ t e. omega (arith, ltb-false 0 (thread k t).ticks (sym (T t) ∙ e));
        unperiodic_ticks = λ i. live_or_not (λ r. r.period ≡ 0 → r.ticks ≡ 0) (W.semaphores i) (λ L. L.ticks.0) (omega arith);
        first_runs = λ e. W.runs.0 e ∙ first_place k home byHome;
        some_runs = W.runs.1;
        store_order = (byHome, W.filed.in_stream);
      }
