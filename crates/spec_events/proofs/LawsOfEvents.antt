-- Events: what working them out does, and set, clear, load and pend.
use mathlib.Core.Path.{◌≡◌, refl, sym, ◌∙◌}
use mathlib.Core.Bool.{Bool, true, false, cond, false≢true}
use mathlib.Core.List.{List, [], ◌∷◌, ◌++◌}
use Prim.Native.Nat.{ℕ, zero, suc, ◌+◌, ◌≤◌, ◌<◌}
use native.Mathlib.Omega.{arith}
use lib.Dec.{eqb, ltb}
use lib.ListN.{length, get_or, set}
use lib.Seq.{get_or-set_same, get_or-set_other}
use borrow.Author.Tests.{eqb-true, eqb-false, ltb-true, ltb-false, lt-ltb}
use borrow.Table.Steps.{cases}
use Rattle.base_queue.proofs.Lists.{count_append}
use Rattle.base_bits.specs.Words.{with_bit, without_bit}
use Rattle.base_bits.proofs.Laws.{bit_same, bit_gone, bit_other, bit_other_without}
use Rattle.base_queue.specs.Lists.{count}
use Rattle.base_queue.proofs.Counts.{keep_all}
use Rattle.spec_kernel.specs.declared.records.Condition.TheVariants.{ForEvent}
use Rattle.spec_kernel.specs.declared.records.Wake.{Wake}
use Rattle.spec_kernel.specs.declared.records.Thread.{Thread}
use Rattle.spec_kernel.specs.declared.records.Event.{Event}
use Rattle.spec_kernel.specs.declared.records.Kernel.{Kernel}
use Rattle.spec_moves.specs.declared.parts.Threads.{Threads}
use Rattle.spec_kernel.specs.Sizes.{event_count, bit_count}
use Rattle.spec_kernel.specs.Records.{thread, event, no_event}
use Rattle.spec_kernel.specs.Conditions.{of_events}
use Rattle.spec_kernel.specs.Places.{home, at_home, event_queue}
use Rattle.spec_kernel.specs.Truth.{is_true}
use Rattle.spec_moves.specs.Moves.{thread_in}
use Rattle.spec_moves.specs.Standing.{threads_of, at_home_in, Standing}
use Rattle.spec_calls.specs.declared.call.Call.{Call}
use Rattle.spec_moves.specs.States.{with_events, each}
use Rattle.spec_events.specs.Events.{work_out, work_out_from, worked_out, load_event, pend_event, set_bit, clear_bit}
use Rattle.spec_threads.specs.Threads.{wake_in, woken_in}
use Rattle.spec_threads.proofs.LawsOfHomes.{Runnable}
use Rattle.spec_threads.proofs.LawsOfLists.{keep_none}
use Rattle.spec_threads.proofs.LawsOfHomes.{line_home, line_absent, line_once, line_stopped}
use Rattle.spec_threads.proofs.LawsOfWaking.{Called, AllWoken, each_woken, Bytes, line_called}
use Rattle.spec_threads.proofs.LawsOfBlocking.{block_blocks}
use Rattle.spec_laws.specs.OfEvents.{waiters_from, WorkedOut, LoadedEvent, PendedEvent, BitIs}

-- those of a, then those of b
each_append : (f : ℕ → Threads → Threads) (a b : List ℕ) (p : Threads) → each f (a ++ b) p ≡ each f b (each f a p)
each_append f [] b p = refl
each_append f (x ∷ a) b p = each_append f a b (f x p)

-- the events' queues, by id
abbrev queues : Threads → ℕ → List ℕ
queues p i = at_home_in p (home of_events i)

-- each wakes as met
abbrev as_met : Thread → Wake
as_met r = Wake.Met

-- ---- who the waiters are
-- thread t waits for a TRUE one of n events from i on
record Waits (met : ℕ → Bool) (p : Threads) (i n t : ℕ) : Type 0 where
  event : ℕ
  from : i ≤ event
  to : event < i + n
  holds : met event ≡ true
  there : 0 < count t (at_home_in p (home of_events event))

module _ (met : ℕ → Bool) {p : Threads} (S : Standing p) (t : ℕ) where
  -- each waits for a TRUE one
  waiter_waits : (i n : ℕ) → 0 < count t (waiters_from met (queues p) i n) → Waits met p i n t
  unfolding waiters_from
  waiter_waits i zero c = absurd (omega arith)
  waiter_waits i (suc n) c =
      let l = cond (met i) (at_home_in p (home of_events i)) [] in
      let d = rw count_append at c in
      cases (ltb 0 (count t l))
      (λ e. cases (met i)
      (λ m. record {
        event = i;
        from = omega arith;
        to = omega arith;
        holds = m;
        there = ltb-true 0 (count t (at_home_in p (home of_events i)))
            (rw m at e);
      })
      (λ m. absurd (false≢true (rw m at e))))
      (λ e. let W = waiter_waits (suc i) n (omega (arith, ltb-false)) in
      record { event = W.event; from = omega (arith, W.from); to = omega (arith, W.to); holds = W.holds; there = W.there })

  -- who waits for one is among them
  waits_waiter : (i n j : ℕ) → i ≤ j → j < i + n → met j ≡ true → 0 < count t (at_home_in p (home of_events j))
      → 0 < count t (waiters_from met (queues p) i n)
  unfolding waiters_from
  waits_waiter i zero j a b m c = absurd (omega arith)
  waits_waiter i (suc n) j a b m c =
      rw count_append
      (cases (eqb i j)
      (λ e. let z = eqb-true i j e in rw (z, m) (omega arith))
      (λ e. let r = waits_waiter (suc i) n j (omega (arith, eqb-false)) (omega arith) m c in omega arith))

  -- once, as who waits has one home
  waiter_once : (i n : ℕ) → count t (waiters_from met (queues p) i n) ≤ 1
  unfolding waiters_from
  waiter_once i zero = omega arith
  waiter_once i (suc n) =
      let r = waiter_once (suc i) n in
      let one = line_once S t (home of_events i) in
      rw count_append
      (cases (met i)
      (λ m. rw m
      (cases (ltb 0 (count t (waiters_from met (queues p) (suc i) n)))
      (λ e. let W = waiter_waits (suc i) n (ltb-true 0 _ e) in
      let z = line_absent S t (home of_events i) (λ z. omega (arith, W.from, line_home S t (home of_events W.event) W.there)) in
      omega arith)
      (λ e. omega (arith, ltb-false))))
      (λ m. rw m (omega arith)))

-- ---- one event after the other
module _ (events : List Event) (bits : ℕ) where
  abbrev met : ℕ → Bool
  met i = is_true bits (get_or events i no_event)

  module _ {p : Threads} (S : Standing p) (B : Bytes p) where
    -- the waiters of one event are each named once, and wait
    event_called : (i : ℕ) → Called p (at_home_in p (home of_events i))
    event_called i = line_called S B (home of_events i) (omega arith)

    waiters_called : (i n : ℕ) → Called p (waiters_from met (queues p) i n)
    waiters_called i n t c =
        let W = waiter_waits met S t i n c in
        (omega (arith, waiter_once met S t i n), line_stopped S t (B t) (omega arith) W.there)

    -- once one event is worked out all stand in place, and the priorities and the later events' queues are as they were
    line_stands : (i : ℕ) → Standing (woken_in (home of_events i) p)
    unfolding woken_in wake_in
    line_stands i = (each_woken as_met (at_home_in p (home of_events i)) S (event_called i)).standing

    line_bytes : (i : ℕ) → Bytes (woken_in (home of_events i) p)
    unfolding woken_in wake_in
    line_bytes i t =
        let A = each_woken as_met (at_home_in p (home of_events i)) S (event_called i) in
        cases (ltb 0 (count t (at_home_in p (home of_events i))))
        (λ e. rw (A.woken t (ltb-true 0 _ e)) (B t))
        (λ e. rw (A.others t (omega (arith, ltb-false))) (B t))

    line_later : (i j : ℕ) → i < j → at_home_in (woken_in (home of_events i) p) (home of_events j) ≡ at_home_in p (home of_events j)
    unfolding woken_in wake_in
    line_later i j b =
        let A = each_woken as_met (at_home_in p (home of_events i)) S (event_called i) in
        A.queues (home of_events j) (omega arith)
        ∙ keep_all (at_home_in p (home of_events j))
        (λ t c. rw (line_absent S t (home of_events i) (λ z. omega (arith, line_home S t (home of_events j) c))))

    waiters_later : (i j n : ℕ) → i < j → waiters_from met (queues (woken_in (home of_events i) p)) j n ≡ waiters_from met (queues p) j n
    unfolding waiters_from
    waiters_later i j zero b = refl
    waiters_later i j (suc n) b = rw (line_later i j b, waiters_later i (suc j) n (omega arith))

  -- so the events wake their waiters, one after the other
  outs_wake : (i n : ℕ) {p : Threads} → Standing p → Bytes p
      → work_out_from events bits i n p ≡ each wake_in (waiters_from met (queues p) i n) p
  unfolding work_out_from work_out woken_in waiters_from
  outs_wake i zero S B = refl
  outs_wake i (suc n) {p} S B =
      cases (met i)
      (λ m. rw m
      (outs_wake (suc i) n (line_stands S B i) (line_bytes S B i)
      ∙ rw (waiters_later S B i (suc i) n (omega arith), each_append)))
      (λ m. rw m (outs_wake (suc i) n S B))

  module _ (k : Kernel) (S : Standing (threads_of k)) (B : Bytes (threads_of k)) where
    abbrev after : Kernel
    after = worked_out (with_events events bits k)

    abbrev called : List ℕ
    called = waiters_from met (event_queue k) 0 event_count

    all_woken : AllWoken as_met called (threads_of k) (threads_of after)
    unfolding worked_out wake_in
    all_woken = rw (outs_wake 0 event_count S B) (each_woken as_met called S (waiters_called S B 0 event_count))

    -- who waits for no TRUE event is not called
    uncalled : (t : ℕ) → ((i : ℕ) → i < event_count → met i ≡ true → count t (event_queue k i) ≡ 0) → count t called ≡ 0
    uncalled t h =
        cases (ltb 0 (count t called))
        (λ e. let W = waiter_waits met S t 0 event_count (ltb-true 0 _ e) in absurd
        (omega (arith, h W.event (omega (arith, W.to)) W.holds, W.there)))
        (λ e. omega (arith, ltb-false))

    -- a queue that is no TRUE event's is as it was
    queue_stays : (h : ℕ) → 256 ≤ h → ((i : ℕ) → i < event_count → met i ≡ true → h ≡ home of_events i → ⊥) → at_home after h ≡ at_home k h
    queue_stays h b ne =
        all_woken.queues h b
        ∙ keep_all (at_home k h)
        (λ t c. rw (uncalled t (λ i s m. line_absent S t (home of_events i) (λ z. ne i s m (sym (line_home S t h c) ∙ z)))))

    works_out : WorkedOut k after
    unfolding worked_out
    works_out = record {
      nobody = λ i b m.
          all_woken.queues (home of_events i) (omega arith)
          ∙ keep_none (event_queue k i)
          (λ t c. rw (lt-ltb 0 (count t called) (waits_waiter met S t 0 event_count i (omega arith) (omega arith) m c)));
      events = λ i b m. queue_stays (home of_events i) (omega arith) (λ j s n z. let e : i ≡ j = omega arith in false≢true (sym m ∙ rw e n));
      semaphores = λ i b. queue_stays (256 + i) (omega arith) (λ j s n z. omega arith);
      flags = λ i b. queue_stays (768 + i) (omega arith) (λ j s n z. omega arith);
      lists = all_woken.lists;
      time = all_woken.time;
      woken = λ t i b m c. all_woken.woken t (waits_waiter met S t 0 event_count i (omega arith) (omega arith) m c);
      others = λ t h. all_woken.others t (uncalled t h);
      counts = refl;
      live = refl;
      messages = record { records = refl; posted = refl };
      scheduler = record { uptime = refl; unscheduled = refl; critical = refl; runner = refl };
    }

-- ---- the calls
module _ (k : Kernel) (c : Call) (S : Standing (threads_of k)) (B : Bytes (threads_of k)) where
  -- A bit is set or cleared, and no other bit or event changes; then all events are worked out [01, calls: Event 5].
  pub set_sets : c.a < bit_count → BitIs c.a true k (set_bit k c)
  unfolding set_bit worked_out
  set_sets b = record {
    bit = bit_same k.bits c.a b;
    others = λ i ne. bit_other k.bits c.a i ne;
    events = refl;
    worked = works_out k.events (with_bit k.bits c.a) k S B;
  }

  pub clear_clears : BitIs c.a false k (clear_bit k c)
  unfolding clear_bit worked_out
  clear_clears = record {
    bit = bit_gone k.bits c.a;
    others = λ i ne. bit_other_without k.bits c.a i ne;
    events = refl;
    worked = works_out k.events (without_bit k.bits c.a) k S B;
  }

  -- Event a has the mode, mask and values of the call, and no other event or bit changes.
  pub load_loads : c.a < length k.events → LoadedEvent c.a (eqb c.b 1) c.c c.d k (load_event k c)
  unfolding load_event worked_out
  load_loads b = record {
    itself = get_or-set_same k.events c.a _ no_event b;
    others = λ i ne. get_or-set_other k.events c.a i _ no_event ne;
    bits = refl;
    worked = works_out (set k.events c.a _) k.bits k S B;
  }

-- A pend on a TRUE event changes nothing; else the caller waits behind its equals [01, calls: Event 4; calls: Blocking 1].
pub pend_event_pends : (k : Kernel) (c : Call) → Standing (threads_of k) → Runnable (thread k k.runner)
    → PendedEvent c.a c.c k (pend_event k c)
unfolding pend_event
pend_event_pends k c S R = record {
  passes = λ m. rw m;
  blocks = λ m. rw m (block_blocks k S R (ForEvent c.a) c.c refl (omega arith));
}
