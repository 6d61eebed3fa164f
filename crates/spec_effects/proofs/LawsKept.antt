-- Every accepted call does what the law of its kind says.
use Prim.Native.Nat.{ℕ, ◌<◌}
use mathlib.Core.Path.{◌≡◌, refl}
use mathlib.Core.Bool.{true, false, or-false}
use native.Mathlib.Omega.{arith}
use lib.Dec.{ltb, leb}
use lib.ListN.{length, get_or}
use borrow.Author.Tests.{eqb-false, leb-false}
use Rattle.spec_kernel.specs.declared.records.Kernel.{Kernel}
use Rattle.spec_kernel.specs.Sizes.{event_count, priority_count, channel_count, bit_count}
use Rattle.spec_kernel.specs.Records.{semaphore, message, no_thread, no_semaphore, no_message}
use Rattle.spec_kernel.specs.Free.{free_thread, free_semaphore, free_message, free_flag}
use Rattle.spec_kernel.specs.Places.{is_queued}
use Rattle.spec_kernel.specs.Channels.{next_message}
use Rattle.spec_kernel.proofs.LowestFree.{free_is_free, free_is_lowest}
use Rattle.spec_rules.specs.Rules.{Sized, Rules}
use Rattle.spec_calls.specs.declared.call.Call.{Call}
use Rattle.spec_calls.specs.Kinds.{kinds, no_kind, names, kind_of, from_thread}
use Rattle.spec_refusals.specs.Named.{named, value_of}
use Rattle.spec_refusals.specs.Refusals.{bad_number, bad_id, is_in_channel, none_free, outside, number_of}
use Rattle.spec_threads.specs.Threads.{create_thread, destroy_thread, set_priority, reset_priority, yielded, sleep}
use Rattle.spec_regions.specs.Regions.{push_unscheduled, pop_unscheduled, pop_all_unscheduled, push_critical, pop_critical, pop_all_critical}
use Rattle.spec_semaphores.specs.Semaphores.{create_semaphore, destroy_semaphore, make_periodic, remove_periodic, pend_semaphore, post_semaphore}
use Rattle.spec_events.specs.Events.{load_event, pend_event, set_bit, clear_bit}
use Rattle.spec_flags.specs.Flags.{create_flag, destroy_flag, pend_flag, post_flag}
use Rattle.spec_messages.specs.Messages.{create_message, destroy_message, post_message, pend_message}
use Rattle.spec_time.specs.Time.{tick}
use Rattle.spec_laws.specs.Laws.{law_of}
use Rattle.spec_laws.specs.OfThreads.{Created}
use Rattle.spec_laws.specs.OfSemaphores.{CreatedSemaphore, PostedSemaphore}
use Rattle.spec_laws.specs.OfMessages.{CreatedMessage, PendedMessage}
use Rattle.spec_laws.specs.OfEvents.{BitIs}
use Rattle.spec_laws.specs.OfFlags.{CreatedFlag}
use Rattle.spec_threads.proofs.LawsOfThreads.{create_creates, yield_yields, set_priority_sets, reset_priority_sets}
use Rattle.spec_threads.proofs.LawsOfDestroying.{destroy_destroys}
use Rattle.spec_threads.proofs.LawsOfBlocking.{sleep_blocks}
use Rattle.spec_regions.proofs.LawsOfRegions.{push_unscheduled_lem, pop_unscheduled_lem, pop_all_unscheduled_lem}
use Rattle.spec_regions.proofs.LawsOfRegions.{push_critical_lem, pop_critical_lem, pop_all_critical_lem}
use Rattle.spec_semaphores.proofs.LawsOfSemaphores.{create_makes, destroy_clears, make_replaces, remove_clears, post_posts, pend_pends}
use Rattle.spec_events.proofs.LawsOfEvents.{set_sets, clear_clears, load_loads, pend_event_pends}
use Rattle.spec_flags.proofs.LawsOfFlags.{create_flag_creates, destroy_flag_clears, pend_flag_pends, post_flag_posts}
use Rattle.spec_messages.proofs.LawsOfMessages.{pend_message_pends, post_message_posts, create_message_makes, destroy_message_clears}
use Rattle.spec_time.proofs.LawsOfTime.{tick_ticks}
use Rattle.proof_rules.proofs.Core.{live_thread, live_semaphore, live_message}
use Rattle.proof_rules.proofs.Ends.{Before, before}
use Rattle.proof_rules.proofs.OfFlags.{pend_levels}
use Rattle.proof_rules.proofs.OfTime.{turn_core}
use Rattle.proof_rules.proofs.Accepted.{Accepted, accepted, neither, inside, thread_named, semaphore_named, message_named}
use Rattle.spec_effects.specs.Effects.{effect}
use Rattle.spec_effects.proofs.ByKind.{◌▸◌, end, effect_of}
use Rattle.spec_effects.proofs.AtCalls.{bytes, timed_stopped, runnable, by_kind}

module _ {k : Kernel} (B : Before k) {c : Call} (A : Accepted k c) where
  -- the law of its kind, of this state after it
  abbrev Holds : Kernel → Type 0
  Holds k' = law_of k c (value_of k c) k'

  -- ---- threads
  kind_2 : c.kind ≡ 2 → Holds (create_thread k c)
  unfolding kind_of bad_number none_free named value_of
  kind_2 e =
      let (low, high) = inside 1 priority_count c.a (simp (e, or-false) at A.numbers) in
      let n = eqb-false (free_thread k) 255 (simp (e, or-false) at A.free) in
      let (_, free) = free_is_free (λ r. r.live) no_thread k.threads n in
      let L : Created c.a (free_thread k) k (create_thread k c) =
      create_creates k c B.core.standing (omega arith) n (rw ((B.core.threads (free_thread k)).gone free)) in
      by_kind k c e _ L

  kind_3 : c.kind ≡ 3 → Holds (destroy_thread k c)
  kind_3 e =
      let b = live_thread B.core c.a (thread_named A e refl) in
      by_kind k c e _ (refl, destroy_destroys k c B.core.standing B.core.filed b)

  kind_4 : c.kind ≡ 4 → Holds (set_priority k c)
  unfolding bad_number
  kind_4 e =
      let (low, high) = inside 1 priority_count c.b (simp (e, or-false) at A.numbers) in
      by_kind k c e _ (refl, set_priority_sets k c B.core.standing (thread_named A e refl) (omega arith))

  kind_5 : c.kind ≡ 5 → Holds (reset_priority k c)
  kind_5 e =
      let l = thread_named A e refl in
      let p = ((B.core.threads c.a).living l).priority in
      by_kind k c e _ (refl, reset_priority_sets k c B.core.standing l (omega arith))

  kind_6 : c.kind ≡ 6 → Holds (yielded k c)
  unfolding kind_of from_thread
  kind_6 e = by_kind k c e _ (refl, yield_yields k c B.core.standing (runnable B A (rw e)))

  kind_7 : c.kind ≡ 7 → Holds (sleep k c)
  unfolding kind_of from_thread
  kind_7 e = by_kind k c e _ (refl, sleep_blocks k c B.core.standing (runnable B A (rw e)))

  -- ---- regions
  kind_8 : k.unscheduled < 256 → c.kind ≡ 8 → Holds (push_unscheduled k c)
  unfolding kind_of none_free
  kind_8 b e =
      let n = eqb-false k.unscheduled 255 (simp (e, or-false) at A.free) in
      by_kind k c e _ (refl, push_unscheduled_lem k c (omega (arith, n)))

  kind_9 : c.kind ≡ 9 → Holds (pop_unscheduled k c)
  kind_9 e = by_kind k c e _ (refl, pop_unscheduled_lem k c)

  kind_10 : c.kind ≡ 10 → Holds (pop_all_unscheduled k c)
  kind_10 e = by_kind k c e _ (refl, pop_all_unscheduled_lem k c)

  kind_11 : k.critical < 256 → c.kind ≡ 11 → Holds (push_critical k c)
  unfolding kind_of none_free
  kind_11 b e =
      let n = eqb-false k.critical 255 (simp (e, or-false) at A.free) in
      by_kind k c e _ (refl, push_critical_lem k c (omega (arith, n)))

  kind_12 : c.kind ≡ 12 → Holds (pop_critical k c)
  kind_12 e = by_kind k c e _ (refl, pop_critical_lem k c)

  kind_13 : c.kind ≡ 13 → Holds (pop_all_critical k c)
  kind_13 e = by_kind k c e _ (refl, pop_all_critical_lem k c)

  -- ---- semaphores
  kind_14 : c.kind ≡ 14 → Holds (create_semaphore k c)
  unfolding kind_of bad_number none_free named value_of
  kind_14 e =
      let (range, _) = neither (outside 1 65535 c.c) (ltb c.c c.b) (simp (e, or-false) at A.numbers) in
      let (_, high) = inside 1 65535 c.c range in
      let n = eqb-false (free_semaphore k) 255 (simp (e, or-false) at A.free) in
      let (b, free) = free_is_free (λ r. r.live) no_semaphore k.semaphores n in
      let L : CreatedSemaphore c.b c.c (free_semaphore k) k (create_semaphore k c) =
      record {
        free = free;
        lowest = free_is_lowest (λ r. r.live) no_semaphore k.semaphores n;
        made = create_makes k c b (omega arith);
      } in
      by_kind k c e _ L

  -- a semaphore that the call names has a record
  semaphore_id : (semaphore k c.a).live ≡ true → c.a < length k.semaphores
  semaphore_id l = omega (arith, live_semaphore B.core c.a l, B.core.semaphores_sized)

  kind_15 : c.kind ≡ 15 → Holds (destroy_semaphore k c)
  kind_15 e = by_kind k c e _ (refl, destroy_clears k c (semaphore_id (semaphore_named A e refl)))

  kind_16 : c.kind ≡ 16 → Holds (make_periodic k c)
  kind_16 e = by_kind k c e _ (refl, make_replaces k c (semaphore_id (semaphore_named A e refl)))

  kind_17 : c.kind ≡ 17 → Holds (remove_periodic k c)
  kind_17 e = by_kind k c e _ (refl, remove_clears k c (semaphore_id (semaphore_named A e refl)))

  kind_18 : c.kind ≡ 18 → Holds (pend_semaphore k c)
  unfolding kind_of from_thread
  kind_18 e = by_kind k c e _ (refl, pend_pends k c B.core.standing (runnable B A (rw e)) (semaphore_id (semaphore_named A e refl)))

  posts : (semaphore k c.a).live ≡ true → PostedSemaphore c.a k (post_semaphore k c)
  unfolding post_semaphore
  posts l = post_posts k c.a B.core.standing (bytes B.core) (semaphore_id l)

  kind_19 : c.kind ≡ 19 → Holds (post_semaphore k c)
  kind_19 e = by_kind k c e _ (refl, posts (semaphore_named A e refl))

  kind_28 : c.kind ≡ 28 → Holds (post_semaphore k c)
  kind_28 e = by_kind k c e _ (refl, posts (semaphore_named A e refl))

  -- ---- events
  kind_20 : c.kind ≡ 20 → Holds (load_event k c)
  unfolding kind_of bad_id
  kind_20 e =
      let a = leb-false event_count c.a (simp (e, or-false) at A.ids) in
      by_kind k c e _ (refl, load_loads k c B.core.standing (bytes B.core) (omega (arith, B.core.events_sized)))

  kind_21 : c.kind ≡ 21 → Holds (pend_event k c)
  unfolding kind_of from_thread
  kind_21 e = by_kind k c e _ (refl, pend_event_pends k c B.core.standing (runnable B A (rw e)))

  sets : leb bit_count c.a ≡ false → BitIs c.a true k (set_bit k c)
  sets h = let a = leb-false bit_count c.a h in set_sets k c B.core.standing (bytes B.core) (omega arith)

  clears : BitIs c.a false k (clear_bit k c)
  clears = clear_clears k c B.core.standing (bytes B.core)

  kind_22 : c.kind ≡ 22 → Holds (set_bit k c)
  unfolding kind_of bad_id
  kind_22 e = by_kind k c e _ (refl, sets (simp (e, or-false) at A.ids))

  kind_29 : c.kind ≡ 29 → Holds (set_bit k c)
  unfolding kind_of bad_id
  kind_29 e = by_kind k c e _ (refl, sets (simp (e, or-false) at A.ids))

  kind_23 : c.kind ≡ 23 → Holds (clear_bit k c)
  kind_23 e = by_kind k c e _ (refl, clears)

  kind_30 : c.kind ≡ 30 → Holds (clear_bit k c)
  kind_30 e = by_kind k c e _ (refl, clears)

  -- ---- messages
  kind_24 : c.kind ≡ 24 → Holds (create_message k c)
  unfolding kind_of none_free named value_of
  kind_24 e =
      let n = eqb-false (free_message k) 255 (simp (e, or-false) at A.free) in
      let (b, free) = free_is_free (λ r. r.live) no_message k.messages n in
      let L : CreatedMessage c.b c.c c.d (free_message k) k (create_message k c) =
      record {
        free = free;
        lowest = free_is_lowest (λ r. r.live) no_message k.messages n;
        made = create_message_makes k B.core.filed c (omega (arith, B.core.filed.count)) free;
      } in
      by_kind k c e _ L

  -- the message that a call names is held
  held : {n : ℕ} → c.kind ≡ n → names (get_or kinds n no_kind).message ≡ true → is_queued (message k c.a) ≡ false
  unfolding is_in_channel named kind_of
  held e h = rw (e, h) at A.held

  kind_25 : c.kind ≡ 25 → Holds (destroy_message k c)
  kind_25 e =
      let b = live_message B.core c.a (message_named A e refl) in
      by_kind k c e _ (refl, destroy_message_clears k B.core.filed c b (held e refl))

  kind_26 : c.kind ≡ 26 → Holds (post_message k c)
  unfolding bad_number
  kind_26 e =
      let (low, high) = inside 1 channel_count c.c (simp (e, or-false) at A.numbers) in
      let l = thread_named A e refl in
      let b = live_thread B.core c.b l in
      by_kind k c e _ (
        refl,
        post_message_posts k B.core.filed c (message_named A e refl) (held e refl) (omega arith) (omega arith)
            B.core.standing l (bytes B.core c.b) (omega arith),
      )

  kind_27 : c.kind ≡ 27 → Holds (pend_message k c)
  unfolding kind_of from_thread
  kind_27 e =
      let L : PendedMessage c.b c.c (next_message k c.b) k (pend_message k c) =
      pend_message_pends k c B.core.filed B.core.standing (runnable B A (rw e)) in
      by_kind k c e _ L

  -- ---- flags
  kind_31 : c.kind ≡ 31 → Holds (create_flag k c)
  unfolding kind_of none_free named value_of
  kind_31 e =
      let L : CreatedFlag (free_flag k) k (create_flag k c) =
      create_flag_creates k c (eqb-false (free_flag k) 255 (simp (e, or-false) at A.free)) in
      by_kind k c e _ L

  kind_32 : c.kind ≡ 32 → Holds (destroy_flag k c)
  kind_32 e = by_kind k c e _ (refl, destroy_flag_clears k c)

  kind_33 : c.kind ≡ 33 → Holds (pend_flag k c)
  unfolding kind_of from_thread
  kind_33 e =
      let (one, u) = pend_levels A e in by_kind k c e _ (refl, pend_flag_pends k c B.core.standing u one (runnable B A (rw e)))

  kind_34 : c.kind ≡ 34 → Holds (post_flag k c)
  kind_34 e = by_kind k c e _ (refl, post_flag_posts k c B.core.standing (bytes B.core))

  -- ---- the tick: each turn meets a state that keeps the core of the rules
  kind_1 : c.kind ≡ 1 → Holds (tick k c)
  kind_1 e =
      by_kind k c e _ (
        refl,
        tick_ticks k c B.core.standing (timed_stopped B.core)
            (λ i b. let C = turn_core B i in record { standing = C.standing; bytes = bytes C; sized = C.semaphores_sized }),
      )

module _ {k : Kernel} (B : Before k) {c : Call} (A : Accepted k c) (u : k.unscheduled < 256) (v : k.critical < 256) where
  effect_lawful : law_of k c (value_of k c) (effect k c)
  effect_lawful =
      effect_of A (law_of k c (value_of k c)) λ kind_0.
      kind_0
      ▸ kind_1 B A
      ▸ kind_2 B A
      ▸ kind_3 B A
      ▸ kind_4 B A
      ▸ kind_5 B A
      ▸ kind_6 B A
      ▸ kind_7 B A
      ▸ kind_8 B A u
      ▸ kind_9 B A
      ▸ kind_10 B A
      ▸ kind_11 B A v
      ▸ kind_12 B A
      ▸ kind_13 B A
      ▸ kind_14 B A
      ▸ kind_15 B A
      ▸ kind_16 B A
      ▸ kind_17 B A
      ▸ kind_18 B A
      ▸ kind_19 B A
      ▸ kind_20 B A
      ▸ kind_21 B A
      ▸ kind_22 B A
      ▸ kind_23 B A
      ▸ kind_24 B A
      ▸ kind_25 B A
      ▸ kind_26 B A
      ▸ kind_27 B A
      ▸ kind_28 B A
      ▸ kind_29 B A
      ▸ kind_30 B A
      ▸ kind_31 B A
      ▸ kind_32 B A
      ▸ kind_33 B A
      ▸ kind_34 B A
      ▸ end

-- From the rules and "accepted" the law of the kind; the levels are bytes, as the types have them.
pub laws_kept : (k : Kernel) (c : Call) → Sized k → Rules k → k.unscheduled < 256 → k.critical < 256 → number_of k c ≡ 0
    → law_of k c (value_of k c) (effect k c)
laws_kept k c Z R u v h = effect_lawful (before k Z R) (accepted k c h) u v
