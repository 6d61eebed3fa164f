-- Every accepted call keeps each field within its type.
use Prim.Native.Nat.{ℕ, zero, suc, ◌<◌}
use mathlib.Core.Path.{◌≡◌, refl}
use mathlib.Core.List.{List, [], ◌∷◌}
use native.Mathlib.Omega.{arith}
use lib.Dec.{eqb, ltb}
use borrow.Author.Tests.{eqb-false, ltb-true}
use borrow.Table.Steps.{cases}
use Rattle.base_bits.proofs.Laws.{with_small, without_small}
use Rattle.spec_kernel.specs.declared.records.Condition.{Condition}
use Rattle.spec_kernel.specs.declared.records.Kernel.{Kernel}
use Rattle.spec_kernel.specs.Sizes.{semaphore_count, event_count, flag_count}
use Rattle.spec_kernel.specs.Records.{thread, semaphore, event, message, no_thread, no_message}
use Rattle.spec_kernel.specs.Places.{home, semaphore_queue}
use Rattle.spec_kernel.proofs.LowestClear.{with_lowest}
use Rattle.spec_kernel.specs.Truth.{is_true}
use Rattle.spec_kernel.specs.Conditions.{of_flags, awaits}
use Rattle.spec_moves.specs.Standing.{threads_of, Standing}
use Rattle.spec_rules.specs.Rules.{Sized, Rules}
use Rattle.spec_kernel.specs.Channels.{next_message}
use Rattle.spec_calls.specs.declared.call.Call.{Call}
use Rattle.spec_refusals.specs.Refusals.{number_of}
use Rattle.spec_moves.specs.States.{with_bits, with_levels, as_byte, scheduled}
use Rattle.spec_threads.specs.Threads.{block, wake, owns, free_messages, create_thread}
use Rattle.spec_threads.specs.Threads.{destroy_thread, set_priority, reset_priority, yielded, sleep}
use Rattle.spec_regions.specs.Regions.{one_more, push_unscheduled, pop_unscheduled}
use Rattle.spec_regions.specs.Regions.{pop_all_unscheduled, push_critical, pop_critical, pop_all_critical}
use Rattle.spec_semaphores.specs.Semaphores.{post_to, post, create_semaphore, destroy_semaphore, make_periodic, remove_periodic}
use Rattle.spec_semaphores.specs.Semaphores.{pend_semaphore, post_semaphore}
use Rattle.spec_events.specs.Events.{worked_out, load_event, pend_event, set_bit, clear_bit}
use Rattle.spec_flags.specs.Flags.{create_flag, destroy_flag, pend_flag, post_flag}
use Rattle.spec_messages.specs.Messages.{create_message, destroy_message, hand_over, post_message, receive, pend_message}
use Rattle.spec_time.specs.Time.{later, time_passes, pulse, pulse_from, tick}
use Rattle.spec_effects.specs.Effects.{effect}
use Rattle.proof_rules.proofs.Ends.{Before, before}
use Rattle.proof_rules.proofs.Accepted.{Accepted, accepted, flag_named}
use Rattle.proof_rules.proofs.OfFlags.{live_flag}
use Rattle.spec_effects.proofs.ByKind.{◌▸◌, end, effect_of}
use Rattle.spec_effects.proofs.RulesKept.{rules_kept}
use Rattle.proof_rules.proofs.OfDestroy.{freed_record}
use Rattle.proof_rules.proofs.Wakings.{outs_last, line_lasts, passes_record}
use Rattle.spec_notes.specs.Within.{Within, CallWithin}
use Rattle.spec_notes.proofs.Limits.{SmallThread, Limits, within_limits, limits_within, threads_limits, posts_limits}
use Rattle.spec_notes.proofs.Limits.{semaphore_limits, events_limits, flags_limits, event_all, scheduler_limits, place_limits}
use Rattle.spec_notes.proofs.Limits.{file_limits}

-- ---- steps
module _ {k : Kernel} (L : Limits k) where
  block_limits : (condition : Condition) (timeout : ℕ) → timeout < 4294967296 → Limits (block condition timeout k)
  unfolding block
  block_limits condition timeout b = place_limits L k.runner _ b

  freed_limits : (t : ℕ) → Limits (free_messages t k)
  unfolding free_messages
  freed_limits t =
      posts_limits L _
      (λ m. rw (freed_record t k m) (cases (owns t (message k m)) (λ e. rw e (omega arith)) (λ e. rw e (L.messages m))))

  post_limits : (i : ℕ) → Limits (post i k)
  unfolding post wake
  post_limits i = go (semaphore_queue k i)
    where
      go : (q : List ℕ) → Limits (post_to q i k)
      go [] = semaphore_limits L i _ (L.semaphores i)
      go (t ∷ q) = place_limits L t _ (omega arith)

  worked_limits : Standing (threads_of k) → Limits (worked_out k)
  unfolding worked_out
  worked_limits S =
      threads_limits L _ (λ t. outs_last k.events k.bits SmallThread (λ _ _ _. omega arith) 0 event_count (omega arith) S t
      (L.threads t))

pulse_limits : {k : Kernel} → Limits k → (i : ℕ) → Limits (pulse i k)
unfolding pulse
pulse_limits {k} L i =
    let (_, b, p) = L.semaphores i in
    let D = post_limits L i in
    cases (eqb (semaphore k i).period 0) (λ e. rw e L)
    (λ e. cases (eqb (semaphore k i).ticks 1)
    (λ h. rw (e, h) (semaphore_limits D i _ ((D.semaphores i).0, p, p)))
    (λ h. rw (e, h) (semaphore_limits L i _ ((L.semaphores i).0, omega arith, p))))

pulses_limits : {k : Kernel} → Limits k → (i n : ℕ) → Limits (pulse_from i n k)
unfolding pulse_from
pulses_limits L i zero = L
pulses_limits {k = k} L i (suc n) = pulses_limits {k = pulse i k} (pulse_limits L i) (suc i) n

later_small : (n : ℕ) → n < 4294967296 → later n < 4294967296
later_small n b = cases (eqb n 4294967295) (λ e. rw e (omega arith)) (λ e. rw e (omega (arith, eqb-false n 4294967295 e)))

more_small : (n : ℕ) → n < 256 → one_more n < 256
more_small n b = cases (ltb n 255) (λ e. rw e (omega (arith, ltb-true n 255 e))) (λ e. rw e b)

-- ---- the kinds
module _ {k : Kernel} (L : Limits k) where
  tick_limits : Standing (threads_of k) → (c : Call) → Limits (tick k c)
  unfolding tick
  tick_limits S c =
      let (up, unscheduled, critical) = L.scheduler in
      let M = scheduler_limits L (later k.uptime) _ _ k.runner (later_small k.uptime up) unscheduled critical in
      pulses_limits
      (threads_limits M (time_passes (threads_of k))
      (λ t. rw (passes_record S t)
      (cases (eqb (thread k t).ticks 1) (λ e. rw e (omega arith)) (λ e. rw e (omega (arith, L.threads t))))))
      0 semaphore_count

  post_message_limits : (c : Call) → Limits (post_message k c)
  unfolding post_message hand_over
  post_message_limits c =
      cases (awaits (thread k c.b).condition (as_byte c.c))
      (λ e. rw e (place_limits (file_limits L c.a _ (L.messages c.a)) (as_byte c.b) _ (omega arith)))
      (λ e. rw e (file_limits L c.a _ (L.messages c.a)))

  module _ {c : Call} (X : CallWithin c) where
    pend_semaphore_limits : Limits (pend_semaphore k c)
    unfolding pend_semaphore
    pend_semaphore_limits =
        cases (ltb 0 (semaphore k c.a).count) (λ e. rw e (semaphore_limits L c.a _ (L.semaphores c.a)))
        (λ e. rw e (block_limits L _ c.c X.c))

    pend_event_limits : Limits (pend_event k c)
    unfolding pend_event
    pend_event_limits = cases (is_true k.bits (event k c.a)) (λ e. rw e L) (λ e. rw e (block_limits L _ c.c X.c))

    pend_message_limits : Limits (pend_message k c)
    unfolding pend_message receive
    pend_message_limits =
        let m = next_message k c.b in
        cases (eqb m 255) (λ e. rw e (block_limits L _ c.c X.c)) (λ e. rw e (file_limits L m _ (L.messages m)))

    -- who wakes has no ticks left
    post_flag_limits : Before k → Accepted k c → c.kind ≡ 34 → Limits (post_flag k c)
    unfolding post_flag
    post_flag_limits B A e =
        let (b, _) = live_flag k c.a (flag_named A e refl) in
        threads_limits L _
        (λ t. line_lasts SmallThread (λ _ _ _. omega arith) B.core.standing (home of_flags c.a) (λ z. omega arith) t (L.threads t))

    effect_limits : Before k → Accepted k c → Limits (effect k c)
    unfolding create_thread destroy_thread set_priority reset_priority yielded sleep push_unscheduled pop_unscheduled pop_all_unscheduled
        push_critical pop_critical pop_all_critical create_semaphore destroy_semaphore make_periodic remove_periodic post_semaphore load_event
        set_bit clear_bit create_message destroy_message create_flag destroy_flag pend_flag
    effect_limits B A =
        let S = B.core.standing in
        let (up, unscheduled, critical) = L.scheduler in
        let levels : (a b : ℕ) → a < 256 → b < 256 → Limits (with_levels a b k) = λ a b. scheduler_limits L k.uptime a b k.runner up in
        let bits : (n : ℕ) → n < 4294967296 → Limits (worked_out (with_bits n k)) =
        λ n b. worked_limits (events_limits L k.events n L.events b) S in
        effect_of A Limits λ kind_0.
        kind_0
        ▸ (λ _. tick_limits S c)  -- 1
        ▸ (λ _. place_limits L _ _ (omega arith))  -- 2
        ▸ (λ _. place_limits (freed_limits L c.a) c.a no_thread (omega arith))  -- 3
        ▸ (λ _. place_limits L c.a _ (L.threads c.a))  -- 4
        ▸ (λ _. place_limits L c.a _ (L.threads c.a))  -- 5
        ▸ (λ _. place_limits L k.runner _ (L.threads k.runner))  -- 6
        ▸ (λ _. block_limits L _ c.c X.c)  -- 7
        ▸ (λ _. levels _ _ (more_small k.unscheduled unscheduled) critical)  -- 8
        ▸ (λ _. levels _ _ (omega arith) critical)  -- 9
        ▸ (λ _. levels _ _ (omega arith) critical)  -- 10
        ▸ (λ _. levels _ _ unscheduled (more_small k.critical critical))  -- 11
        ▸ (λ _. levels _ _ unscheduled (omega arith))  -- 12
        ▸ (λ _. levels _ _ unscheduled (omega arith))  -- 13
        ▸ (λ _. semaphore_limits L _ _ (omega arith))  -- 14
        ▸ (λ _. semaphore_limits L _ _ (omega arith))  -- 15
        ▸ (λ _. semaphore_limits L _ _ ((L.semaphores c.a).0, X.c, X.d))  -- 16
        ▸ (λ _. semaphore_limits L _ _ ((L.semaphores c.a).0, omega arith, omega arith))  -- 17
        ▸ (λ _. pend_semaphore_limits)  -- 18
        ▸ (λ _. post_limits L c.a)  -- 19
        ▸ (λ _. worked_limits (events_limits L _ k.bits (event_all L c.a _ (X.c, X.d)) L.bits) S)  -- 20
        ▸ (λ _. pend_event_limits)  -- 21
        ▸ (λ _. bits _ (with_small k.bits c.a L.bits))  -- 22
        ▸ (λ _. bits _ (without_small k.bits c.a L.bits))  -- 23
        ▸ (λ _. file_limits L _ _ (X.b, X.c, X.d))  -- 24
        ▸ (λ _. file_limits L c.a no_message (omega arith))  -- 25
        ▸ (λ _. post_message_limits c)  -- 26
        ▸ (λ _. pend_message_limits)  -- 27
        ▸ (λ _. post_limits L c.a)  -- 28
        ▸ (λ _. bits _ (with_small k.bits c.a L.bits))  -- 29
        ▸ (λ _. bits _ (without_small k.bits c.a L.bits))  -- 30
        ▸ (λ _. flags_limits L _ (with_lowest k.flags flag_count L.flags))  -- 31
        ▸ (λ _. flags_limits L _ (without_small k.flags c.a L.flags))  -- 32
        ▸ (λ _. block_limits (levels _ _ unscheduled (omega arith)) _ c.c X.c)  -- 33
        ▸ post_flag_limits B A  -- 34
        ▸ end

scheduled_limits : {k : Kernel} → Limits k → Limits (scheduled k)
unfolding scheduled
scheduled_limits {k} L =
    let (up, unscheduled, critical) = L.scheduler in
    scheduler_limits L k.uptime k.unscheduled k.critical _ up unscheduled critical

pub within_kept : (k : Kernel) (c : Call) → Sized k → Rules k → Within k → CallWithin c → number_of k c ≡ 0
    → Within (scheduled (effect k c))
within_kept k c Z R W X h =
    let (Z', R') = rules_kept k c Z R h in
    limits_within (before (scheduled (effect k c)) Z' R')
    (scheduled_limits (effect_limits (within_limits W) X (before k Z R) (accepted k c h)))
