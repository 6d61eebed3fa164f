-- Device flags: what create, destroy, pend and post keep.
use Prim.Native.Nat.{ℕ, ◌+◌, ◌-◌, ◌<◌}
use mathlib.Core.Path.{◌≡◌, refl, sym, ◌∙◌}
use mathlib.Core.Bool.{Bool, true, false, or-false, and-eq-true_iff}
use mathlib.Core.List.{[]}
use native.Mathlib.Omega.{arith}
use lib.Dec.{eqb, ltb}
use borrow.Author.Tests.{eqb-true, eqb-false, ltb-true, le-ltb, not-false}
use borrow.Table.Steps.{cases}
use Rattle.base_bits.specs.Words.{bit_at, with_bit, without_bit}
use Rattle.base_bits.proofs.Laws.{bit_same, bit_other, bit_other_without}
use Rattle.base_queue.specs.Lists.{count, is_empty}
use Rattle.spec_kernel.specs.declared.records.Condition.TheVariants.{ForFlag}
use Rattle.spec_kernel.specs.declared.records.Wake.{Wake}
use Rattle.spec_kernel.specs.declared.records.Kernel.{Kernel}
use Rattle.spec_kernel.specs.Sizes.{flag_count}
use Rattle.spec_kernel.specs.Records.{thread, flag}
use Rattle.spec_kernel.specs.Conditions.{of_flags}
use Rattle.spec_kernel.specs.Places.{home, home_of, flag_queue}
use Rattle.spec_kernel.specs.Free.{free_flag}
use Rattle.spec_kernel.proofs.LowestClear.{clear_is_clear}
use Rattle.spec_moves.specs.Moves.{thread_in}
use Rattle.spec_moves.specs.Standing.{threads_of}
use Rattle.spec_calls.specs.declared.call.Call.{Call}
use Rattle.spec_calls.specs.Kinds.{kind_of, from_thread}
use Rattle.spec_refusals.specs.Named.{named, value_of}
use Rattle.spec_refusals.specs.Refusals.{none_free}
use Rattle.spec_refusals.proofs.FlagPends.{pend_flag_six}
use Rattle.spec_refusals.proofs.Waiters.{has_waiters_lem}
use Rattle.spec_threads.specs.Threads.{woken_in}
use Rattle.spec_regions.specs.Regions.{pop_critical}
use Rattle.spec_flags.specs.Flags.{create_flag, destroy_flag, pend_flag, post_flag}
use Rattle.proof_rules.proofs.Core.{Core, condition_of, live_waiter, flags_core, scheduler_core}
use Rattle.proof_rules.proofs.Ends.{Good, Before}
use Rattle.proof_rules.proofs.Wakings.{line_standing, line_lasts}
use Rattle.proof_rules.proofs.Accepted.{Accepted, flag_named}
use Rattle.proof_rules.proofs.Steps.{home_line, caller_ready, block_good}
use Rattle.proof_rules.proofs.Semaphores.{empty}
use Rattle.proof_rules.proofs.AllThreads.{Becomes, stays, becomes_awake, threads_core}

-- a live flag has an id, and its bit
pub live_flag : (k : Kernel) (i : ℕ) → flag k i ≡ true → (i < flag_count) × (bit_at k.flags i ≡ true)
live_flag k i h = let (b, set) = (and-eq-true_iff (ltb i flag_count) (bit_at k.flags i)).0 h in (ltb-true i flag_count b, set)

-- whoever waits for a flag stands in its queue
flag_waiter : {waited : ℕ → Bool} {k : Kernel} → Core waited k → (t i : ℕ) → (thread k t).condition ≡ ForFlag i → 0 < count t (flag_queue k i)
unfolding home_of
flag_waiter C t i e =
    let b : i < flag_count = (rw e at (condition_of C t)).0 in
    home_line C (768 + i) t (rw (live_waiter C t (λ z. let y : ◌≡◌ {A = ℕ} 0 1 = cc in omega arith), e)) (omega arith)

-- an accepted pend comes at critical level 1 and unscheduled level 0
pub pend_levels : {k : Kernel} {c : Call} → Accepted k c → c.kind ≡ 33 → (k.critical ≡ 1) × (k.unscheduled ≡ 0)
pend_levels {k} {c} A e = (pend_flag_six k.unscheduled k.critical k.runner (named k c) c e).0 A.region

module _ {k : Kernel} (B : Before k) {c : Call} (A : Accepted k c) where
  -- one more is live
  pub kind_31 : c.kind ≡ 31 → Good (create_flag k c)
  unfolding create_flag none_free named value_of kind_of
  kind_31 e =
      let free : eqb (free_flag k) 255 ≡ false = simp (e, or-false) at A.free in
      let (b, _) = clear_is_clear k.flags flag_count (eqb-false (free_flag k) 255 free) in
      record {
        core = flags_core B.core (with_bit k.flags (free_flag k)) (λ t i _ h.
            cases (eqb (free_flag k) i)
            (λ z. rw (← eqb-true (free_flag k) i z) (bit_same k.flags (free_flag k) (omega (arith, b))))
            (λ z. bit_other k.flags (free_flag k) i (eqb-false (free_flag k) i z) ∙ h));
        runs = B.runs;
      }

  -- nobody waits for the one that goes
  pub kind_32 : c.kind ≡ 32 → Good (destroy_flag k c)
  unfolding destroy_flag
  kind_32 e =
      let (b, _) = live_flag k c.a (flag_named A e refl) in
      let w = sym (has_waiters_lem k c B.core.standing.count (omega arith)) ∙ A.waiters in
      let none = empty (flag_queue k c.a) (not-false (is_empty (flag_queue k c.a)) (rw e at w)) in
      record {
        core = flags_core B.core (without_bit k.flags c.a) (λ t i w h.
            bit_other_without k.flags c.a i
            (λ z. omega (arith, rw none at (flag_waiter B.core t c.a (w ∙ rw z)))) ∙ h);
        runs = B.runs;
      }

  -- the caller blocks once the region has ended
  pub kind_33 : c.kind ≡ 33 → Good (pend_flag k c)
  unfolding pend_flag pop_critical from_thread kind_of
  kind_33 e =
      let (one, u) = pend_levels A e in
      let ready = caller_ready B A (rw e) in
      let out : Before (pop_critical k c) = record {
        core = scheduler_core B.core k.uptime k.unscheduled (k.critical - 1) k.runner;
        runs = λ _. ready;
        running = λ _. ready;
      } in
      block_good out ready (ForFlag c.a) c.c (live_flag k c.a (flag_named A e refl))
      (le-ltb 0 (k.unscheduled + (k.critical - 1)) (omega arith)) (λ _ _ _. refl)

  pub kind_34 : c.kind ≡ 34 → Good (post_flag k c)
  unfolding post_flag
  kind_34 e =
      let (b, _) = live_flag k c.a (flag_named A e refl) in
      let S = B.core.standing in
      let h = home of_flags c.a in
      let becomes : (t : ℕ) → Becomes k.semaphores _ k.flags (thread k t) (thread_in (woken_in h (threads_of k)) t) =
      λ t. line_lasts (Becomes k.semaphores _ k.flags (thread k t)) (λ r l W. becomes_awake W l Wake.Met) S h (λ z. omega arith) t
      (stays (B.core.threads t)) in
      record { core = threads_core B.core (line_standing S h) becomes; runs = λ r. (becomes k.runner).ready (B.runs r) }
