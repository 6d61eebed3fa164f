-- Events and event bits: what load, pend, set and clear keep.
use Prim.Native.Nat.{ℕ}
use mathlib.Core.Path.{◌≡◌, refl, ap}
use mathlib.Core.Bool.{Bool, false, not, ◌&&◌, and-true, or-false}
use native.Mathlib.Omega.{arith}
use lib.Dec.{leb}
use lib.ListN.{length-set}
use borrow.Author.Tests.{leb-false}
use borrow.Table.Steps.{cases}
use Rattle.base_bits.specs.Words.{with_bit, without_bit}
use Rattle.spec_kernel.specs.declared.records.Condition.TheVariants.{ForEvent}
use Rattle.spec_kernel.specs.declared.records.Wake.{Wake}
use Rattle.spec_kernel.specs.declared.records.Thread.{Thread}
use Rattle.spec_kernel.specs.declared.records.Kernel.{Kernel}
use Rattle.spec_moves.specs.declared.parts.Threads.{Threads}
use Rattle.spec_kernel.specs.Sizes.{event_count}
use Rattle.spec_kernel.specs.Records.{thread, event}
use Rattle.spec_kernel.specs.Truth.{is_true}
use Rattle.spec_moves.specs.Moves.{thread_in}
use Rattle.spec_moves.specs.Standing.{threads_of, Standing}
use Rattle.spec_calls.specs.declared.call.Call.{Call}
use Rattle.spec_calls.specs.Kinds.{from_thread, kind_of}
use Rattle.spec_refusals.specs.Named.{named}
use Rattle.spec_refusals.specs.Refusals.{in_region, bad_id, blocks_in_region, stops_caller}
use Rattle.spec_moves.specs.States.{with_bits}
use Rattle.spec_events.specs.Events.{work_out_from, worked_out, load_event, pend_event, set_bit, clear_bit}
use Rattle.proof_rules.proofs.Core.{Core, untrue, core_weaken, events_core}
use Rattle.proof_rules.proofs.Ends.{Runs, Good, Before}
use Rattle.proof_rules.proofs.Wakings.{outs_standing, outs_last, outs_unwaited}
use Rattle.proof_rules.proofs.Accepted.{Accepted}
use Rattle.proof_rules.proofs.Steps.{caller_ready, block_good}
use Rattle.proof_rules.proofs.AllThreads.{Becomes, stays, becomes_awake, threads_core}

-- ---- events are worked out
module _ {w : ℕ → Bool} {k : Kernel} (C : Core w k) where
  abbrev after : Threads
  after = work_out_from k.events k.bits 0 event_count (threads_of k)

  worked_standing : Standing after
  worked_standing = outs_standing k.events k.bits 0 event_count C.standing

  -- those that wake are live
  worked_becomes : (t : ℕ) → Becomes k.semaphores w k.flags (thread k t) (thread_in after t)
  worked_becomes t =
      outs_last k.events k.bits (Becomes k.semaphores w k.flags (thread k t)) (λ r l B. becomes_awake B l Wake.Met)
      0 event_count (omega arith)
      C.standing t (stays (C.threads t))

  -- then nobody waits for an event that is TRUE
  worked_core : Core (untrue (worked_out k)) (worked_out k)
  unfolding worked_out
  worked_core = core_weaken (threads_core C worked_standing worked_becomes) λ t i e b _.
      cases (is_true k.bits (event k i))
      (λ h. absurd (outs_unwaited k.events k.bits 0 event_count (omega arith) C.standing
      (λ u l. ap (λ (r : Thread). r.condition) ((C.threads u).gone l)) i (omega arith) (omega arith) h t e))
      (λ h. rw h)

  worked_good : Runs k → Good (worked_out k)
  unfolding worked_out
  worked_good R = record { core = worked_core; runs = λ b. (worked_becomes k.runner).ready (R b) }

module _ {k : Kernel} (B : Before k) {c : Call} (A : Accepted k c) where
  pub kind_20 : c.kind ≡ 20 → Good (load_event k c)
  unfolding load_event
  kind_20 _ = worked_good (events_core B.core _ k.bits (rw length-set B.core.events_sized)) B.runs

  bits_good : (bits : ℕ) → Good (worked_out (with_bits bits k))
  bits_good bits = worked_good (events_core B.core k.events bits B.core.events_sized) B.runs

  set_good : Good (set_bit k c)
  unfolding set_bit
  set_good = bits_good (with_bit k.bits c.a)

  pub kind_22 : c.kind ≡ 22 → Good (set_bit k c)
  kind_22 _ = set_good

  pub kind_29 : c.kind ≡ 29 → Good (set_bit k c)
  kind_29 _ = set_good

  clear_good : Good (clear_bit k c)
  unfolding clear_bit
  clear_good = bits_good (without_bit k.bits c.a)

  pub kind_23 : c.kind ≡ 23 → Good (clear_bit k c)
  kind_23 _ = clear_good

  pub kind_30 : c.kind ≡ 30 → Good (clear_bit k c)
  kind_30 _ = clear_good

  -- who blocks waits for an event that is not TRUE, and in no region
  pub kind_21 : c.kind ≡ 21 → Good (pend_event k c)
  unfolding pend_event bad_id blocks_in_region stops_caller named from_thread kind_of
  kind_21 e =
      let a : leb event_count c.a ≡ false = simp (e, or-false) at A.ids in
      let region : (in_region k.unscheduled k.critical && not (is_true k.bits (event k c.a))) ≡ false =
      simp (e, or-false) at A.region in
      cases (is_true k.bits (event k c.a)) (λ h. rw h (record { core = B.core; runs = B.runs }))
      (λ h. rw h
      (block_good B (caller_ready B A (rw e)) (ForEvent c.a) c.c (omega (arith, leb-false event_count c.a a), rw h)
      (simp (h, and-true) at region) (λ _ _ _. refl)))
