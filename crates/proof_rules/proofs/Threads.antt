-- The kinds 2 and 4 to 7: create, priorities, yield and sleep.
use Prim.Native.Nat.{ℕ, ◌≤◌, ◌<◌}
use mathlib.Core.Path.{◌≡◌, refl, sym, ◌∙◌}
use mathlib.Core.Bool.{Bool, true, false≢true, or-false, and-true}
use mathlib.Core.List.{List}
use mathlib.Core.Logic.{inr}
use native.Mathlib.Omega.{arith}
use borrow.Author.Tests.{eqb-false}
use Rattle.spec_kernel.specs.declared.records.Condition.TheVariants.{Asleep}
use Rattle.spec_kernel.specs.declared.records.Thread.{Thread}
use Rattle.spec_kernel.specs.declared.records.Semaphore.{Semaphore}
use Rattle.spec_kernel.specs.declared.records.Kernel.{Kernel}
use Rattle.spec_kernel.specs.Sizes.{thread_count, priority_count}
use Rattle.spec_kernel.specs.Records.{thread, no_thread}
use Rattle.spec_kernel.specs.Free.{free_thread}
use Rattle.spec_calls.specs.declared.call.Call.{Call}
use Rattle.spec_calls.specs.Kinds.{kind_of, from_thread}
use Rattle.spec_refusals.specs.Named.{named, value_of}
use Rattle.spec_refusals.specs.Refusals.{bad_number, stops_caller, blocks_in_region, none_free}
use Rattle.spec_moves.specs.States.{move_thread, as_byte}
use Rattle.spec_threads.specs.Threads.{born, with_priority, create_thread, set_priority, reset_priority, yielded, sleep}
use Rattle.proof_rules.proofs.Core.{FineThread, untrue, live_thread, place_calm, place_alike}
use Rattle.proof_rules.proofs.Ends.{Good, Before}
use Rattle.proof_rules.proofs.Free.{free_id}
use Rattle.proof_rules.proofs.Accepted.{Accepted, inside, thread_named}
use Rattle.proof_rules.proofs.Steps.{ready_live, caller_ready, place_runs, block_good}

-- ---- records
born_fine : {S : List Semaphore} {waited : ℕ → Bool} {flags : ℕ} (p : ℕ) → 1 ≤ p → p ≤ priority_count → FineThread S waited flags (born p)
born_fine p low high = record {
  living = λ _. record { priority = (low, high, low, high); reply = inr refl; condition = refl };
  gone = λ e. absurd (false≢true (sym e));
}

module _ {k : Kernel} (B : Before k) where
  -- a live thread gets a priority
  priority_good : (t p : ℕ) → (thread k t).live ≡ true → 1 ≤ p → p ≤ priority_count → Good (move_thread t (with_priority p (thread k t)) k)
  priority_good t p l low high =
      let C = B.core in
      let b = live_thread C t l in
      let L = (C.threads t).living l in
      let r : Thread = with_priority p (thread k t) in
      let F : FineThread k.semaphores (untrue k) k.flags r = record {
        living = λ _. record { priority = (low, high, L.priority.2, L.priority.3); reply = L.reply; condition = L.condition };
        gone = λ e. absurd (false≢true (sym e ∙ l));
      } in
      record { core = place_alike C t b r F refl refl; runs = place_runs C t b r B.runs (λ p z. rw z at (B.runs p)) }

  module _ {c : Call} (A : Accepted k c) where
    pub kind_2 : c.kind ≡ 2 → Good (create_thread k c)
    unfolding create_thread bad_number none_free named value_of kind_of
    kind_2 e =
        let C = B.core in
        let (low, high) = inside 1 priority_count c.a (simp (e, or-false) at A.numbers) in
        let (b, _) = free_id (λ r. r.live) no_thread k.threads (simp (e, or-false) at A.free) in
        let b' : free_thread k < thread_count = omega (arith, C.standing.count) in
        record {
          core = place_calm C (free_thread k) b' (born c.a) (born_fine c.a low high) refl (λ _. refl);
          runs = place_runs C (free_thread k) b' (born c.a) B.runs (λ _ _. refl);
        }

    pub kind_4 : c.kind ≡ 4 → Good (set_priority k c)
    unfolding set_priority bad_number
    kind_4 e =
        let (low, high) = inside 1 priority_count c.b (simp (e, or-false) at A.numbers) in
        priority_good c.a (as_byte c.b) (thread_named A e refl) (omega arith) (omega arith)

    pub kind_5 : c.kind ≡ 5 → Good (reset_priority k c)
    unfolding reset_priority
    kind_5 e =
        let l = thread_named A e refl in
        let p = ((B.core.threads c.a).living l).priority in
        priority_good c.a (thread k c.a).first l p.2 p.3

    pub kind_6 : c.kind ≡ 6 → Good (yielded k c)
    unfolding yielded from_thread kind_of
    kind_6 e =
        let C = B.core in
        let t = k.runner in
        let b = live_thread C t (ready_live (thread k t) (caller_ready B A (rw e))) in
        record {
          core = place_alike C t b (thread k t) (C.threads t) refl refl;
          runs = place_runs C t b (thread k t) B.runs (λ p _. B.runs p);
        }

    pub kind_7 : c.kind ≡ 7 → Good (sleep k c)
    unfolding sleep from_thread kind_of bad_number blocks_in_region stops_caller
    kind_7 e =
        let n = eqb-false c.c 0 (simp (e, or-false) at A.numbers) in
        block_good B (caller_ready B A (rw e)) Asleep c.c (omega arith) (simp (e, and-true) at A.region) (λ _ _ _. refl)
