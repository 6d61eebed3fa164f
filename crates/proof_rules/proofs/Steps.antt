-- The steps that many kinds share: who stands in a list, a thread that wakes, and a caller that blocks.
use Prim.Native.Nat.{ℕ, ◌+◌, ◌<◌}
use mathlib.Core.Path.{◌≡◌, refl, sym, ◌∙◌}
use mathlib.Core.Bool.{Bool, true, false, false≢true, and-eq-true_iff}
use mathlib.Core.List.{List}
use mathlib.Core.Logic.{◌⊎◌, inr}
use native.Mathlib.Omega.{arith}
use lib.Dec.{eqb}
use borrow.Author.Tests.{eqb-true, ne_eqb, lt-ltb}
use borrow.Table.Steps.{cases}
use Rattle.base_queue.specs.Lists.{count}
use Rattle.base_queue.specs.Queues.{items}
use Rattle.base_queue.proofs.Counts.{same, count_keep, kept}
use Rattle.spec_kernel.specs.declared.records.Condition.{Condition}
use Rattle.spec_kernel.specs.declared.records.Condition.TheVariants.{ForSemaphore}
use Rattle.spec_kernel.specs.declared.records.Wake.{Wake}
use Rattle.spec_kernel.specs.declared.records.Thread.{Thread}
use Rattle.spec_kernel.specs.declared.records.Semaphore.{Semaphore}
use Rattle.spec_kernel.specs.declared.records.Kernel.{Kernel}
use Rattle.spec_kernel.specs.Sizes.{thread_count, message_count}
use Rattle.spec_kernel.specs.Records.{thread, message}
use Rattle.spec_kernel.specs.Conditions.{is_ready, ready_for, awaits}
use Rattle.spec_kernel.specs.Places.{home_of, at_home, nowhere, semaphore_queue}
use Rattle.spec_calls.specs.declared.call.Call.{Call}
use Rattle.spec_calls.specs.Kinds.{from_thread}
use Rattle.spec_refusals.specs.Refusals.{in_region}
use Rattle.spec_moves.specs.States.{move_thread}
use Rattle.spec_threads.specs.Threads.{awake, blocked, block, wake}
use Rattle.proof_rules.proofs.Core.{Fits, FineThread, Core, untrue, live_thread}
use Rattle.proof_rules.proofs.Core.{live_semaphore, condition_of, live_waiter, each_thread, place_core, place_calm}
use Rattle.proof_rules.proofs.Ends.{Runs, Good, Before}
use Rattle.proof_rules.proofs.Accepted.{Accepted, called}

-- ---- records
module _ {S : List Semaphore} {waited : ℕ → Bool} {flags : ℕ} {r : Thread} (F : FineThread S waited flags r) (l : r.live ≡ true) where
  -- a live thread wakes
  pub awake_fine : (why : Wake) (reply : ℕ) → (reply < message_count) ⊎ (reply ≡ 255) → FineThread S waited flags (awake why reply r)
  awake_fine why reply b = record {
    living = λ _. record { priority = (F.living l).priority; reply = b; condition = refl };
    gone = λ e. absurd (false≢true (sym e ∙ l));
  }

  -- or blocks
  pub blocked_fine : (condition : Condition) (timeout : ℕ) → Fits S waited flags timeout condition
      → FineThread S waited flags (blocked condition timeout r)
  blocked_fine condition timeout f = record {
    living = λ _. record { priority = (F.living l).priority; reply = inr refl; condition = f };
    gone = λ e. absurd (false≢true (sym e ∙ l));
  }

-- a ready thread is live
pub ready_live : (r : Thread) → is_ready r ≡ true → r.live ≡ true
ready_live r e = ((and-eq-true_iff r.live (ready_for r.condition)).0 e).0

module _ {waited : ℕ → Bool} {k : Kernel} (C : Core waited k) where
  -- ---- who stands in a list: those whose home it is
  pub line_home : (h t : ℕ) → 0 < count t (at_home k h) → home_of (thread k t) ≡ h
  line_home h t c = eqb-true (home_of (thread k t)) h (kept (λ u. eqb (home_of (thread k u)) h) (items k.places) c).0

  pub home_line : (h t : ℕ) → home_of (thread k t) ≡ h → h < nowhere → 0 < count t (at_home k h)
  home_line h t e b =
      rw (count_keep, C.standing.placed t, e, same, ne_eqb h nowhere (λ z. omega arith)) (omega arith)

  -- they are live
  pub line_live : (h t : ℕ) → h < nowhere → 0 < count t (at_home k h) → (thread k t).live ≡ true
  unfolding home_of
  line_live h t b c =
      cases (thread k t).live (λ e. e) (λ e. let z : nowhere ≡ h = rw e at (line_home h t c) in absurd (omega arith))

  -- whoever waits for a semaphore stands in its queue
  pub semaphore_waiter : (t i : ℕ) → (thread k t).condition ≡ ForSemaphore i → 0 < count t (semaphore_queue k i)
  unfolding home_of
  semaphore_waiter t i e =
      let b = live_semaphore C i (rw e at (condition_of C t)).0 in
      home_line (256 + i) t (rw (live_waiter C t (λ z. let y : ◌≡◌ {A = ℕ} 0 1 = cc in omega arith), e)) (omega arith)

  -- ---- who runs in a region is ready still
  pub place_runs : (t : ℕ) → t < thread_count → (r : Thread) → Runs k
      → (0 < k.unscheduled + k.critical → k.runner ≡ t → is_ready r ≡ true) → Runs (move_thread t r k)
  place_runs t b r R h = λ p. each_thread C t b r (λ s. is_ready s ≡ true) k.runner (h p) (λ _. R p)

  -- ---- a live thread wakes
  module _ (why : Wake) (t : ℕ) (l : (thread k t).live ≡ true) where
    pub wake_core : Core waited (wake why t k)
    unfolding wake
    wake_core =
        place_calm C t (live_thread C t l) (awake why (thread k t).reply (thread k t))
        (awake_fine (C.threads t) l why (thread k t).reply ((C.threads t).living l).reply) l (λ _. refl)

    pub wake_runs : Runs k → Runs (wake why t k)
    unfolding wake
    wake_runs R = place_runs t (live_thread C t l) (awake why (thread k t).reply (thread k t)) R (λ _ _. rw l)

-- ---- the caller is ready
pub caller_ready : {k : Kernel} {c : Call} → Before k → Accepted k c → from_thread c ≡ true → is_ready (thread k k.runner) ≡ true
caller_ready B A f = B.running (called A f)

-- where no region is held it may block
pub block_good : {k : Kernel} → Before k → is_ready (thread k k.runner) ≡ true → (condition : Condition) (timeout : ℕ)
    → Fits k.semaphores (untrue k) k.flags timeout condition → in_region k.unscheduled k.critical ≡ false
    → ((m : ℕ) → (message k m).live ≡ true → (message k m).owner ≡ k.runner → awaits condition (message k m).channel ≡ false)
    → Good (block condition timeout k)
unfolding block
block_good {k} B ready condition timeout f out owned =
    let C = B.core in
    let l = ready_live (thread k k.runner) ready in
    let b = live_thread C k.runner l in
    let r : Thread = blocked condition timeout (thread k k.runner) in
    record {
      core = place_core C k.runner b r (blocked_fine (C.threads k.runner) l condition timeout f) (λ m e z. (l, owned m e z));
      runs =
          place_runs C k.runner b r B.runs
          (λ p _. absurd (false≢true (sym out ∙ lt-ltb 0 (k.unscheduled + k.critical) p)));
    }
