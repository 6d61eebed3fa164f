-- A state record by record and table by table: what the test says, and what its records say of places and times.
use Prim.Native.Nat.{ℕ, ◌+◌, ◌<◌}
use mathlib.Core.Path.{◌≡◌, refl, sym}
use mathlib.Core.Bool.{true, false≢true, and-true, and-eq-true_iff}
use mathlib.Core.Logic.{◌↔◌}
use lib.ListN.{get_or-eq_default}
use lib.Dec.{ltb}
use borrow.Author.Tests.{lt-ltb, ltb-true, ltb-false}
use borrow.Table.Steps.{cases}
use Rattle.spec_kernel.specs.declared.records.Condition.{Condition}
use Rattle.spec_kernel.specs.declared.records.Condition.TheVariants.{Ready, Asleep, ForSemaphore, ForEvent, ForMessage, ForFlag}
use Rattle.spec_kernel.specs.declared.records.Kernel.{Kernel}
use Rattle.spec_kernel.specs.Sizes.{semaphore_count}
use Rattle.spec_kernel.specs.Records.{thread, semaphore, message, no_semaphore}
use Rattle.spec_kernel.specs.Conditions.{is_ready, is_timed, timed_for}
use Rattle.spec_kernel.specs.Runner.{chosen}
use Rattle.spec_moves.specs.Standing.{threads_of, posts_of, Standing, Filed}
use Rattle.spec_rules.specs.Rules.{Sized}
use Rattle.spec_rules.specs.Tests.{keeps_rules, runner_kept}
use Rattle.spec_rules.proofs.OfRecords.{zero_iff, eqb_iff, live_or_not, ConditionKept, KeptThread, KeptSemaphore, KeptMessage}
use Rattle.spec_rules.proofs.OfRecords.{threads_exactly, semaphores_exactly, messages_exactly}
use Rattle.spec_rules.proofs.OfTables.{standing_exactly, filed_exactly}
use Rattle.spec_rules.proofs.Homes.{Housed, housed}

-- each record is kept, everybody stands in place, and the right thread runs
pub record Whole (k : Kernel) : Type 0 where
  pub threads : (t : ℕ) → KeptThread k (thread k t)
  pub semaphores : (i : ℕ) → KeptSemaphore (semaphore k i)
  pub messages : (m : ℕ) → KeptMessage k (message k m)
  pub standing : Standing (threads_of k)
  pub filed : Filed (posts_of k)
  pub runs : (k.unscheduled + k.critical ≡ 0 → k.runner ≡ chosen k)
      × (0 < k.unscheduled + k.critical → is_ready (thread k k.runner) ≡ true)

module _ (k : Kernel) (Z : Sized k) where
  -- the test says just that
  pub whole_exactly : (keeps_rules k ≡ true) ↔ Whole k
  unfolding keeps_rules runner_kept
  whole_exactly = (
    λ h. let (p, (t, (q, (ts, (ss, (ms, r)))))) = simp (and-true, and-eq-true_iff) at h in
        record {
          threads = (threads_exactly k).0 ts;
          semaphores = (semaphores_exactly k).0 ss;
          messages = (messages_exactly k).0 ms;
          standing = (standing_exactly k Z).0 (p, t);
          filed = (filed_exactly k Z).0 q;
          runs = simp (zero_iff, eqb_iff) at r;
        },
    λ W. let (p, t) = (standing_exactly k Z).1 W.standing in
        let q = (filed_exactly k Z).1 W.filed in
        rw (p, t, q, (threads_exactly k).1 W.threads, (semaphores_exactly k).1 W.semaphores, (messages_exactly k).1 W.messages)
        (simp (and-true, zero_iff, eqb_iff) W.runs),
  )

  -- a live semaphore has an id
  pub live_below : (i : ℕ) → (semaphore k i).live ≡ true → i < semaphore_count
  live_below i h =
      cases (ltb i semaphore_count) (ltb-true i semaphore_count)
      (λ e. let past = get_or-eq_default k.semaphores no_semaphore {n = i} (rw Z.semaphores (ltb-false i semaphore_count e)) in
      absurd (false≢true (rw past at h)))

  module _ (K : (t : ℕ) → KeptThread k (thread k t)) where
    -- every thread's home is in its range and names its list
    pub homes : (t : ℕ) → Housed (thread k t)
    homes t = housed k live_below (thread k t) (K t)

    -- the condition says the same of a thread that isn't live: it is ready, its ticks left are 0
    pub conditions : (t : ℕ) → ConditionKept k (thread k t).ticks (thread k t).condition
    conditions t = live_or_not (λ r. ConditionKept k r.ticks r.condition) (K t) (λ L. L.condition) refl

    ticking : (ticks : ℕ) (c : Condition) → ConditionKept k ticks c → timed_for c ticks ≡ ltb 0 ticks
    ticking ticks Ready h = rw h
    ticking ticks Asleep h = sym (lt-ltb 0 ticks h)
    ticking ticks (ForSemaphore i) h = refl
    ticking ticks (ForEvent i) h = refl
    ticking ticks (ForMessage mask) h = refl
    ticking ticks (ForFlag i) h = refl

    -- the timed threads are those with ticks left
    pub timed : (t : ℕ) → is_timed (thread k t) ≡ ltb 0 (thread k t).ticks
    timed t =
        cases (thread k t).live (λ e. rw e (ticking (thread k t).ticks (thread k t).condition (conditions t))) (λ e. rw ((K t).gone e))
