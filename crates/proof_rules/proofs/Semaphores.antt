-- The kinds 14 to 19 and 28: create, destroy, periodic, pend and post.
use Prim.Native.Nat.{ℕ, ◌+◌, ◌-◌, ◌<◌}
use mathlib.Core.Path.{◌≡◌, refl, sym, ◌∙◌}
use mathlib.Core.Bool.{Bool, true, false, false≢true, or-false, and-true}
use mathlib.Core.List.{List, [], ◌∷◌}
use native.Mathlib.Omega.{arith}
use lib.Dec.{eqb, ltb}
use borrow.Author.Tests.{eqb-false, eq-eqb, ltb-true, ltb-false, not-false}
use borrow.Table.Steps.{cases}
use Rattle.base_queue.specs.Lists.{count, is_empty}
use Rattle.base_queue.proofs.Counts.{count_head}
use Rattle.spec_kernel.specs.declared.records.Condition.TheVariants.{ForSemaphore}
use Rattle.spec_kernel.specs.declared.records.Wake.{Wake}
use Rattle.spec_kernel.specs.declared.records.Semaphore.{Semaphore}
use Rattle.spec_kernel.specs.declared.records.Kernel.{Kernel}
use Rattle.spec_kernel.specs.Records.{thread, semaphore, no_semaphore}
use Rattle.spec_kernel.specs.Places.{semaphore_queue}
use Rattle.spec_kernel.specs.Free.{free_semaphore}
use Rattle.spec_rules.proofs.OfRecords.{LiveSemaphore, KeptSemaphore}
use Rattle.spec_calls.specs.declared.call.Call.{Call}
use Rattle.spec_calls.specs.Kinds.{kind_of, from_thread}
use Rattle.spec_refusals.specs.Named.{named, value_of}
use Rattle.spec_refusals.specs.Refusals.{bad_number, in_region, stops_caller, blocks_in_region, none_free, outside}
use Rattle.spec_refusals.proofs.Waiters.{has_waiters_lem}
use Rattle.spec_moves.specs.States.{with_semaphore}
use Rattle.spec_semaphores.specs.Semaphores.{with_count, with_ticks, raised, post_to, post}
use Rattle.spec_threads.specs.Threads.{wake}
use Rattle.spec_semaphores.specs.Semaphores.{create_semaphore, destroy_semaphore, make_periodic, remove_periodic, pend_semaphore, post_semaphore}
use Rattle.proof_rules.proofs.Core.{Waitable, Core, untrue, live_semaphore, condition_of, semaphore_core}
use Rattle.proof_rules.proofs.Ends.{Runs, Good, Before}
use Rattle.proof_rules.proofs.Free.{free_id}
use Rattle.proof_rules.proofs.Accepted.{Accepted, neither, inside, semaphore_named}
use Rattle.proof_rules.proofs.Steps.{semaphore_waiter, line_live, wake_core, wake_runs, caller_ready, block_good}

-- a live record
living : {s : Semaphore} → s.live ≡ true → LiveSemaphore s → KeptSemaphore s
living l L = record { living = λ _. L; gone = λ e. absurd (false≢true (sym e ∙ l)) }

pub empty : (l : List ℕ) → is_empty l ≡ true → l ≡ []
empty [] h = refl
empty (x ∷ l) h = absurd (false≢true h)

module _ {waited : ℕ → Bool} {k : Kernel} (C : Core waited k) (i : ℕ) where
  -- what is waited for is live, with count 0
  pub waited_for : (t : ℕ) → (thread k t).condition ≡ ForSemaphore i → Waitable (semaphore k i)
  waited_for t e = rw e at (condition_of C t)

  -- a queue without members: nobody waits
  pub none_waits : semaphore_queue k i ≡ [] → (t : ℕ) → (thread k t).condition ≡ ForSemaphore i → ⊥
  none_waits n t e = omega (arith, rw n at (semaphore_waiter C t i e))

  module _ (l : (semaphore k i).live ≡ true) where
    -- ---- a post: the first waiter wakes, or the count goes up
    raised_fine : KeptSemaphore (raised (semaphore k i))
    raised_fine =
        let L = (C.semaphores i).living l in
        living l
        (record {
          maximum = L.maximum;
          count =
              cases (ltb (semaphore k i).count (semaphore k i).maximum)
              (λ e. let b = ltb-true (semaphore k i).count (semaphore k i).maximum e in rw e (omega arith)) (λ e. rw e L.count);
          ticks = L.ticks;
        })

    -- the events are as they were
    pub post_kept : Core waited (post i k) × (Runs k → Runs (post i k)) × (untrue (post i k) ≡ untrue k)
    unfolding post wake
    post_kept = go (semaphore_queue k i) refl
      where
        go : (q : List ℕ) → semaphore_queue k i ≡ q
            → Core waited (post_to q i k) × (Runs k → Runs (post_to q i k)) × (untrue (post_to q i k) ≡ untrue k)
        go [] e = (semaphore_core C i (raised (semaphore k i)) raised_fine (λ t w. absurd (none_waits e t w)), λ R. R, refl)
        go (t ∷ q) e =
            let b = live_semaphore C i l in
            let h = line_live C (256 + i) t (omega arith) (rw e (count_head t q)) in
            (wake_core C Wake.Met t h, wake_runs C Wake.Met t h, refl)

module _ {k : Kernel} (B : Before k) {c : Call} (A : Accepted k c) where
  -- a semaphore gets a record
  semaphore_good : (i : ℕ) (s : Semaphore) → KeptSemaphore s → ((t : ℕ) → (thread k t).condition ≡ ForSemaphore i → Waitable s)
      → Good (with_semaphore i s k)
  semaphore_good i s F waiters = record { core = semaphore_core B.core i s F waiters; runs = B.runs }

  pub kind_14 : c.kind ≡ 14 → Good (create_semaphore k c)
  unfolding create_semaphore bad_number none_free named value_of kind_of
  kind_14 e =
      let (range, most) = neither (outside 1 65535 c.c) (ltb c.c c.b) (simp (e, or-false) at A.numbers) in
      let (low, high) = inside 1 65535 c.c range in
      let b = ltb-false c.c c.b most in
      let (_, free) = free_id (λ r. r.live) no_semaphore k.semaphores (simp (e, or-false) at A.free) in
      semaphore_good (free_semaphore k) _
      (living refl (record { maximum = omega arith; count = omega arith; ticks = (λ _. refl, λ h. absurd (omega arith)) }))
      (λ t w. absurd (false≢true (rw free at (waited_for B.core (free_semaphore k) t w).0)))

  pub kind_15 : c.kind ≡ 15 → Good (destroy_semaphore k c)
  unfolding destroy_semaphore
  kind_15 e =
      let b = live_semaphore B.core c.a (semaphore_named A e refl) in
      let w = sym (has_waiters_lem k c B.core.standing.count (omega arith)) ∙ A.waiters in
      let none = empty (semaphore_queue k c.a) (not-false (is_empty (semaphore_queue k c.a)) (rw (e, or-false) at w)) in
      semaphore_good c.a no_semaphore (record { living = λ l. absurd (false≢true l); gone = λ _. refl })
      (λ t w. absurd (none_waits B.core c.a none t w))

  -- ---- of those that name a live semaphore
  module _ (l : (semaphore k c.a).live ≡ true) where
    abbrev s : Semaphore
    s = semaphore k c.a

    L : LiveSemaphore s
    L = (B.core.semaphores c.a).living l

    ticks_good : (ticks period : ℕ) → (period ≡ 0 → ticks ≡ 0) × (0 < period → 0 < ticks)
        → Good (with_semaphore c.a (with_ticks ticks period s) k)
    ticks_good ticks period h =
        semaphore_good c.a (with_ticks ticks period s) (living l (record { maximum = L.maximum; count = L.count; ticks = h }))
        (waited_for B.core c.a)

    pend_good : from_thread c ≡ true → (eqb s.count 0 ≡ true → in_region k.unscheduled k.critical ≡ false) → Good (pend_semaphore k c)
    unfolding pend_semaphore
    pend_good f out =
        cases (ltb 0 s.count)
        (λ e. let b = ltb-true 0 s.count e in
        rw e
        (semaphore_good c.a (with_count (s.count - 1) s)
        (living l (record { maximum = L.maximum; count = omega (arith, L.count); ticks = L.ticks }))
        (λ t w. absurd (omega (arith, (waited_for B.core c.a t w).1)))))
        (λ e. let z : s.count ≡ 0 = omega (arith, ltb-false 0 s.count e) in
        rw e
        (block_good B (caller_ready B A f) (ForSemaphore c.a) c.c (l, z) (out (eq-eqb s.count 0 z)) (λ _ _ _. refl)))

    post_good : Good (post_semaphore k c)
    unfolding post_semaphore
    post_good = let (core, runs, events) = post_kept B.core c.a l in record { core = rw events core; runs = runs B.runs }

  pub kind_16 : c.kind ≡ 16 → Good (make_periodic k c)
  unfolding make_periodic bad_number
  kind_16 e =
      let (delay, period) = neither (eqb c.c 0) (eqb c.d 0) (simp (e, or-false) at A.numbers) in
      let d = eqb-false c.c 0 delay in
      let p = eqb-false c.d 0 period in
      ticks_good (semaphore_named A e refl) c.c c.d (λ z. absurd (p z), λ _. omega arith)

  pub kind_17 : c.kind ≡ 17 → Good (remove_periodic k c)
  unfolding remove_periodic
  kind_17 e = ticks_good (semaphore_named A e refl) 0 0 (omega arith)

  pub kind_18 : c.kind ≡ 18 → Good (pend_semaphore k c)
  unfolding from_thread kind_of blocks_in_region stops_caller named
  kind_18 e =
      pend_good (semaphore_named A e refl) (rw e) (λ z. simp (e, z, and-true) at A.region)

  pub kind_19 : c.kind ≡ 19 → Good (post_semaphore k c)
  kind_19 e = post_good (semaphore_named A e refl)

  pub kind_28 : c.kind ≡ 28 → Good (post_semaphore k c)
  kind_28 e = post_good (semaphore_named A e refl)
