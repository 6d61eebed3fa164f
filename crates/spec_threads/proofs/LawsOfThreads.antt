-- Threads: create, yield and priorities, as spec_laws says it.
use mathlib.Core.Path.{◌≡◌, refl, sym, ap, ◌∙◌}
use mathlib.Core.Bool.{true, false, false≢true}
use Prim.Native.Nat.{ℕ, ◌<◌}
use native.Mathlib.Nat.{mod-eq_of_lt}
use native.Mathlib.Omega.{arith}
use lib.Dec.{eqb}
use borrow.Author.Tests.{eqb-true, eqb-false}
use borrow.Table.Steps.{cases}
use Rattle.base_queue.specs.Queues.{items}
use Rattle.spec_kernel.specs.declared.records.Condition.{Condition}
use Rattle.spec_kernel.specs.declared.records.Condition.TheVariants.{Ready, Asleep, ForSemaphore, ForEvent, ForMessage, ForFlag}
use Rattle.spec_kernel.specs.declared.records.Kernel.{Kernel}
use Rattle.spec_kernel.specs.Sizes.{thread_count}
use Rattle.spec_kernel.specs.Records.{thread, no_thread}
use Rattle.spec_kernel.specs.Conditions.{is_ready, ready_for}
use Rattle.spec_kernel.specs.Places.{nowhere, home_for, home_of}
use Rattle.spec_moves.specs.Standing.{threads_of, Standing}
use Rattle.spec_moves.proofs.Threads.{ready_home_lem, relocate_same, relocate_other, relocate_last, relocate_leaves}
use Rattle.spec_kernel.specs.Free.{free_thread}
use Rattle.spec_kernel.proofs.LowestFree.{free_is_free, free_is_lowest}
use Rattle.spec_calls.specs.declared.call.Call.{Call}
use Rattle.spec_moves.specs.States.{move_thread}
use Rattle.spec_threads.specs.Threads.{create_thread, set_priority, reset_priority, yielded}
use Rattle.spec_laws.specs.Words.{prioritized, newborn}
use Rattle.spec_threads.proofs.LawsOfHomes.{Runnable}
use Rattle.spec_threads.proofs.LawsOfHomes.{place_only, live_home, ready_live, live_id}
use Rattle.spec_threads.proofs.LawsOfHomes.{line_without, line_nowhere, time_stays, line_joins}
use Rattle.spec_laws.specs.OfThreads.{Created, Yielded, Reprioritized}

-- ---- create
module _ (k : Kernel) (c : Call) where
  module _ (S : Standing (threads_of k)) (byte : c.a < 256) (room : free_thread k ≡ 255 → ⊥)
      (clean : (thread k (free_thread k)).ticks ≡ 0) where
    pub create_creates : Created c.a (free_thread k) k (create_thread k c)
    unfolding create_thread home_of
    create_creates =
        let t = free_thread k in
        let r = newborn c.a in
        let (b, free) = free_is_free (λ r. r.live) no_thread k.threads room in
        let id : t < thread_count = omega (arith, S.count) in
        let none : home_of (thread k t) ≡ nowhere = rw free in
        record {
          free = free;
          lowest = free_is_lowest (λ r. r.live) no_thread k.threads room;
          last = relocate_last (threads_of k) t r S id refl byte ∙ rw (line_nowhere S t c.a none);
          lists = λ h ne. relocate_leaves (threads_of k) t r S id ne ∙ line_nowhere S t h none;
          time = ap items (time_stays (threads_of k) t r clean);
          itself = relocate_same (threads_of k) t r S.count id;
          others = λ u ne. relocate_other (threads_of k) t r ne;
          only = place_only t r k;
        }

-- ---- yield
module _ (k : Kernel) (c : Call) where
  pub yield_yields : Standing (threads_of k) → Runnable (thread k k.runner) → Yielded k.runner k (yielded k c)
  unfolding yielded
  yield_yields S R =
      let t = k.runner in
      let r = thread k t in
      let id = live_id S t (ready_live r R.ready) in
      let home = ready_home_lem r R.ready in
      record {
        last = relocate_last (threads_of k) t r S id home R.byte;
        lists = λ h ne. relocate_leaves (threads_of k) t r S id (λ z. ne (z ∙ home)) ∙ line_without S t h (λ z. ne (sym z ∙ home));
        time = ap items (time_stays (threads_of k) t r refl);
        records = λ u.
            cases (eqb u t) (λ e. rw (eqb-true u t e) (relocate_same (threads_of k) t r S.count id))
            (λ e. relocate_other (threads_of k) t r (eqb-false u t e));
        only = place_only t r k;
      }

-- ---- priorities
-- the home of who isn't ready is the same for every priority
unmoved : (c : Condition) (p q : ℕ) → ready_for c ≡ false → home_for c p ≡ home_for c q
unmoved Ready p q e = absurd (false≢true (sym e))
unmoved Asleep p q e = refl
unmoved (ForSemaphore i) p q e = refl
unmoved (ForEvent i) p q e = refl
unmoved (ForMessage mask) p q e = refl
unmoved (ForFlag i) p q e = refl

module _ (k : Kernel) (S : Standing (threads_of k)) (a new : ℕ) (l : (thread k a).live ≡ true) (b : new < 256) where
  reprioritized : Reprioritized new a k (move_thread a (prioritized new (thread k a)) k)
  reprioritized =
      let r = prioritized new (thread k a) in
      let id = live_id S a l in
      let home = live_home r l in
      let stays : is_ready (thread k a) ≡ false → home_of (thread k a) ≡ home_for (thread k a).condition new =
      λ e. live_home (thread k a) l ∙ unmoved (thread k a).condition _ new (rw l at e) in
      record {
        last = λ e. relocate_last (threads_of k) a r S id (ready_home_lem r e) b;
        lists = λ e h ne. relocate_leaves (threads_of k) a r S id (λ z. ne (z ∙ ready_home_lem r e));
        semaphore = λ i s e. line_joins S a id r (home ∙ rw e) (λ z. omega arith);
        event = λ i s e. line_joins S a id r (home ∙ rw e) (λ z. omega arith);
        flag = λ i s e. line_joins S a id r (home ∙ rw e) (λ z. omega arith);
        elsewhere = λ e h ne. relocate_leaves (threads_of k) a r S id (λ z. ne (z ∙ home)) ∙ line_without S a h (λ z. ne (sym z ∙ stays e));
        time = ap items (time_stays (threads_of k) a r refl);
        itself = relocate_same (threads_of k) a r S.count id;
        others = λ u ne. relocate_other (threads_of k) a r ne;
        only = place_only a r k;
      }

module _ (k : Kernel) (c : Call) where
  module _ (S : Standing (threads_of k)) (l : (thread k c.a).live ≡ true) where
    pub set_priority_sets : c.b < 256 → Reprioritized c.b c.a k (set_priority k c)
    unfolding set_priority
    set_priority_sets b = rw (mod-eq_of_lt b) (reprioritized k S c.a c.b l b)

    -- to reset is to set the first priority again [01, calls: Threads 2]
    pub reset_priority_sets : (thread k c.a).first < 256 → Reprioritized (thread k c.a).first c.a k (reset_priority k c)
    unfolding reset_priority
    reset_priority_sets b = reprioritized k S c.a (thread k c.a).first l b
