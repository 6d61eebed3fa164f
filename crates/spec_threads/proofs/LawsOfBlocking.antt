-- Blocking: the caller leaves its ready list and joins its queue.
use mathlib.Core.Path.{◌≡◌, refl, sym, ap, ◌∙◌}
use Prim.Native.Nat.{ℕ, ◌≤◌}
use native.Mathlib.Omega.{arith}
use Rattle.base_queue.specs.Lists.{behind}
use Rattle.base_queue.specs.Queues.{items}
use Rattle.spec_kernel.specs.declared.records.Condition.{Condition}
use Rattle.spec_kernel.specs.declared.records.Condition.TheVariants.{Asleep}
use Rattle.spec_kernel.specs.declared.records.Kernel.{Kernel}
use Rattle.spec_kernel.specs.Records.{thread}
use Rattle.spec_kernel.specs.Places.{nowhere, home_for}
use Rattle.spec_moves.specs.Standing.{threads_of, Standing}
use Rattle.spec_moves.proofs.Threads.{ready_home_lem, relocate_same, relocate_other, relocate_leaves}
use Rattle.spec_calls.specs.declared.call.Call.{Call}
use Rattle.spec_threads.specs.Threads.{block, sleep}
use Rattle.spec_laws.specs.Words.{stopped}
use Rattle.spec_threads.proofs.LawsOfHomes.{Runnable}
use Rattle.spec_threads.proofs.LawsOfHomes.{place_only, live_home, ready_live, live_id}
use Rattle.spec_threads.proofs.LawsOfHomes.{line_without, time_stays, time_joins, line_joins}
use Rattle.spec_laws.specs.OfThreads.{is_lower, Blocked}

module _ (k : Kernel) (S : Standing (threads_of k)) (R : Runnable (thread k k.runner)) (condition : Condition) (timeout : ℕ) where
  pub block_blocks : {h : ℕ} → home_for condition (thread k k.runner).priority ≡ h → 256 ≤ h
      → Blocked condition timeout h k.runner k (block condition timeout k)
  unfolding block
  block_blocks {h} e b =
      let t = k.runner in
      let r = stopped condition timeout (thread k t) in
      let l = ready_live (thread k t) R.ready in
      let id = live_id S t l in
      let was = ready_home_lem (thread k t) R.ready in
      let is = live_home r l ∙ e in
      record {
        left = relocate_leaves (threads_of k) t r S id (λ z. omega (arith, R.byte));
        joined = λ ne. line_joins S t id r is ne ∙ ap (behind (is_lower k t) t) (line_without S t h (λ z. omega (arith, R.byte)));
        lists = λ n a b. relocate_leaves (threads_of k) t r S id (λ z. b (z ∙ is)) ∙ line_without S t n (λ z. a (sym z ∙ was));
        forever = λ z. ap items (time_stays (threads_of k) t r (R.untimed ∙ sym z));
        timed = λ z. time_joins S t id r R.untimed z;
        itself = relocate_same (threads_of k) t r S.count id;
        others = λ u ne. relocate_other (threads_of k) t r ne;
        only = place_only t r k;
      }

-- kind 7: the caller sleeps, in no queue but the time queue
module _ (k : Kernel) (c : Call) where
  pub sleep_blocks : Standing (threads_of k) → Runnable (thread k k.runner) → Blocked Asleep c.c nowhere k.runner k (sleep k c)
  unfolding sleep
  sleep_blocks S R = block_blocks k S R Asleep c.c refl (omega arith)
