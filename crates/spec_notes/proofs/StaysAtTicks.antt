-- The tick: those that are due wake, time passes, and periodic semaphores are posted.
use Prim.Native.Nat.{ℕ, zero, suc, ◌+◌, ◌≤◌, ◌<◌}
use mathlib.Core.Path.{◌≡◌, refl, ap, ◌∙◌}
use mathlib.Core.Bool.{Bool, true, false}
use mathlib.Core.Logic.{inl}
use native.Mathlib.Omega.{arith}
use lib.Dec.{eqb}
use borrow.Author.Tests.{eqb-true, ne_eqb}
use borrow.Table.Steps.{cases}
use Rattle.base_queue.specs.Queues.{items}
use Rattle.base_queue.proofs.Counts.{kept}
use Rattle.spec_kernel.specs.declared.records.Condition.{Condition}
use Rattle.spec_kernel.specs.declared.records.Condition.TheVariants.{Ready, Asleep, ForSemaphore, ForEvent, ForMessage, ForFlag}
use Rattle.spec_kernel.specs.declared.records.Kernel.{Kernel}
use Rattle.spec_moves.specs.declared.parts.Threads.{Threads}
use Rattle.spec_kernel.specs.Sizes.{semaphore_count}
use Rattle.spec_kernel.specs.Records.{thread, semaphore}
use Rattle.spec_kernel.specs.Conditions.{ready_for}
use Rattle.spec_moves.specs.Standing.{threads_of, Standing}
use Rattle.spec_calls.specs.declared.call.Call.{Call}
use Rattle.spec_moves.specs.States.{with_threads, with_uptime, each}
use Rattle.spec_time.specs.Time.{later, time_up, due, age_all, time_passes, pulse, pulse_from, tick}
use Rattle.proof_rules.proofs.Core.{Fits, Core, condition_of}
use Rattle.proof_rules.proofs.Ends.{sized, Before}
use Rattle.proof_rules.proofs.Accepted.{Accepted}
use Rattle.proof_rules.proofs.Wakings.{as_due, due_standing, due_woken, aged_record, passes_standing}
use Rattle.spec_notes.specs.Back.{earlier}
use Rattle.spec_notes.proofs.Stays.{Left, up, flags_stay}
use Rattle.spec_notes.proofs.StaysAtWakings.{Wakes, none_wakes, then_wakes, wakes_stay, called_wakes, each_keeps}
use Rattle.spec_notes.proofs.StaysAtObjects.{Woke, posted_stay, semaphore_woke, post_woke}

-- ---- threads
-- all age where they stand
aged_wakes : {p q : Threads} → Wakes p q → Standing (age_all q) → Wakes p (age_all q)
unfolding age_all
aged_wakes {p} {q} W S = record {
  standing = S;
  small = λ t. rw (aged_record q t) (W.small t);
  still = λ t e. rw (aged_record q t) (W.still t e);
  frame = λ f h. W.frame f (λ t d e. h t d (rw (aged_record q t) e));
}

module _ {w : ℕ → Bool} {k : Kernel} (C : Core w k) where
  -- who is due is not up
  due_down : (t : ℕ) → eqb (thread k t).ticks 1 ≡ true → up (thread k t) ≡ false
  due_down t e = go (thread k t).condition (condition_of C t)
    where
      go : (c : Condition) → Fits k.semaphores w k.flags (thread k t).ticks c → ready_for c ≡ false
      go Ready h = absurd (omega (arith, eqb-true (thread k t).ticks 1 e))
      go Asleep h = refl
      go (ForSemaphore i) h = refl
      go (ForEvent i) h = refl
      go (ForMessage mask) h = refl
      go (ForFlag i) h = refl

  passes_wake : Wakes (threads_of k) (time_passes (threads_of k))
  unfolding time_passes time_up due
  passes_wake =
      let S = C.standing in
      let called : ℕ → Bool = λ t. eqb (thread k t).ticks 1 in
      let W : Wakes (threads_of k) (each time_up (due (threads_of k)) (threads_of k)) =
      called_wakes as_due (sized C).priorities (due_standing S) called due_down (due_woken S)
      (λ f h. each_keeps as_due f (due (threads_of k)) (threads_of k) (λ t m. h t (kept called (items k.time) m).0)) in
      aged_wakes W (passes_standing S)

-- ---- semaphores
pulse_woke : {k u : Kernel} → Woke k u → (i : ℕ) → i < semaphore_count → Woke k (pulse i u)
unfolding pulse
pulse_woke {k} {u} W i b =
    cases (eqb (semaphore u i).period 0) (λ e. rw e W)
    (λ e. cases (eqb (semaphore u i).ticks 1) (λ h. rw (e, h) (semaphore_woke (post_woke W i b) i _))
    (λ h. rw (e, h) (semaphore_woke W i _)))

pulses_woke : {k u : Kernel} → Woke k u → (i n : ℕ) → i + n ≤ semaphore_count → Woke k (pulse_from i n u)
unfolding pulse_from
pulses_woke W i zero b = W
pulses_woke {k = k} {u = u} W i (suc n) b = pulses_woke {u = pulse i u} (pulse_woke W i (omega arith)) (suc i) n (omega arith)

-- ---- uptime
earlier_later : (c : Call) → c.kind ≡ 1 → (n : ℕ) → n ≡ earlier c (later n)
earlier_later c e n =
    rw e
    (cases (eqb n 4294967295) (λ h. rw h (eqb-true n 4294967295 h)) (λ h. rw (h, ne_eqb (n + 1) 0 (λ z. omega arith)) (omega arith)))

pub kind_1 : {k : Kernel} → Before k → {c : Call} → Accepted k c → c.kind ≡ 1 → Left k c (tick k c)
unfolding tick
kind_1 {k} B {c} A e =
    let v : Kernel = with_threads (time_passes (threads_of k)) (with_uptime (later k.uptime) k) in
    let P = passes_wake B.core in
    let W : Woke v (pulse_from 0 semaphore_count v) =
    pulses_woke (record { threads = none_wakes P.standing P.small; posted = refl; bits = refl; flags = refl; uptime = refl })
    0 semaphore_count (omega arith) in
    record {
      threads = wakes_stay B.core c (pulse_from 0 semaphore_count v) (then_wakes P W.threads);
      posts = posted_stay k c (pulse_from 0 semaphore_count v) W.posted;
      bits = inl W.bits;
      flags = flags_stay c e refl W.flags;
      uptime = earlier_later c e k.uptime ∙ ap (earlier c) W.uptime;
    }
