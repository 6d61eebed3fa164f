-- The kinds 18 to 23 and 28 to 30: semaphores and events.
use Prim.Native.Nat.{ℕ, ◌<◌}
use mathlib.Core.Path.{◌≡◌, refl, sym, ap}
use mathlib.Core.Bool.{true, false, not, and-false}
use mathlib.Core.List.{List, [], ◌∷◌}
use mathlib.Core.Logic.{inl, inr}
use native.Mathlib.Omega.{arith}
use lib.Dec.{eqb, ltb}
use borrow.Table.Steps.{cases}
use Rattle.base_queue.specs.declared.Queue.{Queue}
use Rattle.base_queue.specs.Lists.{keep}
use Rattle.base_queue.specs.Queues.{items}
use Rattle.base_queue.proofs.Counts.{count_head}
use Rattle.base_bits.specs.Words.{bit_at, with_bit, without_bit}
use Rattle.base_bits.proofs.Digits.{below}
use Rattle.base_bits.proofs.Laws.{with_high, without_clear, bit_same, bit_gone, undo_with, undo_without}
use Rattle.spec_kernel.specs.declared.records.Condition.TheVariants.{ForSemaphore, ForEvent}
use Rattle.spec_kernel.specs.declared.records.Semaphore.{Semaphore}
use Rattle.spec_kernel.specs.declared.records.Event.{Event}
use Rattle.spec_kernel.specs.declared.records.Kernel.{Kernel}
use Rattle.spec_kernel.specs.Sizes.{semaphore_count, event_count}
use Rattle.spec_kernel.specs.Records.{semaphore, event}
use Rattle.spec_kernel.specs.Conditions.{of_semaphores}
use Rattle.spec_kernel.specs.Places.{home, semaphore_queue}
use Rattle.spec_kernel.specs.Truth.{is_true}
use Rattle.spec_moves.specs.Standing.{threads_of}
use Rattle.spec_calls.specs.declared.call.Call.{Call}
use Rattle.spec_calls.specs.Kinds.{kind_of, from_thread}
use Rattle.spec_moves.specs.States.{with_semaphore, with_events}
use Rattle.spec_threads.specs.Threads.{wake}
use Rattle.spec_semaphores.specs.Semaphores.{post_to, post, pend_semaphore, post_semaphore}
use Rattle.spec_events.specs.Events.{worked_out, load_event, pend_event, set_bit, clear_bit}
use Rattle.proof_rules.proofs.Core.{live_semaphore}
use Rattle.proof_rules.proofs.Ends.{sized, Before}
use Rattle.proof_rules.proofs.Accepted.{Accepted, semaphore_named}
use Rattle.spec_notes.specs.Touched.{touched_message}
use Rattle.spec_notes.proofs.Stays.{PostsStay, AtMost, Left, TellsNothing, flags_stay, quiet, block_left}
use Rattle.spec_notes.proofs.StaysAtWakings.{Wakes, none_wakes, then_wakes, wakes_stay, one_wakes, outs_wake}

-- ---- from k to u threads wake, and but for semaphores nothing else happens
pub record Woke (k u : Kernel) : Type 0 where
  pub threads : Wakes (threads_of k) (threads_of u)
  pub posted : k.posted ≡ u.posted
  pub bits : k.bits ≡ u.bits
  pub flags : k.flags ≡ u.flags
  pub uptime : k.uptime ≡ u.uptime

-- the channels are as they were
pub posted_stay : (k : Kernel) (c : Call) (u : Kernel) → k.posted ≡ u.posted → PostsStay k c u
posted_stay k c u e = ap (λ (q : Queue). keep (λ m. not (touched_message k c u m)) (items q)) (sym e)

-- a semaphore gets a record
pub semaphore_woke : {k u : Kernel} → Woke k u → (i : ℕ) (s : Semaphore) → Woke k (with_semaphore i s u)
semaphore_woke W i s = record { threads = W.threads; posted = W.posted; bits = W.bits; flags = W.flags; uptime = W.uptime }

-- a semaphore is posted: its first waiter wakes, or it gets a record
pub post_woke : {k u : Kernel} → Woke k u → (i : ℕ) → i < semaphore_count → Woke k (post i u)
unfolding post wake
post_woke {k} {u} W i b = go (semaphore_queue u i) refl
  where
    go : (q : List ℕ) → semaphore_queue u i ≡ q → Woke k (post_to q i u)
    go [] e = semaphore_woke W i _
    go (t ∷ q) e = record {
      threads =
          then_wakes W.threads
          (one_wakes W.threads.standing W.threads.small (home of_semaphores i) (omega arith) (omega arith) t
          (rw e (count_head t q)));
      posted = W.posted;
      bits = W.bits;
      flags = W.flags;
      uptime = W.uptime;
    }

-- ---- a bit is set, or cleared: at most that bit differs
module _ (word a : ℕ) where
  set_differs : AtMost a word (with_bit word a)
  unfolding with_bit
  set_differs =
      cases (bit_at word a) (λ e. inl (rw (e, and-false)))
      (λ e. below a (λ b. inr (rw (bit_same word a b) (sym (undo_with word a e)))) (λ b. inl (sym (with_high word a b))))

  clear_differs : AtMost a word (without_bit word a)
  clear_differs =
      cases (bit_at word a) (λ e. inr (rw (bit_gone word a) (sym (undo_without word a e))))
      (λ e. inl (sym (without_clear word a e)))

-- ---- the kinds
module _ {k : Kernel} (B : Before k) {c : Call} (A : Accepted k c) where
  none_woke : Woke k k
  none_woke = record {
    threads = none_wakes B.core.standing (sized B.core).priorities;
    posted = refl;
    bits = refl;
    flags = refl;
    uptime = refl;
  }

  post_left : {n : ℕ} → TellsNothing n → (semaphore k c.a).live ≡ true → c.kind ≡ n → Left k c (post_semaphore k c)
  unfolding post_semaphore
  post_left o l e =
      let W = post_woke none_woke c.a (live_semaphore B.core c.a l) in
      quiet o (W.bits, W.uptime, W.flags) (wakes_stay B.core c (post c.a k) W.threads)
      (posted_stay k c (post c.a k) W.posted) e

  pub kind_19 : c.kind ≡ 19 → Left k c (post_semaphore k c)
  kind_19 e = post_left (refl, refl) (semaphore_named A e refl) e

  pub kind_28 : c.kind ≡ 28 → Left k c (post_semaphore k c)
  kind_28 e = post_left (refl, refl) (semaphore_named A e refl) e

  pub kind_18 : c.kind ≡ 18 → Left k c (pend_semaphore k c)
  unfolding pend_semaphore from_thread kind_of
  kind_18 e =
      cases (ltb 0 (semaphore k c.a).count) (λ h. rw h (quiet (refl, refl) (refl, refl, refl) (refl, refl) refl e))
      (λ h. rw h (block_left B A (refl, refl) (rw e) (ForSemaphore c.a) c.c refl e))

  pub kind_21 : c.kind ≡ 21 → Left k c (pend_event k c)
  unfolding pend_event from_thread kind_of
  kind_21 e =
      cases (is_true k.bits (event k c.a)) (λ h. rw h (quiet (refl, refl) (refl, refl, refl) (refl, refl) refl e))
      (λ h. rw h (block_left B A (refl, refl) (rw e) (ForEvent c.a) c.c refl e))

  -- other events and bits are worked out
  worked_left : {n : ℕ} → TellsNothing n → c.kind ≡ n → (l : List Event) (bits : ℕ) → AtMost c.a k.bits bits
      → Left k c (worked_out (with_events l bits k))
  unfolding worked_out
  worked_left o e l bits d = record {
    threads =
        wakes_stay B.core c (worked_out (with_events l bits k))
        (outs_wake l bits 0 event_count (omega arith) B.core.standing (sized B.core).priorities);
    posts = refl;
    bits = d;
    flags = flags_stay c e o.1 refl;
    uptime = rw (e, o.0);
  }

  pub kind_20 : c.kind ≡ 20 → Left k c (load_event k c)
  unfolding load_event
  kind_20 e = worked_left (refl, refl) e _ k.bits (inl refl)

  -- kinds 22 and 29, 23 and 30
  pub set_left : {n : ℕ} → TellsNothing n → c.kind ≡ n → Left k c (set_bit k c)
  unfolding set_bit
  set_left o e = worked_left o e k.events (with_bit k.bits c.a) (set_differs k.bits c.a)

  pub clear_left : {n : ℕ} → TellsNothing n → c.kind ≡ n → Left k c (clear_bit k c)
  unfolding clear_bit
  clear_left o e = worked_left o e k.events (without_bit k.bits c.a) (clear_differs k.bits c.a)
