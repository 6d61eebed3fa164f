-- What an accepted call meets, as the laws ask it: everybody in place, a caller that can stop, free ids. From the rules, once for all
-- kinds.
use Prim.Native.Nat.{ℕ, ◌<◌}
use mathlib.Core.Path.{◌≡◌, sym, subst}
use mathlib.Core.Bool.{Bool, true, cond, false≢true, and-eq-true_iff}
use mathlib.Core.List.{List}
use native.Mathlib.Omega.{arith}
use lib.Dec.{eqb}
use lib.ListN.{get_or}
use borrow.Table.Steps.{cases}
use Rattle.spec_kernel.specs.declared.records.Condition.{Condition}
use Rattle.spec_kernel.specs.declared.records.Condition.TheVariants.{Ready, Asleep, ForSemaphore, ForEvent, ForMessage, ForFlag}
use Rattle.spec_kernel.specs.declared.records.Semaphore.{Semaphore}
use Rattle.spec_kernel.specs.declared.records.Kernel.{Kernel}
use Rattle.spec_kernel.specs.Records.{thread}
use Rattle.spec_kernel.specs.Free.{free_thread, free_semaphore, free_message, free_flag}
use Rattle.spec_kernel.specs.Channels.{next_message}
use Rattle.spec_kernel.specs.Conditions.{is_ready, ready_for}
use Rattle.spec_calls.specs.declared.call.Call.{Call}
use Rattle.spec_calls.specs.declared.kinds.Which.TheVariants.{New, Taken}
use Rattle.spec_calls.specs.Kinds.{no_kind, kinds, kind_of, from_thread, is_which}
use Rattle.spec_refusals.specs.Named.{value_of}
use Rattle.spec_threads.proofs.LawsOfHomes.{Stopped, Runnable}
use Rattle.spec_laws.specs.Laws.{laws_of_kinds, no_law, law_of}
use Rattle.proof_rules.proofs.Core.{Fits, Core, condition_of}
use Rattle.proof_rules.proofs.Ends.{Before, sized}
use Rattle.proof_rules.proofs.Accepted.{Accepted}
use Rattle.proof_rules.proofs.Steps.{caller_ready}

-- who is ready has no ticks left
ready_untimed : (S : List Semaphore) (waited : ℕ → Bool) (flags n : ℕ) (c : Condition) → ready_for c ≡ true → Fits S waited flags n c → n ≡ 0
ready_untimed S waited flags n Ready e f = f
ready_untimed S waited flags n Asleep e f = absurd (false≢true e)
ready_untimed S waited flags n (ForSemaphore i) e f = absurd (false≢true e)
ready_untimed S waited flags n (ForEvent i) e f = absurd (false≢true e)
ready_untimed S waited flags n (ForMessage mask) e f = absurd (false≢true e)
ready_untimed S waited flags n (ForFlag i) e f = absurd (false≢true e)

module _ {waited : ℕ → Bool} {k : Kernel} (C : Core waited k) where
  pub bytes : (t : ℕ) → (thread k t).priority < 256
  bytes = (sized C).priorities

  untimed : (t : ℕ) → is_ready (thread k t) ≡ true → (thread k t).ticks ≡ 0
  untimed t e =
      ready_untimed k.semaphores waited k.flags (thread k t).ticks (thread k t).condition
      ((and-eq-true_iff (thread k t).live (ready_for (thread k t).condition)).0 e).1 (condition_of C t)

  -- who has ticks left is live, and sleeps or waits
  pub timed_stopped : (t : ℕ) → 0 < (thread k t).ticks → Stopped (thread k t)
  timed_stopped t b = record {
    live = cases (thread k t).live (λ l. l) (λ l. absurd (omega (arith, rw ((C.threads t).gone l) at b)));
    stopped = cases (is_ready (thread k t)) (λ e. absurd (omega (arith, untimed t e))) (λ e. e);
    byte = bytes t;
  }

module _ {k : Kernel} (B : Before k) {c : Call} (A : Accepted k c) where
  -- the caller of a thread's kind is ready
  pub runnable : from_thread c ≡ true → Runnable (thread k k.runner)
  runnable f =
      let e = caller_ready B A f in record { ready = e; untimed = untimed B.core k.runner e; byte = bytes B.core k.runner }

-- ---- the law and the value of kind n
abbrev pub value_at : ℕ → Kernel → Call → ℕ
value_at n k c =
    cond (is_which (get_or kinds n no_kind).thread New) (free_thread k)
    (cond (is_which (get_or kinds n no_kind).semaphore New) (free_semaphore k)
    (cond (is_which (get_or kinds n no_kind).message New) (free_message k)
    (cond (is_which (get_or kinds n no_kind).message Taken) (next_message k c.b)
    (cond (is_which (get_or kinds n no_kind).flag New) (free_flag k) 255))))

pub by_kind : (k : Kernel) (c : Call) {n : ℕ} → c.kind ≡ n → (k' : Kernel) → get_or laws_of_kinds n no_law k c (value_at n k c) k'
    → law_of k c (value_of k c) k'
unfolding law_of value_of kind_of
by_kind k c e k' h = subst (λ n. get_or laws_of_kinds n no_law k c (value_at n k c) k') (sym e) h
