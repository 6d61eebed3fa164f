-- A tick: timed threads lose a tick or wake, periodic semaphores lose one or are posted.
use Prim.Native.Nat.{ℕ, zero, suc, ◌-◌, ◌<◌}
use mathlib.Core.Path.{◌≡◌, refl, sym, ap, ◌∙◌}
use mathlib.Core.Bool.{Bool, true, cond, false≢true}
use mathlib.Core.List.{List, [], ◌∷◌}
use native.Mathlib.Omega.{arith}
use lib.Dec.{eqb}
use borrow.Author.Tests.{eqb-true, eqb-false}
use borrow.Table.Steps.{cases}
use Rattle.spec_kernel.specs.declared.records.Condition.{Condition}
use Rattle.spec_kernel.specs.declared.records.Condition.TheVariants.{Ready, Asleep, ForSemaphore, ForEvent, ForMessage, ForFlag}
use Rattle.spec_kernel.specs.declared.records.Thread.{Thread}
use Rattle.spec_kernel.specs.declared.records.Semaphore.{Semaphore}
use Rattle.spec_kernel.specs.declared.records.Kernel.{Kernel}
use Rattle.spec_kernel.specs.Sizes.{semaphore_count}
use Rattle.spec_kernel.specs.Records.{thread, semaphore}
use Rattle.spec_kernel.specs.Places.{semaphore_queue}
use Rattle.spec_moves.specs.Moves.{thread_in}
use Rattle.spec_moves.specs.Standing.{threads_of}
use Rattle.spec_calls.specs.declared.call.Call.{Call}
use Rattle.spec_moves.specs.States.{with_semaphore}
use Rattle.spec_threads.specs.Threads.{wake}
use Rattle.spec_semaphores.specs.Semaphores.{raised, with_ticks, post_to, post}
use Rattle.spec_time.specs.Time.{later, reason_at, aged, time_passes, pulse, pulse_from, tick}
use Rattle.spec_time.proofs.LawsOfTime.{passed, turn_of}
use Rattle.proof_rules.proofs.Core.{Fits, FineThread, Core, untrue, each_semaphore, semaphore_core, scheduler_core}
use Rattle.proof_rules.proofs.Ends.{Runs, Good, Before}
use Rattle.proof_rules.proofs.Accepted.{Accepted}
use Rattle.proof_rules.proofs.Semaphores.{waited_for, post_kept}
use Rattle.proof_rules.proofs.Wakings.{woken, as_due, passes_standing, passes_record}
use Rattle.proof_rules.proofs.AllThreads.{Becomes, stays, becomes_awake, threads_core}

-- ---- threads
module _ (S : List Semaphore) (waited : ℕ → Bool) (flags : ℕ) where
  -- who isn't due waits on
  aged_fits : (n : ℕ) (c : Condition) → (n ≡ 1 → ⊥) → Fits S waited flags n c → Fits S waited flags (n - 1) c
  aged_fits n Ready h f = omega arith
  aged_fits n Asleep h f = omega (arith, h)
  aged_fits n (ForSemaphore i) h f = f
  aged_fits n (ForEvent i) h f = f
  aged_fits n (ForMessage mask) h f = f
  aged_fits n (ForFlag i) h f = f

  -- who is due is live
  due_live : (r : Thread) → FineThread S waited flags r → r.ticks ≡ 1 → r.live ≡ true
  due_live r F e = cases r.live (λ l. l) (λ l. let z : ◌≡◌ {A = ℕ} 0 1 = rw (F.gone l) at e in absurd (omega arith))

  passes_becomes : (r : Thread) → FineThread S waited flags r → Becomes S waited flags r (aged (cond (eqb r.ticks 1) (woken as_due r) r))
  passes_becomes r F =
      cases (eqb r.ticks 1) (λ e. rw e (becomes_awake (stays F) (due_live r F (eqb-true r.ticks 1 e)) (reason_at r.condition)))
      (λ e. rw e
      (record {
        fine = record {
          living = λ l. let L = F.living l in record {
            priority = L.priority;
            reply = L.reply;
            condition = aged_fits r.ticks r.condition (eqb-false r.ticks 1 e) L.condition;
          };
          gone = λ l. ap aged (F.gone l);
        };
        live = λ l. l;
        ready = λ h. h;
        calm = λ _ h. h;
      }))

-- ---- semaphores
module _ {waited : ℕ → Bool} {k : Kernel} (C : Core waited k) (i : ℕ) where
  -- a semaphore that is posted stays live
  post_live : (semaphore k i).live ≡ true → (semaphore (post i k) i).live ≡ true
  unfolding post wake
  post_live l = go (semaphore_queue k i)
    where
      go : (q : List ℕ) → (semaphore (post_to q i k) i).live ≡ true
      go [] = each_semaphore C i (raised (semaphore k i)) (λ s. s.live ≡ true) i (λ _. l) l
      go (t ∷ q) = l

  -- new ticks and period, of a live one
  ticks_core : (ticks period : ℕ) → (semaphore k i).live ≡ true → (period ≡ 0 → ⊥) → 0 < ticks
      → Core waited (with_semaphore i (with_ticks ticks period (semaphore k i)) k)
  ticks_core ticks period l p b =
      let L = (C.semaphores i).living l in
      semaphore_core C i (with_ticks ticks period (semaphore k i))
      (record {
        living = λ _. record { maximum = L.maximum; count = L.count; ticks = (λ z. absurd (p z), λ _. b) };
        gone = λ e. absurd (false≢true (sym e ∙ l));
      })
      (waited_for C i)

-- the rules, the runner and the events
abbrev Keeps : (ℕ → Bool) → Kernel → Kernel → Type 0
Keeps waited k n = Core waited n × (Runs k → Runs n) × (untrue n ≡ untrue k)

pulse_keeps : {waited : ℕ → Bool} {k : Kernel} → Core waited k → (i : ℕ) → Keeps waited k (pulse i k)
unfolding pulse
pulse_keeps {waited} {k} C i =
    let s = semaphore k i in
    cases (eqb s.period 0) (λ e. rw e (C, λ R. R, refl))
    (λ e. let p = eqb-false s.period 0 e in
    let l = cases s.live (λ l. l) (λ l. absurd (p (rw ((C.semaphores i).gone l)))) in
    let t = ((C.semaphores i).living l).ticks.1 (omega (arith, p)) in
    cases (eqb s.ticks 1)
    (λ h. let (D, R, U) = post_kept C i l in
    rw (e, h) (ticks_core D i s.period s.period (post_live C i l) p (omega (arith, p)), R, U))
    (λ h. let o = eqb-false s.ticks 1 h in
    rw (e, h) (ticks_core C i (s.ticks - 1) s.period l p (omega (arith, o)), λ R. R, refl)))

pulses_keep : {waited : ℕ → Bool} {k : Kernel} → Core waited k → (i n : ℕ) → Keeps waited k (pulse_from i n k)
unfolding pulse_from
pulses_keep C i zero = (C, λ R. R, refl)
pulses_keep {waited = waited} {k = k} C i (suc n) =
    let (D, R, U) = pulse_keeps C i in
    let (D', R', U') = pulses_keep {k = pulse i k} D (suc i) n in
    (D', λ r. R' (R r), U' ∙ U)

-- what the time makes of each thread
becomes : {k : Kernel} → Before k → (t : ℕ)
    → Becomes k.semaphores (untrue k) k.flags (thread k t) (thread_in (time_passes (threads_of k)) t)
becomes {k} B t = rw (passes_record B.core.standing t)
    (passes_becomes k.semaphores (untrue k) k.flags (thread k t) (B.core.threads t))

-- the time has passed for the threads, and then i semaphores have had their turn
turns_keep : {k : Kernel} → Before k → (i : ℕ) → Keeps (untrue k) (passed k) (turn_of k i)
turns_keep {k} B i =
    let C = scheduler_core B.core (later k.uptime) k.unscheduled k.critical k.runner in
    pulses_keep (threads_core C (passes_standing B.core.standing) (becomes B)) 0 i

pub turn_core : {k : Kernel} → Before k → (i : ℕ) → Core (untrue k) (turn_of k i)
turn_core B i = (turns_keep B i).0

pub kind_1 : {k : Kernel} → Before k → {c : Call} → Accepted k c → c.kind ≡ 1 → Good (tick k c)
unfolding tick
kind_1 {k} B A _ =
    let (D, R, U) = turns_keep B semaphore_count in
    record { core = rw U D; runs = R (λ b. (becomes B k.runner).ready (B.runs b)) }
