-- What a tick does to ticks: a thread has fewer, or none; a periodic semaphore has one less, or its period where it had one left.
use Prim.Native.Nat.{ℕ, zero, suc, ◌+◌, ◌-◌, ◌≤◌, ◌<◌}
use mathlib.Core.Path.{◌≡◌, refl, ap, ◌∙◌}
use mathlib.Core.Bool.{false}
use mathlib.Core.List.{List, [], ◌∷◌}
use native.Mathlib.Omega.{arith}
use lib.Dec.{eqb, ltb}
use lib.ListN.{length, get_or, set, get_or-eq_default}
use lib.Seq.{get_or-set_same, get_or-set_other, set_out}
use borrow.Author.Tests.{eqb-true, eqb-false, ne_eqb, ltb-true, ltb-false}
use borrow.Table.Steps.{cases}
use Rattle.spec_kernel.specs.declared.records.Thread.{Thread}
use Rattle.spec_kernel.specs.declared.records.Semaphore.{Semaphore}
use Rattle.spec_kernel.specs.declared.records.Kernel.{Kernel}
use Rattle.spec_kernel.specs.Sizes.{thread_count, semaphore_count}
use Rattle.spec_kernel.specs.Records.{thread, semaphore, no_thread, no_semaphore}
use Rattle.spec_kernel.specs.Places.{semaphore_queue}
use Rattle.spec_moves.specs.Moves.{relocate}
use Rattle.spec_moves.specs.Standing.{threads_of, Standing}
use Rattle.spec_calls.specs.declared.call.Call.{Call}
use Rattle.spec_threads.specs.Threads.{wake}
use Rattle.spec_semaphores.specs.Semaphores.{post_to, post}
use Rattle.spec_time.specs.Time.{pulse, pulse_from, tick}
use Rattle.proof_rules.proofs.Wakings.{passes_record}

-- ---- threads
-- at most b ticks
module _ (t b : ℕ) where
  few_set : (l : List Thread) (x : ℕ) (r : Thread) → r.ticks ≤ b → (get_or l t no_thread).ticks ≤ b → (get_or (set l x r) t no_thread).ticks ≤ b
  few_set l x r a h =
      cases (ltb x (length l))
      (λ g. cases (eqb t x) (λ e. rw (eqb-true t x e, get_or-set_same l x r no_thread (ltb-true x (length l) g)) a)
      (λ e. rw (get_or-set_other l x t r no_thread (eqb-false t x e)) h))
      (λ g. rw (set_out l x r (ltb-false x (length l) g)) h)

  abbrev Few : Kernel → Type 0
  Few u = (thread u t).ticks ≤ b

  few_post : (i : ℕ) (u : Kernel) → Few u → Few (post i u)
  unfolding post wake relocate
  few_post i u h = go (semaphore_queue u i)
    where
      go : (q : List ℕ) → Few (post_to q i u)
      go [] = h
      go (x ∷ q) = cases (ltb x thread_count) (λ e. rw e (few_set u.threads x _ (omega arith) h)) (λ e. rw e h)

  few_pulse : (i : ℕ) (u : Kernel) → Few u → Few (pulse i u)
  unfolding pulse
  few_pulse i u h =
      cases (eqb (semaphore u i).period 0) (λ e. rw e h)
      (λ e. cases (eqb (semaphore u i).ticks 1) (λ f. rw (e, f) (few_post i u h)) (λ f. rw (e, f) h))

  few_pulses : (i n : ℕ) (u : Kernel) → Few u → Few (pulse_from i n u)
  unfolding pulse_from
  few_pulses i zero u h = h
  few_pulses i (suc n) u h = few_pulses (suc i) n (pulse i u) (few_pulse i u h)

pub tick_threads : (k : Kernel) (c : Call) → Standing (threads_of k) → (t : ℕ) → (thread (tick k c) t).ticks ≤ (thread k t).ticks - 1
unfolding tick
tick_threads k c S t =
    few_pulses t ((thread k t).ticks - 1) 0 semaphore_count _
    (rw (passes_record S t) (cases (eqb (thread k t).ticks 1) (λ e. rw e (omega arith)) (λ e. rw e (omega arith))))

-- ---- semaphores
module _ (i : ℕ) where
  pub post_other : (j : ℕ) (u : Kernel) → (i ≡ j → ⊥) → semaphore (post j u) i ≡ semaphore u i
  unfolding post wake
  post_other j u ne = go (semaphore_queue u j)
    where
      go : (q : List ℕ) → semaphore (post_to q j u) i ≡ semaphore u i
      go [] = get_or-set_other u.semaphores j i _ no_semaphore ne
      go (x ∷ q) = refl

  pulse_other : (j : ℕ) (u : Kernel) → (i ≡ j → ⊥) → semaphore (pulse j u) i ≡ semaphore u i
  unfolding pulse
  pulse_other j u ne =
      cases (eqb (semaphore u j).period 0) (λ e. rw e)
      (λ e. cases (eqb (semaphore u j).ticks 1)
      (λ f. rw (e, f) (get_or-set_other (post j u).semaphores j i _ no_semaphore ne ∙ post_other j u ne))
      (λ f. rw (e, f) (get_or-set_other u.semaphores j i _ no_semaphore ne)))

  pulses_other : (j n : ℕ) (u : Kernel) → i < j → semaphore (pulse_from j n u) i ≡ semaphore u i
  unfolding pulse_from
  pulses_other j zero u b = refl
  pulses_other j (suc n) u b = pulses_other (suc j) n (pulse j u) (omega arith) ∙ pulse_other j u (λ z. omega arith)

-- a periodic one whose ticks are as they were had one left, and gets one
abbrev pub Aged : Semaphore → Semaphore → Type 0
Aged s r = (s.period ≡ 0 → ⊥) → 0 < s.ticks → r.ticks ≡ s.ticks → (s.ticks ≡ 1) × (s.period ≡ 1)

pulse_own : (i : ℕ) (u : Kernel) → Aged (semaphore u i) (semaphore (pulse i u) i)
unfolding pulse
pulse_own i u p b h =
    let e : eqb (semaphore u i).period 0 ≡ false = ne_eqb (semaphore u i).period 0 p in
    let v = (post i u).semaphores in
    cases (eqb (semaphore u i).ticks 1)
    (λ f. let o = eqb-true (semaphore u i).ticks 1 f in
    cases (ltb i (length v))
    (λ g. let z : (semaphore u i).period ≡ (semaphore u i).ticks =
    rw (e, f, get_or-set_same v i _ no_semaphore (ltb-true i (length v) g)) at h in
    (o, z ∙ o))
    (λ g. let l = ltb-false i (length v) g in
    let z = rw (e, f, set_out v i _ l, get_or-eq_default v no_semaphore l) at h in absurd (omega arith)))
    (λ f. cases (ltb i (length u.semaphores))
    (λ g. let l = ltb-true i (length u.semaphores) g in
    let z = rw (e, f, get_or-set_same u.semaphores i _ no_semaphore l) at h in absurd (omega arith))
    (λ g. absurd (p (ap (λ (s : Semaphore). s.period) (get_or-eq_default u.semaphores no_semaphore (ltb-false i (length
    u.semaphores) g))))))

pulses_own : (i j n : ℕ) (u : Kernel) → j ≤ i → i < j + n → Aged (semaphore u i) (semaphore (pulse_from j n u) i)
unfolding pulse_from
pulses_own i j zero u a b = absurd (omega arith)
pulses_own i j (suc n) u a b =
    cases (eqb i j)
    (λ e. let z = eqb-true i j e in rw (pulses_other i (suc j) n (pulse j u) (omega arith), ← z) (pulse_own i u))
    (λ e. let ne = eqb-false i j e in
    rw (pulse_other i j u ne) at (pulses_own i (suc j) n (pulse j u) (omega arith) (omega arith)))

pub tick_semaphores : (k : Kernel) (c : Call) (i : ℕ) → i < semaphore_count → Aged (semaphore k i) (semaphore (tick k c) i)
unfolding tick
tick_semaphores k c i b = pulses_own i 0 semaphore_count _ (omega arith) (omega arith)
