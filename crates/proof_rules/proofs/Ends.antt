-- The two ends of a call: from the rules to the core, and back to the rules once the scheduler has chosen.
use Prim.Native.Nat.{ℕ, ◌+◌, ◌≤◌, ◌<◌}
use mathlib.Core.Path.{◌≡◌, refl, sym, ap, ◌∙◌}
use mathlib.Core.Bool.{Bool, true, false, cond, ◌&&◌}
use mathlib.Core.List.{List}
use native.Mathlib.Omega.{arith}
use lib.Dec.{eqb, ltb}
use lib.ListN.{length, get_or, length-append, length-replicate}
use borrow.Author.Tests.{eqb-true, eqb-false, ne_eqb, ltb-true, not-true}
use borrow.Table.Steps.{cases}
use Rattle.base_queue.specs.declared.Queue.{Queue}
use Rattle.base_queue.specs.Lists.{first_of}
use Rattle.base_queue.specs.Queues.{capacity, items, Tidy}
use Rattle.base_queue.specs.Tables.{Placed}
use Rattle.base_queue.proofs.Tables.{placed_short}
use Rattle.spec_kernel.specs.declared.records.Condition.{Condition}
use Rattle.spec_kernel.specs.declared.records.Condition.TheVariants.{Ready, Asleep, ForSemaphore, ForEvent, ForMessage, ForFlag}
use Rattle.spec_kernel.specs.declared.records.Thread.{Thread}
use Rattle.spec_kernel.specs.declared.records.Kernel.{Kernel}
use Rattle.spec_kernel.specs.Sizes.{thread_count, message_count}
use Rattle.spec_kernel.specs.Records.{thread, no_thread, no_message}
use Rattle.spec_kernel.specs.Conditions.{is_ready, ready_for}
use Rattle.spec_kernel.specs.Places.{home_of, home_for, has_home, is_queued, nowhere}
use Rattle.spec_kernel.specs.Runner.{chosen}
use Rattle.spec_moves.proofs.Joins.{past_end}
use Rattle.spec_rules.specs.Rules.{Sized, Rules}
use Rattle.spec_rules.proofs.OfRecords.{live_or_not, ConditionKept, KeptThread}
use Rattle.spec_rules.proofs.ToRules.{rules_of}
use Rattle.spec_rules.proofs.FromRules.{whole_of}
use Rattle.spec_moves.specs.States.{scheduled}
use Rattle.proof_rules.proofs.Core.{Fits, FineThread, Core, untrue, scheduler_core}

-- ---- the records in both forms
fits_condition : (k : Kernel) (ticks : ℕ) (c : Condition) → Fits k.semaphores (untrue k) k.flags ticks c → ConditionKept k ticks c
fits_condition k ticks Ready h = h
fits_condition k ticks Asleep h = h
fits_condition k ticks (ForSemaphore i) h = h
fits_condition k ticks (ForEvent i) h = (h.0, not-true _ h.1)
fits_condition k ticks (ForMessage mask) h = h
fits_condition k ticks (ForFlag i) h = h

condition_fits : (k : Kernel) (ticks : ℕ) (c : Condition) → ConditionKept k ticks c → Fits k.semaphores (untrue k) k.flags ticks c
condition_fits k ticks Ready h = h
condition_fits k ticks Asleep h = h
condition_fits k ticks (ForSemaphore i) h = h
condition_fits k ticks (ForEvent i) h = (h.0, rw h.1)
condition_fits k ticks (ForMessage mask) h = h
condition_fits k ticks (ForFlag i) h = h

module _ (k : Kernel) where
  thread_kept_lem : (r : Thread) → FineThread k.semaphores (untrue k) k.flags r → KeptThread k r
  thread_kept_lem r F = record {
    living = λ e. let L = F.living e in
        record { priority = L.priority; reply = L.reply; condition = fits_condition k r.ticks r.condition L.condition };
    gone = F.gone;
  }

  thread_fine : (r : Thread) → KeptThread k r → FineThread k.semaphores (untrue k) k.flags r
  thread_fine r K = record {
    living = λ e. let L = K.living e in
        record { priority = L.priority; reply = L.reply; condition = condition_fits k r.ticks r.condition L.condition };
    gone = K.gone;
  }

-- ---- the sizes
tidy_full : (q : Queue) → Tidy q → length (items q) ≤ capacity → length q.at ≡ capacity
tidy_full q t h = ap (λ (p : Queue). length p.at) (sym t) ∙ simp (length-append, length-replicate) (omega arith)

table_full : {A : Type 0} (belongs : A → Bool) (d : A) → belongs d ≡ false → (l : List A) (n : ℕ) → length l ≡ n → n ≤ capacity
    → (q : Queue) → Tidy q → Placed (λ i. belongs (get_or l i d)) (items q) → length q.at ≡ capacity
table_full belongs d out l n e b q t P =
    let s = placed_short (λ i. belongs (get_or l i d)) (items q) n (λ i h. rw (past_end l d e h) out) P in
    tidy_full q t (omega arith)

pub sized : {waited : ℕ → Bool} {k : Kernel} → Core waited k → Sized k
unfolding home_of
sized {k} C =
    let S = C.standing in let F = C.filed in
    record {
      threads = S.count;
      semaphores = C.semaphores_sized;
      events = C.events_sized;
      messages = F.count;
      places = table_full has_home no_thread refl k.threads thread_count S.count (omega arith) k.places S.tidy_places S.placed;
      time =
          table_full (λ r. ltb 0 r.ticks) no_thread refl k.threads thread_count S.count (omega arith) k.time
          S.tidy_time S.timed;
      posted = table_full is_queued no_message refl k.messages message_count F.count (omega arith) k.posted F.tidy F.placed;
      priorities = λ t. live_or_not (λ r. r.priority < 256) (C.threads t) (λ L. omega (arith, L.priority)) (omega arith);
      channels = λ m. live_or_not (λ r. r.channel < 256) (C.messages m) (λ L. omega (arith, L.channel)) (omega arith);
    }

-- ---- who runs
-- In a region whoever runs is ready [01, state 8.2].
abbrev pub Runs : Kernel → Type 0
Runs k = 0 < k.unscheduled + k.critical → is_ready (thread k k.runner) ≡ true

-- all that the rules say but for the scheduler's choice
pub record Good (k : Kernel) : Type 0 where
  pub core : Core (untrue k) k
  pub runs : Runs k

-- the state that a call meets: whoever runs is ready
pub record Before (k : Kernel) : Type 0 where
  pub core : Core (untrue k) k
  pub runs : Runs k
  pub running : (k.runner ≡ 255 → ⊥) → is_ready (thread k k.runner) ≡ true

-- only a ready thread's home is a ready list
low_ready : (r : Thread) → ltb (home_of r) 256 ≡ true → is_ready r ≡ true
unfolding home_of
low_ready r e = go r.live r.condition (ltb-true _ 256 e)
  where
    go : (live : Bool) (c : Condition) → cond live (home_for c r.priority) nowhere < 256 → live && ready_for c ≡ true
    go false c h = absurd (omega arith)
    go true Ready h = refl
    go true Asleep h = absurd (omega arith)
    go true (ForSemaphore i) h = absurd (omega arith)
    go true (ForEvent i) h = absurd (omega arith)
    go true (ForMessage mask) h = absurd (omega arith)
    go true (ForFlag i) h = absurd (omega arith)

chosen_ready : (k : Kernel) → (chosen k ≡ 255 → ⊥) → is_ready (thread k (chosen k)) ≡ true
unfolding chosen
chosen_ready k ne = go (ltb (home_of (thread k (first_of (items k.places)))) 256) refl
  where
    first : ℕ
    first = first_of (items k.places)

    go : (b : Bool) → ltb (home_of (thread k first)) 256 ≡ b → is_ready (thread k (cond b first 255)) ≡ true
    go true e = low_ready (thread k first) e
    go false e = absurd (ne (rw e))

pub before : (k : Kernel) → Sized k → Rules k → Before k
before k Z R =
    let W = whole_of k Z R in
    record {
      core = record {
        standing = W.standing;
        filed = W.filed;
        semaphores_sized = Z.semaphores;
        events_sized = Z.events;
        threads = λ t. thread_fine k (thread k t) (W.threads t);
        semaphores = W.semaphores;
        messages = λ m. record {
          living = λ e. let L = (W.messages m).living e in
              record { owner = L.owner; sender = L.sender; channel = L.channel; unawaited = L.unawaited };
          gone = (W.messages m).gone;
        };
      };
      runs = W.runs.1;
      running = λ ne.
          cases (eqb (k.unscheduled + k.critical) 0)
          (λ e. let is = W.runs.0 (eqb-true _ 0 e) in rw is (chosen_ready k (λ z. ne (is ∙ z))))
          (λ e. let n = eqb-false (k.unscheduled + k.critical) 0 e in W.runs.1 (omega arith));
    }

-- with the right thread running, the rules hold
rules_from : (k : Kernel) → Core (untrue k) k → (k.unscheduled + k.critical ≡ 0 → k.runner ≡ chosen k) → Runs k → Sized k × Rules k
rules_from k C first some = (
  sized C,
  rules_of k (sized C)
      (record {
        threads = λ t. thread_kept_lem k (thread k t) (C.threads t);
        semaphores = C.semaphores;
        messages = λ m. record {
          living = λ e. let L = (C.messages m).living e in
              record { owner = L.owner; sender = L.sender; channel = L.channel; unawaited = L.unawaited };
          gone = (C.messages m).gone;
        };
        standing = C.standing;
        filed = C.filed;
        runs = (first, some);
      }),
)

pub scheduled_kept : (k : Kernel) → Good k → Sized (scheduled k) × Rules (scheduled k)
unfolding scheduled chosen
scheduled_kept k G =
    rules_from (scheduled k) (scheduler_core G.core k.uptime k.unscheduled k.critical _)
    (λ e. rw e) (λ b. rw (ne_eqb (k.unscheduled + k.critical) 0 (λ z. omega arith)) (G.runs b))
