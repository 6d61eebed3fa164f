-- The homes: a thread's home says which of document 01's lists it stands in, and the lists and the table agree on who stands there.
use Prim.Native.Nat.{ℕ, ◌+◌, ◌-◌, ◌≤◌, ◌<◌}
use mathlib.Core.Path.{◌≡◌, refl, ap, ◌∙◌}
use mathlib.Core.Bool.{Bool, true, false, cond, ◌&&◌, and-true, and-false}
use mathlib.Core.Logic.{◌⊎◌, inl, inr, ⊎_elim}
use native.Mathlib.Omega.{arith}
use lib.Dec.{eqb}
use borrow.Author.Tests.{eqb-true, eqb-false, eq-eqb, ne_eqb}
use borrow.Table.Steps.{cases}
use Rattle.base_queue.specs.Lists.{count}
use Rattle.base_queue.specs.Queues.{items}
use Rattle.base_queue.specs.Tables.{one, Placed}
use Rattle.base_queue.proofs.Counts.{same, count_keep}
use Rattle.spec_kernel.specs.declared.records.Condition.{Condition}
use Rattle.spec_kernel.specs.declared.records.Condition.TheVariants.{Ready, Asleep, ForSemaphore, ForEvent, ForMessage, ForFlag}
use Rattle.spec_kernel.specs.declared.records.Thread.{Thread}
use Rattle.spec_kernel.specs.declared.records.Kernel.{Kernel}
use Rattle.spec_kernel.specs.Records.{thread, semaphore}
use Rattle.spec_kernel.specs.Sizes.{semaphore_count, priority_count}
use Rattle.spec_kernel.specs.Conditions.{is_ready, Class, of_semaphores, of_events, of_flags, ids_in, on_object, waits_for}
use Rattle.spec_kernel.specs.Places.{home, home_of, has_home, at_home, nowhere}
use Rattle.spec_rules.specs.Rules.{ReadyPlaces, WaitingPlaces, NoOtherPlaces}
use Rattle.spec_rules.proofs.OfRecords.{ConditionKept, KeptThread}

-- ---- a thread's home
-- where homes lie: in the ready lists, in the queue of an object that there is, or nowhere
pub data Lies (h : ℕ) : Type 0 where
  in_list : h ≤ priority_count → Lies h
  in_queue : (class : Class) (i : ℕ) → i < ids_in class → h ≡ home class i → Lies h
  in_none : h ≡ nowhere → Lies h

-- which list it is that a thread's home names
pub record Housed (r : Thread) : Type 0 where
  pub ready : (p : ℕ) → p ≤ priority_count → eqb (home_of r) p ≡ is_ready r && eqb r.priority p
  pub waiting : (class : Class) (i : ℕ) → i < ids_in class → eqb (home_of r) (home class i) ≡ waits_for class i r
  pub lies : Lies (home_of r)
  pub low : home_of r < 256 → (1 ≤ home_of r) × (home_of r ≤ priority_count)

shift : (a i j : ℕ) → eqb (a + i) (a + j) ≡ eqb i j
shift a i j = cases (eqb i j) (λ e. rw e (omega (arith, eq-eqb, eqb-true))) (λ e. let n = eqb-false i j e in rw e (omega (arith, ne_eqb)))

-- the homes of objects lie behind all ready lists
queue_home : (class : Class) {i : ℕ} → i < ids_in class → (256 ≤ home class i) × (home class i < nowhere)
queue_home of_semaphores b = omega arith
queue_home of_events b = omega arith
queue_home of_flags b = omega arith

-- a ready list's home, and none, is no object's
elsewhere : (h : ℕ) → (h < 256) ⊎ (h ≡ nowhere) → (class : Class) (i : ℕ) → i < ids_in class → eqb h (home class i) ≡ false
elsewhere h w class i b = let q = queue_home class b in ne_eqb h (home class i) (λ e. ⊎_elim (λ l. omega arith) (λ z. omega arith) w)

-- the condition of one that waits for an object
abbrev pub waiting_for : Class → ℕ → Condition
waiting_for of_semaphores i = ForSemaphore i
waiting_for of_events i = ForEvent i
waiting_for of_flags i = ForFlag i

-- two objects have one home only where they are the same
own_home : (own class : Class) {j i : ℕ} → j < ids_in own → i < ids_in class
    → eqb (home own j) (home class i) ≡ on_object class i (waiting_for own j)
own_home of_semaphores of_semaphores {j} {i} b c = shift 256 j i
own_home of_events of_events {j} {i} b c = shift 512 j i
own_home of_flags of_flags {j} {i} b c = shift 768 j i
own_home of_semaphores of_events b c = omega (arith, ne_eqb)
own_home of_events of_semaphores b c = omega (arith, ne_eqb)
own_home of_semaphores of_flags b c = omega (arith, ne_eqb)
own_home of_events of_flags b c = omega (arith, ne_eqb)
own_home of_flags of_semaphores b c = omega (arith, ne_eqb)
own_home of_flags of_events b c = omega (arith, ne_eqb)

module _ (k : Kernel) (Live-Below : (i : ℕ) → (semaphore k i).live ≡ true → i < semaphore_count) where
  -- a kept thread's home is such a one
  pub housed : (r : Thread) → KeptThread k r → Housed r
  unfolding home_of
  housed r K = go r.live r.condition (λ e. (K.living e).priority) (λ e. (K.living e).condition)
    where
      none : (class : Class) (i : ℕ) → i < ids_in class → eqb nowhere (home class i) ≡ false
      none = elsewhere nowhere (inr refl)

      go : (live : Bool) (c : Condition)
          → (live ≡ true → (1 ≤ r.priority) × (r.priority ≤ priority_count) × (1 ≤ r.first) × (r.first ≤ priority_count))
          → (live ≡ true → ConditionKept k r.ticks c)
          → Housed
          (record {
            live = live;
            priority = r.priority;
            first = r.first;
            condition = c;
            ticks = r.ticks;
            wake = r.wake;
            reply = r.reply;
          })
      go false c P C = record { ready = omega (arith, ne_eqb); waiting = none; lies = in_none refl; low = omega arith }
      go true Ready P C = let p = P refl in record {
        ready = λ _ _. refl;
        waiting = elsewhere r.priority (inl (omega arith));
        lies = in_list (omega arith);
        low = omega arith;
      }
      go true Asleep P C = record { ready = omega (arith, ne_eqb); waiting = none; lies = in_none refl; low = omega arith }
      go true (ForSemaphore j) P C = let b = Live-Below j (C refl).0 in record {
        ready = omega (arith, ne_eqb);
        waiting = λ class i. own_home of_semaphores class b;
        lies = in_queue of_semaphores j b refl;
        low = omega arith;
      }
      go true (ForEvent j) P C = let b = (C refl).0 in record {
        ready = omega (arith, ne_eqb);
        waiting = λ class i. own_home of_events class b;
        lies = in_queue of_events j b refl;
        low = omega arith;
      }
      go true (ForFlag j) P C = let b = (C refl).0 in record {
        ready = omega (arith, ne_eqb);
        waiting = λ class i. own_home of_flags class b;
        lies = in_queue of_flags j b refl;
        low = omega arith;
      }
      go true (ForMessage mask) P C = record { ready = omega (arith, ne_eqb); waiting = none; lies = in_none refl; low = omega arith }

-- ---- the lists of a table
pub cond_one : (f b : Bool) → cond f (one b) 0 ≡ one (b && f)
cond_one true b = rw and-true
cond_one false b = rw and-false

module _ (k : Kernel) (H : (t : ℕ) → Housed (thread k t)) where
  abbrev Stands : Type 0
  Stands = Placed (λ t. has_home (thread k t)) (items k.places)

  -- a list has its threads once each, and nobody else
  line_count : Stands → (t h : ℕ) → h < nowhere → count t (at_home k h) ≡ one (eqb (home_of (thread k t)) h)
  line_count P t h b =
      rw (count_keep, P t)
      (cases (eqb (home_of (thread k t)) h) (λ e. rw (e, ne_eqb (home_of (thread k t)) nowhere (λ z. omega (arith, eqb-true)))) (λ e. rw e))

  pub ready_places_lem : Stands → ReadyPlaces k
  unfolding ReadyPlaces
  ready_places_lem P t p b = line_count P t p (omega arith) ∙ ap one ((H t).ready p b)

  pub waiting_places_lem : Stands → WaitingPlaces k
  unfolding WaitingPlaces
  waiting_places_lem P class t i b = line_count P t (home class i) (queue_home class b).1 ∙ ap one ((H t).waiting class i b)

  -- and where the lists have theirs, so has the table
  module _ (R : ReadyPlaces k) (W : WaitingPlaces k) (N : NoOtherPlaces k) where
    -- each that has a home stands in the table once, and nobody else does
    pub stands : Stands
    unfolding ReadyPlaces WaitingPlaces NoOtherPlaces
    stands t = go (H t).lies
      where
        -- who stands in the list of its home stands in the table
        in_table : home_of (thread k t) < nowhere → count t (at_home k (home_of (thread k t))) ≡ 1
            → count t (items k.places) ≡ one (has_home (thread k t))
        in_table b e = rw (ne_eqb (home_of (thread k t)) nowhere (λ z. omega arith)) (rw (count_keep, same) at e)

        go : Lies (home_of (thread k t)) → count t (items k.places) ≡ one (has_home (thread k t))
        go (in_list b) = in_table (omega arith) (R t (home_of (thread k t)) b ∙ rw (← (H t).ready (home_of (thread k t)) b, same))
        go (in_queue class i b e) =
            in_table (omega (arith, queue_home class b)) (rw e (W class t i b ∙ rw (← (H t).waiting class i b, eq-eqb _ _ e)))
        go (in_none e) = rw e (N t (rw e))
