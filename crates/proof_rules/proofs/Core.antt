-- The state rules but for who runs, in a form that each step of a call keeps: record by record, and everybody in place.
-- `waited i` says that event i is not TRUE, so that bits and events may change before the events are worked out.
-- Beside it: Ends (from and to the rules, who runs), Accepted (what the refusals leave), Free (free ids), Steps (waking, blocking, lists).
use Prim.Native.Nat.{ℕ, ◌≤◌, ◌<◌}
use mathlib.Core.Path.{◌≡◌, refl, sym, ap, ◌∙◌}
use mathlib.Core.Bool.{Bool, true, false, not, false≢true}
use mathlib.Core.List.{List}
use mathlib.Core.Logic.{◌⊎◌}
use native.Mathlib.Omega.{arith}
use lib.Dec.{eqb, ltb}
use lib.ListN.{length, get_or, length-set}
use lib.Seq.{get_or-set_same, get_or-set_other, set_out}
use borrow.Author.Tests.{eqb-true, eqb-false, ltb-true, ltb-false}
use borrow.Table.Steps.{cases}
use Rattle.base_bits.specs.Words.{bit_at}
use Rattle.spec_kernel.specs.declared.records.Condition.{Condition}
use Rattle.spec_kernel.specs.declared.records.Condition.TheVariants.{Ready, Asleep, ForSemaphore, ForEvent, ForMessage, ForFlag}
use Rattle.spec_kernel.specs.declared.records.Thread.{Thread}
use Rattle.spec_kernel.specs.declared.records.Semaphore.{Semaphore}
use Rattle.spec_kernel.specs.declared.records.Event.{Event}
use Rattle.spec_kernel.specs.declared.records.Message.{Message}
use Rattle.spec_kernel.specs.declared.records.Kernel.{Kernel}
use Rattle.spec_kernel.specs.Sizes.{thread_count, semaphore_count, event_count, message_count, flag_count, priority_count, channel_count}
use Rattle.spec_kernel.specs.Records.{thread, semaphore, event, message, no_thread, no_semaphore, no_message}
use Rattle.spec_kernel.specs.Conditions.{awaits}
use Rattle.spec_kernel.specs.Truth.{is_true}
use Rattle.spec_moves.specs.Standing.{threads_of, posts_of, Standing, Filed}
use Rattle.spec_moves.proofs.Joins.{past_end}
use Rattle.spec_moves.proofs.Threads.{relocate_same, relocate_other, relocate_standing}
use Rattle.spec_moves.proofs.Posts.{repost_same, repost_other, repost_filed}
use Rattle.spec_rules.proofs.OfRecords.{Kept, live_or_not, KeptSemaphore}
use Rattle.spec_moves.specs.States.{with_semaphore, with_events, with_flags, with_scheduler, move_thread, move_message}

-- ---- the records
-- a semaphore that threads may wait for
abbrev pub Waitable : Semaphore → Type 0
Waitable s = (s.live ≡ true) × (s.count ≡ 0)

-- what a condition says of the ticks left and of the object
abbrev pub Fits : List Semaphore → (ℕ → Bool) → ℕ → ℕ → Condition → Type 0
Fits semaphores waited flags ticks Ready = ticks ≡ 0
Fits semaphores waited flags ticks Asleep = 0 < ticks
Fits semaphores waited flags ticks (ForSemaphore i) = Waitable (get_or semaphores i no_semaphore)
Fits semaphores waited flags ticks (ForEvent i) = (i < event_count) × (waited i ≡ true)
Fits semaphores waited flags ticks (ForMessage mask) = (0 < mask) × (mask ≤ 32767)
Fits semaphores waited flags ticks (ForFlag i) = (i < flag_count) × (bit_at flags i ≡ true)

pub record LivingThread (semaphores : List Semaphore) (waited : ℕ → Bool) (flags : ℕ) (r : Thread) : Type 0 where
  pub priority : (1 ≤ r.priority) × (r.priority ≤ priority_count) × (1 ≤ r.first) × (r.first ≤ priority_count)
  pub reply : (r.reply < message_count) ⊎ (r.reply ≡ 255)
  pub condition : Fits semaphores waited flags r.ticks r.condition

abbrev pub FineThread : List Semaphore → (ℕ → Bool) → ℕ → Thread → Type 0
FineThread semaphores waited flags r = Kept (λ (s : Thread). s.live) no_thread (LivingThread semaphores waited flags) r

pub record LivingMessage (threads : List Thread) (r : Message) : Type 0 where
  pub owner : (get_or threads r.owner no_thread).live ≡ true
  pub sender : r.sender < thread_count
  pub channel : r.channel ≤ channel_count
  pub unawaited : awaits (get_or threads r.owner no_thread).condition r.channel ≡ false

abbrev pub FineMessage : List Thread → Message → Type 0
FineMessage threads r = Kept (λ (s : Message). s.live) no_message (LivingMessage threads) r

-- ---- the state
pub record Core (waited : ℕ → Bool) (k : Kernel) : Type 0 where
  pub standing : Standing (threads_of k)
  pub filed : Filed (posts_of k)
  pub semaphores_sized : length k.semaphores ≡ semaphore_count
  pub events_sized : length k.events ≡ event_count
  pub threads : (t : ℕ) → FineThread k.semaphores waited k.flags (thread k t)
  pub semaphores : (i : ℕ) → KeptSemaphore (semaphore k i)
  pub messages : (m : ℕ) → FineMessage k.threads (message k m)

-- as the state's own events are
abbrev pub untrue : Kernel → ℕ → Bool
untrue k i = not (is_true k.bits (event k i))

-- a thread stays fine where what it waits for may be waited for among other semaphores, events and flags
fine_still : {S S' : List Semaphore} {w w' : ℕ → Bool} {f f' : ℕ} {r : Thread}
    → ((i : ℕ) → r.condition ≡ ForSemaphore i → Waitable (get_or S i no_semaphore) → Waitable (get_or S' i no_semaphore))
    → ((i : ℕ) → r.condition ≡ ForEvent i → i < event_count → w i ≡ true → w' i ≡ true)
    → ((i : ℕ) → r.condition ≡ ForFlag i → bit_at f i ≡ true → bit_at f' i ≡ true) → FineThread S w f r → FineThread S' w' f' r
fine_still {S} {S'} {w} {w'} {f} {f'} {r} s e g F = record {
  living = λ l. let L = F.living l in
      record { priority = L.priority; reply = L.reply; condition = go r.condition s e g L.condition };
  gone = F.gone;
}
  where
    go : (c : Condition) → ((i : ℕ) → c ≡ ForSemaphore i → Waitable (get_or S i no_semaphore) → Waitable (get_or S' i no_semaphore))
        → ((i : ℕ) → c ≡ ForEvent i → i < event_count → w i ≡ true → w' i ≡ true)
        → ((i : ℕ) → c ≡ ForFlag i → bit_at f i ≡ true → bit_at f' i ≡ true) → Fits S w f r.ticks c → Fits S' w' f' r.ticks c
    go Ready s e g h = h
    go Asleep s e g h = h
    go (ForSemaphore i) s e g h = s i refl h
    go (ForEvent i) s e g h = (h.0, e i refl h.0 h.1)
    go (ForMessage mask) s e g h = h
    go (ForFlag i) s e g h = (h.0, g i refl h.1)

-- an id with a live record is in reach
live_inside : {A : Type 0} (live : A → Bool) (d : A) → live d ≡ false → (l : List A) (n : ℕ) → length l ≡ n
    → (i : ℕ) → live (get_or l i d) ≡ true → i < n
live_inside live d out l n e i h =
    cases (ltb i n) (ltb-true i n) (λ f. absurd (false≢true (sym out ∙ (rw (past_end l d e (ltb-false i n f)) at h))))

module _ {waited : ℕ → Bool} {k : Kernel} (C : Core waited k) where
  -- ---- what is known of the records
  pub live_thread : (t : ℕ) → (thread k t).live ≡ true → t < thread_count
  live_thread = live_inside (λ r. r.live) no_thread refl k.threads thread_count C.standing.count

  pub live_semaphore : (i : ℕ) → (semaphore k i).live ≡ true → i < semaphore_count
  live_semaphore = live_inside (λ r. r.live) no_semaphore refl k.semaphores semaphore_count C.semaphores_sized

  pub live_message : (m : ℕ) → (message k m).live ≡ true → m < message_count
  live_message = live_inside (λ r. r.live) no_message refl k.messages message_count C.filed.count

  -- of a thread that isn't live too
  pub condition_of : (t : ℕ) → Fits k.semaphores waited k.flags (thread k t).ticks (thread k t).condition
  condition_of t =
      live_or_not (λ r. Fits k.semaphores waited k.flags r.ticks r.condition) (C.threads t) (λ L. L.condition) refl

  -- one whose condition isn't ready is live
  pub live_waiter : (t : ℕ) → ((thread k t).condition ≡ Ready → ⊥) → (thread k t).live ≡ true
  live_waiter t h = cases (thread k t).live (λ e. e) (λ e. absurd (h (rw ((C.threads t).gone e))))

  -- ---- a thread gets a record
  module _ (t : ℕ) (b : t < thread_count) (r : Thread) where
    -- what holds of it, and of the others, holds of each
    pub each_thread : (P : Thread → Type 0) (u : ℕ) → (u ≡ t → P r) → ((u ≡ t → ⊥) → P (thread k u)) → P (thread (move_thread t r k) u)
    each_thread P u f g =
        cases (eqb u t)
        (λ e. let z = eqb-true u t e in rw (z, relocate_same (threads_of k) t r C.standing.count b) (f z))
        (λ e. let ne = eqb-false u t e in rw (relocate_other (threads_of k) t r ne) (g ne))

    module _ (F : FineThread k.semaphores waited k.flags r) where
      pub place_core : ((m : ℕ) → (message k m).live ≡ true → (message k m).owner ≡ t
          → (r.live ≡ true) × (awaits r.condition (message k m).channel ≡ false)) → Core waited (move_thread t r k)
      place_core owned = record {
        standing = relocate_standing (threads_of k) t r C.standing;
        filed = C.filed;
        semaphores_sized = C.semaphores_sized;
        events_sized = C.events_sized;
        threads = λ u. each_thread (FineThread k.semaphores waited k.flags) u (λ _. F) (λ _. C.threads u);
        semaphores = C.semaphores;
        messages = λ m. record {
          living = λ e. let L = (C.messages m).living e in record {
            owner = each_thread (λ s. s.live ≡ true) (message k m).owner (λ z. (owned m e z).0) (λ _. L.owner);
            sender = L.sender;
            channel = L.channel;
            unawaited =
                each_thread (λ s. awaits s.condition (message k m).channel ≡ false) (message k m).owner
                (λ z. (owned m e z).1) (λ _. L.unawaited);
          };
          gone = (C.messages m).gone;
        };
      }

      -- a live one that awaits no message
      pub place_calm : r.live ≡ true → ((c : ℕ) → awaits r.condition c ≡ false) → Core waited (move_thread t r k)
      place_calm l a = place_core (λ m _ _. (l, a (message k m).channel))

      -- one with the condition that it had
      pub place_alike : r.live ≡ (thread k t).live → r.condition ≡ (thread k t).condition → Core waited (move_thread t r k)
      place_alike l c = place_core (λ m e z. let L = (C.messages m).living e in (l ∙ (rw z at L.owner), rw (c, ← z) L.unawaited))

  -- ---- a message gets a record
  pub file_core : (m : ℕ) → m < message_count → (r : Message) → FineMessage k.threads r → Core waited (move_message m r k)
  file_core m b r F = record {
    standing = C.standing;
    filed = repost_filed (posts_of k) m r C.filed;
    semaphores_sized = C.semaphores_sized;
    events_sized = C.events_sized;
    threads = C.threads;
    semaphores = C.semaphores;
    messages = λ u.
        cases (eqb u m) (λ e. rw (eqb-true u m e, repost_same (posts_of k) m r C.filed.count b) F)
        (λ e. rw (repost_other (posts_of k) m r (eqb-false u m e)) (C.messages u));
  }

  -- ---- a semaphore gets a record; an id too large changes nothing
  module _ (i : ℕ) (s : Semaphore) where
    pub each_semaphore : (P : Semaphore → Type 0) (j : ℕ) → (j ≡ i → P s) → P (semaphore k j) → P (semaphore (with_semaphore i s k) j)
    each_semaphore P j f h =
        cases (eqb j i)
        (λ e. cases (ltb i semaphore_count)
        (λ b. let z = eqb-true j i e in
        let c : i < length k.semaphores = omega (arith, C.semaphores_sized, ltb-true i semaphore_count b) in
        rw (z, get_or-set_same k.semaphores i s no_semaphore c) (f z))
        (λ b. let c : length k.semaphores ≤ i = omega (arith, C.semaphores_sized, ltb-false i semaphore_count b) in
        rw (set_out k.semaphores i s c) h))
        (λ e. rw (get_or-set_other k.semaphores i j s no_semaphore (eqb-false j i e)) h)

    -- who waits for it may wait for the new one
    pub semaphore_core : KeptSemaphore s → ((t : ℕ) → (thread k t).condition ≡ ForSemaphore i → Waitable s)
        → Core waited (with_semaphore i s k)
    semaphore_core F waiters = record {
      standing = C.standing;
      filed = C.filed;
      semaphores_sized = length-set k.semaphores i s ∙ C.semaphores_sized;
      events_sized = C.events_sized;
      threads = λ t. fine_still (λ j z. each_semaphore Waitable j (λ y. waiters t (z ∙ ap ForSemaphore y))) (λ _ _ _ w. w) (λ _ _ w. w)
          (C.threads t);
      semaphores = λ j. each_semaphore KeptSemaphore j (λ _. F) (C.semaphores j);
      messages = C.messages;
    }

  -- ---- events and bits; uptime, levels and runner
  pub events_core : (l : List Event) (bits : ℕ) → length l ≡ event_count → Core waited (with_events l bits k)
  events_core l bits e = record {
    standing = C.standing;
    filed = C.filed;
    semaphores_sized = C.semaphores_sized;
    events_sized = e;
    threads = C.threads;
    semaphores = C.semaphores;
    messages = C.messages;
  }

  pub scheduler_core : (uptime unscheduled critical runner : ℕ) → Core waited (with_scheduler uptime unscheduled critical runner k)
  scheduler_core uptime unscheduled critical runner = record {
    standing = C.standing;
    filed = C.filed;
    semaphores_sized = C.semaphores_sized;
    events_sized = C.events_sized;
    threads = C.threads;
    semaphores = C.semaphores;
    messages = C.messages;
  }

  -- ---- flags: who waits for one may wait for it still
  pub flags_core : (flags : ℕ) → ((t i : ℕ) → (thread k t).condition ≡ ForFlag i → bit_at k.flags i ≡ true → bit_at flags i ≡ true)
      → Core waited (with_flags flags k)
  flags_core flags h = record {
    standing = C.standing;
    filed = C.filed;
    semaphores_sized = C.semaphores_sized;
    events_sized = C.events_sized;
    threads = λ t. fine_still (λ _ _ w. w) (λ _ _ _ w. w) (h t) (C.threads t);
    semaphores = C.semaphores;
    messages = C.messages;
  }

  -- other events are waited for
  pub core_weaken : {waited' : ℕ → Bool}
      → ((t i : ℕ) → (thread k t).condition ≡ ForEvent i → i < event_count → waited i ≡ true → waited' i ≡ true) → Core waited' k
  core_weaken h = record {
    standing = C.standing;
    filed = C.filed;
    semaphores_sized = C.semaphores_sized;
    events_sized = C.events_sized;
    threads = λ t. fine_still (λ _ _ w. w) (h t) (λ _ _ w. w) (C.threads t);
    semaphores = C.semaphores;
    messages = C.messages;
  }
