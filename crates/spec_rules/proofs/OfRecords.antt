-- The records: what the tests of a thread, a semaphore and a message say, live or not.
use Prim.Native.Nat.{ℕ, ◌≤◌, ◌<◌}
use mathlib.Core.Path.{◌≡◌, refl, sym, ◌∙◌}
use mathlib.Core.Bool.{Bool, true, false, cond, ◌||◌, not, false≢true, and-eq-true_iff, and-true, or-true}
use mathlib.Core.List.{List}
use mathlib.Core.Logic.Iff
use mathlib.Core.Logic.{◌⊎◌, ◌↔◌, inl, inr, ⊎_elim}
use native.Mathlib.Omega.{arith}
use lib.ListN.{length, get_or, get_or-eq_default}
use lib.Dec.{eqb, ltb, leb}
use borrow.Author.Tests.{eqb-true, eqb-false, eq-eqb, ltb-true, ltb-false, lt-ltb, leb-true, le-leb, not-true}
use borrow.Table.Steps.{cases}
use Rattle.base_queue.specs.Lists.{every_from}
use Rattle.base_queue.proofs.Lists.{every_at, every_intro}
use Rattle.base_bits.specs.Words.{bit_at}
use Rattle.spec_kernel.specs.declared.records.Condition.{Condition}
use Rattle.spec_kernel.specs.declared.records.Condition.TheVariants.{Ready, Asleep, ForSemaphore, ForEvent, ForMessage, ForFlag}
use Rattle.spec_kernel.specs.declared.records.Wake.{Wake}
use Rattle.spec_kernel.specs.declared.records.Thread.{Thread}
use Rattle.spec_kernel.specs.declared.records.Semaphore.{Semaphore}
use Rattle.spec_kernel.specs.declared.records.Message.{Message}
use Rattle.spec_kernel.specs.declared.records.Kernel.{Kernel}
use Rattle.spec_kernel.specs.Records.{thread, semaphore, event, message, no_thread, no_semaphore, no_message}
use Rattle.spec_kernel.specs.Sizes.{thread_count, event_count, message_count, flag_count, priority_count, channel_count}
use Rattle.spec_kernel.specs.Conditions.{ready_for, awaits}
use Rattle.spec_kernel.specs.Truth.{is_true}
use Rattle.spec_rules.specs.Tests.{no_wake, condition_kept, is_no_thread, live_thread_kept, thread_kept, threads_kept}
use Rattle.spec_rules.specs.Tests.{is_no_semaphore, live_semaphore_kept, semaphore_kept, semaphores_kept}
use Rattle.spec_rules.specs.Tests.{is_no_message, live_message_kept, message_kept, messages_kept}

-- ---- a test and what it says
ltb_iff : (a b : ℕ) → (ltb a b ≡ true) ↔ (a < b)
ltb_iff a b = (ltb-true a b, lt-ltb a b)

leb_iff : (a b : ℕ) → (leb a b ≡ true) ↔ (a ≤ b)
leb_iff a b = (leb-true a b, le-leb a b)

pub eqb_iff : (a b : ℕ) → (eqb a b ≡ true) ↔ (a ≡ b)
eqb_iff a b = (eqb-true a b, eq-eqb a b)

not_iff : (b : Bool) → (not b ≡ true) ↔ (b ≡ false)
not_iff b = (not-true b, λ e. rw e)

or_iff : (a b c d : ℕ) → ((ltb a b || eqb c d) ≡ true) ↔ ((a < b) ⊎ (c ≡ d))
or_iff a b c d = (
  λ h. cases (ltb a b) (λ e. inl (ltb-true a b e)) (λ e. inr (eqb-true c d (rw e at h))),
  ⊎_elim (λ e. rw (lt-ltb a b e)) (λ e. rw (eq-eqb c d e, or-true)),
)

pub zero_iff : (n : ℕ) (x y : Bool) → (cond (eqb n 0) x y ≡ true) ↔ ((n ≡ 0 → x ≡ true) × (0 < n → y ≡ true))
zero_iff n x y =
    cases (eqb n 0) (λ e. let z = eqb-true n 0 e in rw e (λ h. (λ _. h, λ b. absurd (omega arith)), λ h. h.0 z))
    (λ e. let z = eqb-false n 0 e in rw e (λ h. (λ c. absurd (z c), λ _. h), λ h. h.1 (omega arith)))

ready_iff : (c : Condition) → (ready_for c ≡ true) ↔ (c ≡ Ready)
ready_iff c = (means c, λ e. rw e)
  where
    means : (c : Condition) → ready_for c ≡ true → c ≡ Ready
    means Ready h = refl
    means Asleep h = cc
    means (ForSemaphore i) h = cc
    means (ForEvent i) h = cc
    means (ForMessage mask) h = cc
    means (ForFlag i) h = cc

wake_iff : (w : Wake) → (no_wake w ≡ true) ↔ (w ≡ Wake.None)
wake_iff w = (means w, λ e. rw e)
  where
    means : (w : Wake) → no_wake w ≡ true → w ≡ Wake.None
    means Wake.None h = refl
    means Wake.Met h = cc
    means (Wake.TimedOut object) h = cc

ruleset tests = (and-true, and-eq-true_iff, ltb_iff, leb_iff, eqb_iff, not_iff, or_iff, zero_iff, ready_iff, wake_iff)

-- ---- a list of records: every field of one that isn't live is 0
pub record Kept {A : Type 0} (live : A → Bool) (none : A) (Live : A → Type 0) (r : A) : Type 0 where
  pub living : live r ≡ true → Live r
  pub gone : live r ≡ false → r ≡ none

-- what holds of a live record and of the one with every field 0 holds of each
pub live_or_not : {A : Type 0} {live : A → Bool} {none : A} {Live : A → Type 0} {r : A} (P : A → Type 0)
    → Kept live none Live r → (Live r → P r) → P none → P r
live_or_not {live} {r} P K f z = cases (live r) (λ e. f (K.living e)) (λ e. rw (K.gone e) z)

-- the test of a live record, and that of one that isn't live, pass exactly where each record is kept
module _ {A : Type 0} (live test zeros : A → Bool) (none : A) (Live : A → Type 0) (out : live none ≡ false)
    (living : (r : A) → (test r ≡ true) ↔ Live r) (gone : (r : A) → live r ≡ false → (zeros r ≡ true) ↔ (r ≡ none)) where
  abbrev passes : A → Bool
  passes r = cond (live r) (test r) (zeros r)

  none_kept : Kept live none Live none
  none_kept = record { living = λ e. absurd (false≢true (sym out ∙ e)); gone = λ _. refl }

  kept_means : (r : A) → passes r ≡ true → Kept live none Live r
  kept_means r h = record { living = λ e. (living r).0 (rw e at h); gone = λ e. (gone r e).0 (rw e at h) }

  kept_holds : (r : A) → Kept live none Live r → passes r ≡ true
  kept_holds r K = cases (live r) (λ e. rw e ((living r).1 (K.living e))) (λ e. rw e ((gone r e).1 (K.gone e)))

  kept_exactly : (l : List A) → (every_from (λ _ r. passes r) 0 l ≡ true) ↔ ((i : ℕ) → Kept live none Live (get_or l i none))
  kept_exactly l = (
    λ h i. cases (ltb i (length l)) (λ e. kept_means (get_or l i none) (every_at (λ _ r. passes r) none 0 l h i (ltb-true i (length l) e)))
        (λ e. rw (get_or-eq_default l none (ltb-false i (length l) e)) none_kept),
    λ K. every_intro (λ _ r. passes r) none 0 l (λ i _. kept_holds (get_or l i none) (K i)),
  )

-- ---- threads
-- what the condition says of the ticks left and of the object
abbrev pub ConditionKept : Kernel → ℕ → Condition → Type 0
ConditionKept k ticks Ready = ticks ≡ 0
ConditionKept k ticks Asleep = 0 < ticks
ConditionKept k ticks (ForSemaphore i) = ((semaphore k i).live ≡ true) × ((semaphore k i).count ≡ 0)
ConditionKept k ticks (ForEvent i) = (i < event_count) × (is_true k.bits (event k i) ≡ false)
ConditionKept k ticks (ForMessage mask) = (0 < mask) × (mask ≤ 32767)
ConditionKept k ticks (ForFlag i) = (i < flag_count) × (bit_at k.flags i ≡ true)

condition_exactly : (k : Kernel) (ticks : ℕ) (c : Condition)
    → (condition_kept k.semaphores k.events k.bits k.flags ticks c ≡ true) ↔ ConditionKept k ticks c
unfolding condition_kept
condition_exactly k ticks Ready = simp tests Iff.rfl
condition_exactly k ticks Asleep = simp tests Iff.rfl
condition_exactly k ticks (ForSemaphore i) = simp tests Iff.rfl
condition_exactly k ticks (ForEvent i) = simp tests Iff.rfl
condition_exactly k ticks (ForMessage mask) = simp tests Iff.rfl
condition_exactly k ticks (ForFlag i) = simp tests Iff.rfl

pub record LiveThread (k : Kernel) (r : Thread) : Type 0 where
  pub priority : (1 ≤ r.priority) × (r.priority ≤ priority_count) × (1 ≤ r.first) × (r.first ≤ priority_count)
  pub reply : (r.reply < message_count) ⊎ (r.reply ≡ 255)
  pub condition : ConditionKept k r.ticks r.condition

thread_lives : (k : Kernel) (r : Thread) → (live_thread_kept k.semaphores k.events k.bits k.flags r ≡ true) ↔ LiveThread k r
unfolding live_thread_kept
thread_lives k r = (
  λ h. let (p, (p', (f, (f', (a, c))))) = simp (tests, condition_exactly k) at h in
      record { priority = (p, p', f, f'); reply = a; condition = c },
  λ L. let (p, p', f, f') = L.priority in simp (tests, condition_exactly k) (p, (p', (f, (f', (L.reply, L.condition))))),
)

thread_gone : (r : Thread) → r.live ≡ false → (is_no_thread r ≡ true) ↔ (r ≡ no_thread)
unfolding is_no_thread
thread_gone r e = (
  λ h. let (p, (f, (c, (t, (w, a))))) = simp tests at h in
      λ i. record { live = e i; priority = p i; first = f i; condition = c i; ticks = t i; wake = w i; reply = a i },
  λ n. rw n,
)

abbrev pub KeptThread : Kernel → Thread → Type 0
KeptThread k r = Kept (λ (s : Thread). s.live) no_thread (LiveThread k) r

pub threads_exactly : (k : Kernel) → (threads_kept k ≡ true) ↔ ((t : ℕ) → KeptThread k (thread k t))
unfolding threads_kept thread_kept
threads_exactly k =
    let lives = live_thread_kept k.semaphores k.events k.bits k.flags in
    kept_exactly (λ r. r.live) lives is_no_thread no_thread (LiveThread k) refl (thread_lives k) thread_gone k.threads

-- ---- semaphores
pub record LiveSemaphore (r : Semaphore) : Type 0 where
  pub maximum : 1 ≤ r.maximum
  pub count : r.count ≤ r.maximum
  pub ticks : (r.period ≡ 0 → r.ticks ≡ 0) × (0 < r.period → 0 < r.ticks)

semaphore_lives : (r : Semaphore) → (live_semaphore_kept r ≡ true) ↔ LiveSemaphore r
unfolding live_semaphore_kept
semaphore_lives r = (
  λ h. let (m, (c, t)) = simp tests at h in record { maximum = m; count = c; ticks = t },
  λ L. simp tests (L.maximum, (L.count, L.ticks)),
)

semaphore_gone : (r : Semaphore) → r.live ≡ false → (is_no_semaphore r ≡ true) ↔ (r ≡ no_semaphore)
unfolding is_no_semaphore
semaphore_gone r e = (
  λ h. let (c, (m, (t, p))) = simp tests at h in λ i. record { live = e i; count = c i; maximum = m i; ticks = t i; period = p i },
  λ n. rw n,
)

abbrev pub KeptSemaphore : Semaphore → Type 0
KeptSemaphore r = Kept (λ (s : Semaphore). s.live) no_semaphore LiveSemaphore r

pub semaphores_exactly : (k : Kernel) → (semaphores_kept k ≡ true) ↔ ((i : ℕ) → KeptSemaphore (semaphore k i))
unfolding semaphores_kept semaphore_kept
semaphores_exactly k =
    kept_exactly (λ r. r.live) live_semaphore_kept is_no_semaphore no_semaphore LiveSemaphore refl semaphore_lives semaphore_gone
    k.semaphores

-- ---- messages
pub record LiveMessage (k : Kernel) (r : Message) : Type 0 where
  pub owner : (thread k r.owner).live ≡ true
  pub sender : r.sender < thread_count
  pub channel : r.channel ≤ channel_count
  pub unawaited : awaits (thread k r.owner).condition r.channel ≡ false

message_lives : (k : Kernel) (r : Message) → (live_message_kept k.threads r ≡ true) ↔ LiveMessage k r
unfolding live_message_kept
message_lives k r = (
  λ h. let (o, (s, (c, a))) = simp tests at h in record { owner = o; sender = s; channel = c; unawaited = a },
  λ L. simp tests (L.owner, (L.sender, (L.channel, L.unawaited))),
)

message_gone : (r : Message) → r.live ≡ false → (is_no_message r ≡ true) ↔ (r ≡ no_message)
unfolding is_no_message
message_gone r e = (
  λ h. let (o, (s, (t, (n, (a, c))))) = simp tests at h in
      λ i. record { live = e i; owner = o i; sender = s i; kind = t i; size = n i; address = a i; channel = c i },
  λ n. rw n,
)

abbrev pub KeptMessage : Kernel → Message → Type 0
KeptMessage k r = Kept (λ (s : Message). s.live) no_message (LiveMessage k) r

pub messages_exactly : (k : Kernel) → (messages_kept k ≡ true) ↔ ((m : ℕ) → KeptMessage k (message k m))
unfolding messages_kept message_kept
messages_exactly k =
    kept_exactly (λ r. r.live) (live_message_kept k.threads) is_no_message no_message (LiveMessage k) refl (message_lives k) message_gone
    k.messages
