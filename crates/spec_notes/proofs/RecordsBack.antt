-- A record's row gives the record back, so rows that are the same mean equal records.
use Prim.Native.Nat.{ℕ, ◌-◌, ◌<◌}
use mathlib.Core.Path.{◌≡◌, refl, sym, ap, ◌∙◌}
use mathlib.Core.Bool.{Bool, true, false, not, cond, and-eq-true_iff, false≢true}
use mathlib.Core.List.{List, [], ◌∷◌}
use native.Mathlib.Nat.{mod-eq_of_lt}
use native.Mathlib.Omega.{arith}
use lib.Dec.{eqb, ltb}
use lib.ListN.{get_or}
use borrow.Author.Tests.{eqb-true}
use borrow.Table.Steps.{cases}
use Rattle.base_queue.specs.Tables.{one}
use Rattle.spec_kernel.specs.declared.records.Condition.{Condition}
use Rattle.spec_kernel.specs.declared.records.Condition.TheVariants.{Ready, Asleep, ForSemaphore, ForEvent, ForMessage, ForFlag}
use Rattle.spec_kernel.specs.declared.records.Object.{Object}
use Rattle.spec_kernel.specs.declared.records.Wake.{Wake}
use Rattle.spec_kernel.specs.declared.records.Thread.{Thread}
use Rattle.spec_kernel.specs.declared.records.Semaphore.{Semaphore}
use Rattle.spec_kernel.specs.declared.records.Event.{Event}
use Rattle.spec_kernel.specs.declared.records.Message.{Message}
use Rattle.spec_kernel.specs.Records.{no_thread}
use Rattle.spec_refusals.specs.Refusals.{is}
use Rattle.spec_notes.specs.Rows.{condition_code, thread_code, code_for, full_code, condition_data, wake_code}
use Rattle.spec_notes.specs.Rows.{thread_row, condition_from, wake_from, thread_from}
use Rattle.spec_notes.specs.Rows.{semaphore_row, semaphore_from, event_row, event_from, message_row, message_from}
use Rattle.spec_notes.specs.Touched.{same_row, same_thread, same_semaphore, same_event, same_message}

-- ---- a field
code_live : (c : Condition) → not (eqb (condition_code c) 0) ≡ true
code_live Ready = refl
code_live Asleep = refl
code_live (ForSemaphore i) = refl
code_live (ForEvent i) = refl
code_live (ForMessage mask) = refl
code_live (ForFlag i) = refl

-- the object's id is a byte
abbrev pub ByteId : Condition → Type 0
ByteId Ready = Unit {0}
ByteId Asleep = Unit {0}
ByteId (ForSemaphore i) = i < 256
ByteId (ForEvent i) = i < 256
ByteId (ForMessage mask) = Unit {0}
ByteId (ForFlag i) = i < 256

condition_back : (c : Condition) → ByteId c → condition_from (condition_code c) (condition_data c) ≡ c
unfolding condition_from
condition_back Ready h = refl
condition_back Asleep h = refl
condition_back (ForSemaphore i) h = rw (mod-eq_of_lt h)
condition_back (ForEvent i) h = rw (mod-eq_of_lt h)
condition_back (ForMessage mask) h = refl
condition_back (ForFlag i) h = rw (mod-eq_of_lt h)

-- the same for an id of any size
abbrev any_condition : ℕ → ℕ → Condition
any_condition code what =
    cond (eqb code 2) Asleep
    (cond (eqb code 3) (ForSemaphore what)
    (cond (eqb code 4) (ForEvent what) (cond (eqb code 5) (ForMessage what) (cond (eqb code 6) (ForFlag what) Ready))))

any_back : (c : Condition) → any_condition (condition_code c) (condition_data c) ≡ c
any_back Ready = refl
any_back Asleep = refl
any_back (ForSemaphore i) = refl
any_back (ForEvent i) = refl
any_back (ForMessage mask) = refl
any_back (ForFlag i) = refl

wake_back : (w : Wake) → wake_from (wake_code w) ≡ w
unfolding wake_from
wake_back Wake.None = refl
wake_back Wake.Met = refl
wake_back (Wake.TimedOut Object.Semaphore) = refl
wake_back (Wake.TimedOut Object.Event) = refl
wake_back (Wake.TimedOut Object.Flag) = refl
wake_back (Wake.TimedOut Object.Message) = refl

flag_back : (b : Bool) → not (eqb (one b) 0) ≡ b
flag_back true = refl
flag_back false = refl

pub flag_below : (b : Bool) → one b < 256
flag_below true = omega arith
flag_below false = omega arith

-- ---- a record
-- every field of a thread that isn't live is 0
abbrev pub Dead : Thread → Type 0
Dead r = r.live ≡ false → r ≡ no_thread

-- the thread of a row, by what its code and data say of its condition
abbrev thread_by : (ℕ → ℕ → Condition) → ℕ → List ℕ → Thread
thread_by condition code row =
    record {
      live = not (eqb code 0);
      priority = get_or row 0 0;
      first = get_or row 1 0;
      condition = condition code (get_or row 2 0);
      ticks = get_or row 3 0;
      wake = wake_from (get_or row 4 0);
      reply = get_or row 5 0;
    }

by_back : (f : ℕ → ℕ → Condition) → f 0 0 ≡ Ready → (r : Thread) (place due : ℕ) → Dead r
    → f (condition_code r.condition) (condition_data r.condition) ≡ r.condition → thread_by f (thread_code r) (thread_row r place due) ≡ r
unfolding wake_from
by_back f z r place due D b =
    cases r.live
    (λ e. let l : not (eqb (thread_code r) 0) ≡ r.live = rw e (code_live r.condition) in
    let c : f (thread_code r) (condition_data r.condition) ≡ r.condition = rw e b in
    λ i. record {
      live = l i;
      priority = r.priority;
      first = r.first;
      condition = c i;
      ticks = r.ticks;
      wake = wake_back r.wake i;
      reply = r.reply;
    })
    (λ e. rw (D e, z))

-- the thread of its full code and its row
abbrev condition_part : ℕ → ℕ
condition_part code = cond (ltb code 7) code (code - 6)

abbrev full_thread : List ℕ → Thread
full_thread row =
    record {
      live = ltb (get_or row 0 0) 7;
      priority = get_or row 1 0;
      first = get_or row 2 0;
      condition = any_condition (condition_part (get_or row 0 0)) (get_or row 3 0);
      ticks = get_or row 4 0;
      wake = wake_from (get_or row 5 0);
      reply = get_or row 6 0;
    }

code_back : (live : Bool) (c : Condition)
    → (ltb (code_for live c) 7 ≡ live) × (any_condition (condition_part (code_for live c)) (condition_data c) ≡ c)
code_back true Ready = (refl, refl)
code_back true Asleep = (refl, refl)
code_back true (ForSemaphore i) = (refl, refl)
code_back true (ForEvent i) = (refl, refl)
code_back true (ForMessage mask) = (refl, refl)
code_back true (ForFlag i) = (refl, refl)
code_back false Ready = (refl, refl)
code_back false Asleep = (refl, refl)
code_back false (ForSemaphore i) = (refl, refl)
code_back false (ForEvent i) = (refl, refl)
code_back false (ForMessage mask) = (refl, refl)
code_back false (ForFlag i) = (refl, refl)

-- one full code has one code
shown : (live : Bool) (c : Condition) → cond live (condition_code c) 0 ≡ cond (ltb (code_for live c) 7) (code_for live c) 0
shown true c = rw (code_back true c).0
shown false c = rw (code_back false c).0

pub full_code_lem : (r s : Thread) → full_code r ≡ full_code s → thread_code r ≡ thread_code s
full_code_lem r s e =
    shown r.live r.condition ∙ ap (λ (n : ℕ). cond (ltb n 7) n 0) e ∙ sym (shown s.live s.condition)

full_back : (r : Thread) → full_thread (full_code r ∷ thread_row r 0 0) ≡ r
full_back r =
    let (live, condition) = code_back r.live r.condition in
    let wake = wake_back r.wake in
    λ i. record {
      live = live i;
      priority = r.priority;
      first = r.first;
      condition = condition i;
      ticks = r.ticks;
      wake = wake i;
      reply = r.reply;
    }

pub thread_back_lem : (r : Thread) (place due : ℕ) → Dead r → ByteId r.condition → thread_from (thread_code r) (thread_row r place due) ≡ r
unfolding thread_from condition_from
thread_back_lem r place due D b = by_back condition_from refl r place due D (condition_back r.condition b)

pub semaphore_back : (r : Semaphore) → semaphore_from (semaphore_row r) ≡ r
unfolding semaphore_from
semaphore_back r =
    λ i. record { live = flag_back r.live i; count = r.count; maximum = r.maximum; ticks = r.ticks; period = r.period }

pub event_back : (r : Event) → event_from (event_row r) ≡ r
unfolding event_from
event_back r = λ i. record { any = flag_back r.any i; mask = r.mask; values = r.values }

pub message_back_lem : (r : Message) (place : ℕ) → message_from (message_row r place) ≡ r
unfolding message_from
message_back_lem r place =
    λ i. record {
      live = flag_back r.live i;
      owner = r.owner;
      sender = r.sender;
      kind = r.kind;
      size = r.size;
      address = r.address;
      channel = r.channel;
    }

-- ---- the same
pub same_row_lem : (xs ys : List ℕ) → same_row xs ys ≡ true → xs ≡ ys
same_row_lem [] [] h = refl
same_row_lem [] (y ∷ ys) h = absurd (false≢true h)
same_row_lem (x ∷ xs) [] h = absurd (false≢true h)
same_row_lem (x ∷ xs) (y ∷ ys) h =
    let (e, r) = (and-eq-true_iff (eqb x y) (same_row xs ys)).0 h in rw (eqb-true x y e, same_row_lem xs ys r)

-- records that their rows give back
same_means : {A : Type 0} (row : A → List ℕ) (from : List ℕ → A) {r s : A} → from (row r) ≡ r → from (row s) ≡ s
    → same_row (row r) (row s) ≡ true → r ≡ s
same_means row from {r} {s} p q h = sym p ∙ ap from (same_row_lem (row r) (row s) h) ∙ q

pub same_thread_lem : (r s : Thread) → same_thread r s ≡ true → r ≡ s
unfolding same_thread
same_thread_lem r s h = same_means (λ r. full_code r ∷ thread_row r 0 0) full_thread (full_back r) (full_back s) h

pub same_semaphore_lem : (r s : Semaphore) → same_semaphore r s ≡ true → r ≡ s
unfolding same_semaphore
same_semaphore_lem r s h = same_means semaphore_row semaphore_from (semaphore_back r) (semaphore_back s) h

pub same_event_lem : (r s : Event) → same_event r s ≡ true → r ≡ s
unfolding same_event
same_event_lem r s h = same_means event_row event_from (event_back r) (event_back s) h

pub same_message_lem : (r s : Message) → same_message r s ≡ true → r ≡ s
unfolding same_message
same_message_lem r s h = same_means (λ r. message_row r 0) message_from (message_back_lem r 0) (message_back_lem s 0) h
