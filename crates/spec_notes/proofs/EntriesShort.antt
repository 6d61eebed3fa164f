-- How long the sections of a note can be, whatever the states.
use Prim.Native.Nat.{ℕ, zero, suc, ◌+◌, ◌*◌, ◌≤◌, ◌<◌}
use mathlib.Core.Path.{◌≡◌, refl}
use mathlib.Core.Bool.{Bool, true, false, cond}
use mathlib.Core.List.{List, [], ◌∷◌}
use native.Mathlib.Nat.{mul-suc, mul-add, mul-zero, mul-one, zero-mul}
use native.Mathlib.Omega.{arith}
use lib.Dec.{eqb}
use lib.ListN.{length, length-append}
use borrow.Author.Tests.{eq-eqb}
use borrow.Table.Steps.{cases}
use Rattle.base_queue.specs.Tables.{one}
use Rattle.base_rows.specs.Rows.{body_of, sum}
use Rattle.base_rows.specs.Entries.{entry_of}
use Rattle.base_rows.proofs.Codec.{body_short}
use Rattle.base_rows.proofs.EntriesRead.{unless_short, tail_short, fields_short}
use Rattle.spec_kernel.specs.declared.records.Thread.{Thread}
use Rattle.spec_kernel.specs.declared.records.Semaphore.{Semaphore}
use Rattle.spec_kernel.specs.declared.records.Event.{Event}
use Rattle.spec_kernel.specs.declared.records.Message.{Message}
use Rattle.spec_kernel.specs.declared.records.Kernel.{Kernel}
use Rattle.spec_kernel.specs.Sizes.{thread_count, semaphore_count, event_count, message_count}
use Rattle.spec_moves.specs.declared.parts.Threads.{Threads}
use Rattle.spec_moves.specs.declared.parts.Posts.{Posts}
use Rattle.spec_moves.specs.Moves.{thread_in}
use Rattle.spec_moves.specs.Standing.{threads_of, posts_of, message_in}
use Rattle.spec_calls.specs.declared.call.Call.{Call}
use Rattle.spec_refusals.specs.Refusals.{is}
use Rattle.spec_notes.specs.Rows.{thread_code, thread_widths, semaphore_widths, event_widths, message_widths, scheduler_widths}
use Rattle.spec_notes.specs.Predicted.{predicted_message, predicted_flags}
use Rattle.spec_notes.specs.Sections.{entries_from, thread_entry, thread_entries, threads_section, semaphore_entry, semaphore_entries}
use Rattle.spec_notes.specs.Sections.{semaphores_section, event_entry, event_entries, bit_noted, events_section, message_entry}
use Rattle.spec_notes.specs.Sections.{flags_noted, flags_section, message_entries, messages_section, levels_noted, scheduler_section}
use Rattle.spec_notes.proofs.Counting.{count_from}

-- ---- entries
module _ (touched differs : ℕ → Bool) (entry : ℕ → List ℕ) (w : ℕ) where
  -- each takes w bytes where it differs, and v besides
  pub entries_short : (v : ℕ) → ((i : ℕ) → touched i ≡ true → length (entry i) ≤ w * one (differs i) + v)
      → (i n : ℕ) → length (entries_from touched entry i n) ≤ w * count_from differs i n + v * n
  entries_short v h i zero = omega arith
  entries_short v h i (suc n) =
      let r = entries_short v h (suc i) n in
      rw (mul-add w (one (differs i)) (count_from differs (suc i) n), mul-suc v n)
      (cases (touched i) (λ e. rw (e, length-append) (omega (arith, h i e))) (λ e. rw e (omega arith)))

  -- each takes w bytes, and who doesn't differ is x
  module _ (h : (i : ℕ) → touched i ≡ true → length (entry i) ≤ w) (x : ℕ)
      (only : (i : ℕ) → touched i ≡ true → differs i ≡ false → i ≡ x) where
    entries_either : (i n : ℕ) → (x < i → length (entries_from touched entry i n) ≤ w * count_from differs i n)
        × (length (entries_from touched entry i n) ≤ w * count_from differs i n + w)
    entries_either i zero = (λ _. omega arith, omega arith)
    entries_either i (suc n) =
        let (late, any) = entries_either (suc i) n in
        rw (mul-add w (one (differs i)) (count_from differs (suc i) n))
        (cases (touched i)
        (λ e. let s = h i e in
        rw (e, length-append)
        (cases (differs i) (λ d. rw (d, mul-one) (λ b. omega (arith, late (omega arith)), omega arith))
        (λ d. let z = only i e d in rw (d, mul-zero) (λ b. absurd (omega arith), omega (arith, late (omega arith))))))
        (λ e. rw e (λ b. omega (arith, late (omega arith)), omega arith)))

    pub entries_but_one : (i n : ℕ) → length (entries_from touched entry i n) ≤ w * count_from differs i n + w
    entries_but_one i n = (entries_either i n).1

-- nobody is touched
pub entries_none : (touched : ℕ → Bool) (entry : ℕ → List ℕ) (i n : ℕ) → ((j : ℕ) → i ≤ j → j < i + n → touched j ≡ true → ⊥)
    → entries_from touched entry i n ≡ []
entries_none touched entry i zero h = refl
entries_none touched entry i (suc n) h =
    let r = entries_none touched entry (suc i) n (λ j a b. h j (omega arith) (omega arith)) in
    cases (touched i) (λ e. absurd (h i (omega arith) (omega arith) e)) (λ e. rw e r)

-- none passes
pub count_none : (i n : ℕ) → count_from (λ _. false) i n ≡ 0
count_none i zero = refl
count_none i (suc n) = rw (count_none (suc i) n)

-- v bytes each
entries_each : (touched : ℕ → Bool) (entry : ℕ → List ℕ) (v : ℕ) → ((i : ℕ) → length (entry i) ≤ v)
    → (i n : ℕ) → length (entries_from touched entry i n) ≤ v * n
entries_each touched entry v h i n =
    let s = entries_short touched (λ _. false) entry 0 v (λ i _. omega (arith, h i)) i n in
    let z = zero-mul (count_from (λ _. false) i n) in
    omega arith

-- ---- one entry
-- the first field is as predicted
body_first : (w o p : ℕ) (ws os ps : List ℕ) → o ≡ p → length (body_of (w ∷ ws) (o ∷ os) (p ∷ ps)) ≤ sum ws
unfolding body_of
body_first w o p ws os ps e = rw (eq-eqb o p e) (body_short ws os ps)

-- the fields of a thread
widths_twelve : (code : ℕ) → sum (thread_widths code) ≤ 12
unfolding sum
widths_twelve code = cases (eqb code 5) (λ e. rw e (omega arith)) (λ e. rw e (omega arith))

-- with a code, and without one
entry_three : (n : ℕ) (ws : List ℕ) (id code told : ℕ) (os ps : List ℕ) → 3 + sum ws ≤ n → length (entry_of ws id code told os ps) ≤ n
entry_three n ws id code told os ps h = omega (arith, tail_short ws code told os ps)

pub entry_two : (m : ℕ) (ws : List ℕ) (id : ℕ) (os ps : List ℕ) → length (body_of ws os ps) ≤ m → length (entry_of ws id 0 0 os ps) ≤ 2 + m
entry_two m ws id os ps h = omega (arith, fields_short ws os ps m h)

module _ (c : Call) where
  module _ (old : Threads) (new : List Thread) where
    pub thread_entry_lem : (t : ℕ) → length (thread_entry c old new t) ≤ 15
    unfolding sum
    thread_entry_lem t = entry_three 15 _ t _ _ _ _ (omega (arith, widths_twelve (thread_code (thread_in old t))))

    pub threads_run : (runner i n : ℕ) → length (thread_entries c runner old new i n) ≤ 15 * n
    threads_run runner = entries_each _ (thread_entry c old new) 15 thread_entry_lem

  module _ (old new : List Semaphore) where
    pub semaphore_entry_lem : (i : ℕ) → length (semaphore_entry c old new i) ≤ 15
    unfolding sum
    semaphore_entry_lem i = entry_two 13 semaphore_widths i _ _ (body_short semaphore_widths _ _)

    pub semaphores_run : (i n : ℕ) → length (semaphore_entries c old new i n) ≤ 15 * n
    semaphores_run = entries_each _ (semaphore_entry c old new) 15 semaphore_entry_lem

  module _ (runner : ℕ) (old : Posts) (new : List Message) where
    message_entry_lem : (m : ℕ) → length (message_entry c runner old new m) ≤ 17
    unfolding sum
    message_entry_lem m = entry_two 15 message_widths m _ _ (body_short message_widths _ _)

    -- with `live` as predicted
    pub message_entry_live : (m : ℕ) → one (message_in old m).live ≡ cond (is c 24) 0 1 → length (message_entry c runner old new m) ≤ 16
    unfolding predicted_message sum
    message_entry_live m e = entry_two 14 message_widths m _ _ (body_first 1 _ _ (1 ∷ 1 ∷ 2 ∷ 4 ∷ 4 ∷ 1 ∷ 1 ∷ []) _ _ e)

    pub messages_run : (i n : ℕ) → length (message_entries c runner old new i n) ≤ 17 * n
    messages_run = entries_each _ (message_entry c runner old new) 17 message_entry_lem

  -- ---- the levels and the runner
  pub levels_short : (u r t u' r' t' : ℕ) → length (levels_noted c u r t u' r' t') ≤ 4
  unfolding sum
  levels_short u r t u' r' t' = unless_short scheduler_widths _ _ 3 (body_short scheduler_widths _ _)

module _ (old new : List Event) where
  pub event_entry_lem : (i : ℕ) → length (event_entry old new i) ≤ 11
  unfolding sum
  event_entry_lem i = entry_two 9 event_widths i _ _ (body_short event_widths _ _)

  pub events_run : (i n : ℕ) → length (event_entries old new i n) ≤ 11 * n
  events_run = entries_each _ (event_entry old new) 11 event_entry_lem

pub bit_short : (old new : ℕ) → length (bit_noted old new) ≤ 1
bit_short old new = cases (eqb old new) (λ e. rw e (omega arith)) (λ e. rw e (omega arith))

pub flags_short : (old predicted : ℕ) → length (flags_noted old predicted) ≤ 1
flags_short old predicted = cases (eqb old predicted) (λ e. rw e (omega arith)) (λ e. rw e (omega arith))

-- ---- a section
module _ (k : Kernel) (c : Call) (k' : Kernel) where
  pub scheduler_short : length (scheduler_section k c k') ≤ 4
  unfolding scheduler_section
  scheduler_short = levels_short c _ _ _ _ _ _

  pub threads_below : length (threads_section k c k') ≤ 15 * thread_count
  unfolding threads_section
  threads_below = threads_run c (threads_of k) k'.threads k.runner 0 thread_count

  pub semaphores_below : length (semaphores_section k c k') ≤ 15 * semaphore_count
  unfolding semaphores_section
  semaphores_below = semaphores_run c k.semaphores k'.semaphores 0 semaphore_count

  pub events_below : length (events_section k c k') ≤ 1 + 11 * event_count
  unfolding events_section
  events_below =
      rw length-append (omega (arith, bit_short k.bits k'.bits, events_run k.events k'.events 0 event_count))

  pub flags_below : length (flags_section k c k') ≤ 1
  unfolding flags_section
  flags_below = flags_short k.flags (predicted_flags c k'.flags)

  pub messages_below : length (messages_section k c k') ≤ 17 * message_count
  unfolding messages_section
  messages_below = messages_run c k'.runner (posts_of k) k'.messages 0 message_count
