-- The note of an accepted call has at most 96 + 24 T + 16 S + 16 M + 8 F bytes.
use Prim.Native.Nat.{ℕ, ◌+◌, ◌-◌, ◌*◌, ◌≤◌, ◌<◌}
use mathlib.Core.Path.{◌≡◌, refl, sym, ap, ◌∙◌}
use mathlib.Core.Bool.{Bool, true, false, cond, not, ◌&&◌, and-false, or-false, false≢true, and-eq-true_iff}
use mathlib.Core.List.{List, [], ◌∷◌}
use native.Mathlib.Nat.{zero-mul, mul-one}
use native.Mathlib.Omega.{arith}
use lib.Dec.{eqb, ltb}
use lib.ListN.{length, get_or, length-append}
use borrow.Author.Tests.{eqb-true, eq-eqb, le-ltb, not-false}
use borrow.Table.Steps.{cases}
use Rattle.base_queue.specs.Tables.{one}
use Rattle.base_queue.proofs.Counts.{same}
use Rattle.base_rows.specs.Rows.{body_of}
use Rattle.base_bytes.proofs.Numbers.{length_le}
use Rattle.spec_kernel.specs.declared.records.Thread.{Thread}
use Rattle.spec_kernel.specs.declared.records.Semaphore.{Semaphore}
use Rattle.spec_kernel.specs.declared.records.Kernel.{Kernel}
use Rattle.spec_kernel.specs.Sizes.{thread_count, semaphore_count, event_count, message_count}
use Rattle.spec_kernel.specs.Records.{thread, semaphore, message}
use Rattle.spec_rules.specs.Rules.{Sized, Rules}
use Rattle.spec_calls.specs.declared.call.Call.{Call}
use Rattle.spec_calls.specs.Calls.{call_of}
use Rattle.spec_refusals.specs.Refusals.{is, is_one_of, number_of}
use Rattle.spec_moves.specs.Standing.{threads_of, posts_of}
use Rattle.spec_moves.specs.States.{scheduled}
use Rattle.spec_time.specs.Time.{tick}
use Rattle.spec_effects.specs.Effects.{nothing, effects_of_kinds, effect}
use Rattle.proof_rules.proofs.Core.{live_semaphore}
use Rattle.proof_rules.proofs.Ends.{Before, before}
use Rattle.proof_rules.proofs.Accepted.{accepted}
use Rattle.spec_effects.proofs.RulesKept.{rules_kept}
use Rattle.spec_notes.specs.Rows.{full_code, thread_row, semaphore_row, semaphore_widths}
use Rattle.spec_notes.specs.Touched.{same_thread, same_semaphore, younger_thread, count_before_pulse, ticks_before_pulse}
use Rattle.spec_notes.specs.Touched.{younger_semaphore, moves_in_place}
use Rattle.spec_notes.specs.Touched.{touched_thread, touched_semaphore, touched_event, touched_message}
use Rattle.spec_notes.specs.Predicted.{predicted_semaphore}
use Rattle.spec_notes.specs.Sections.{entries_from, thread_entry, semaphore_entry, event_entry, event_entries, message_entry}
use Rattle.spec_notes.specs.Sections.{scheduler_section, threads_section, semaphores_section, events_section, flags_section}
use Rattle.spec_notes.specs.Sections.{messages_section}
use Rattle.spec_notes.specs.Notes.{before_length, note_of, least_note}
use Rattle.spec_notes.specs.Counts.{most_bytes}
use Rattle.spec_notes.proofs.RecordsBack.{same_thread_lem, same_semaphore_lem}
use Rattle.spec_notes.proofs.Counting.{count_from, same_message_record, threads_differ, semaphores_differ, messages_differ, flags_differ}
use Rattle.spec_notes.proofs.EntriesShort.{entries_short, entries_but_one, count_none}
use Rattle.spec_notes.proofs.EntriesShort.{thread_entry_lem, semaphore_entry_lem, event_entry_lem, message_entry_live, bit_short}
use Rattle.spec_notes.proofs.EntriesShort.{entry_two, scheduler_short, flags_below}
use Rattle.spec_notes.proofs.Slight.{Slight, row_same, effect_slight}
use Rattle.spec_notes.proofs.TickSlight.{Aged, tick_threads, tick_semaphores}

-- ---- records that stay
pub thread_same : (r : Thread) → same_thread r r ≡ true
unfolding same_thread
thread_same r = rw (same (full_code r), row_same (thread_row r 0 0))

pub semaphore_same : (r : Semaphore) → same_semaphore r r ≡ true
unfolding same_semaphore
semaphore_same r = row_same (semaphore_row r)

-- without a tick, and without ticks, nobody was younger
pub younger_now : (c : Call) (r : Thread) → is c 1 ≡ false → younger_thread c r ≡ r
unfolding younger_thread
younger_now c r o = rw o

younger_still : (c : Call) (r : Thread) → r.ticks ≡ 0 → younger_thread c r ≡ r
unfolding younger_thread
younger_still c r e = let z : ltb 0 r.ticks ≡ false = le-ltb 0 r.ticks (omega arith) in rw (z, and-false)

pub semaphore_now : (c : Call) (r : Semaphore) → is c 1 ≡ false → younger_semaphore c r ≡ r
unfolding younger_semaphore
semaphore_now c r o = rw o

semaphore_still : (c : Call) (r : Semaphore) → r.period ≡ 0 → younger_semaphore c r ≡ r
unfolding younger_semaphore
semaphore_still c r e = let z : ltb 0 r.period ≡ false = le-ltb 0 r.period (omega arith) in rw (z, and-false)

-- a full one that a tick posts each time is as it was
ages_to_itself : (b : Bool) (r : Semaphore) (n t : ℕ) → n ≡ r.count → t ≡ r.ticks
    → record {
      live = r.live;
      count = cond b n r.count;
      maximum = r.maximum;
      ticks = cond b t r.ticks;
      period = r.period;
    }
    ≡ r
ages_to_itself true r n t e f = rw (e, f)
ages_to_itself false r n t e f = refl

semaphore_full : (c : Call) (r : Semaphore) → r.ticks ≡ 1 → r.period ≡ 1 → eqb r.count r.maximum ≡ true → younger_semaphore c r ≡ r
unfolding younger_semaphore
semaphore_full c r t p f =
    let e = eq-eqb r.ticks r.period (t ∙ sym p) in
    ages_to_itself (is c 1 && ltb 0 r.period) r (count_before_pulse r) (ticks_before_pulse r) (rw (e, f)) (rw e (sym t))

-- only one moves in place
pub moves_which : (runner : ℕ) (c : Call) (t : ℕ) → moves_in_place runner c t ≡ true → t ≡ cond (is c 6) runner c.a
moves_which runner c t h =
    cases (is c 6)
    (λ e. let z = eqb-true c.kind 6 e in rw e (eqb-true t runner (simp (z, or-false) at h)))
    (λ e. rw e (eqb-true t c.a ((and-eq-true_iff (is_one_of c (4 ∷ 5 ∷ [])) (eqb t c.a)).0 (rw e at h)).1))

-- ---- entries of those that differ
entries_all : (touched differs : ℕ → Bool) (entry : ℕ → List ℕ) (w : ℕ) → ((i : ℕ) → length (entry i) ≤ w)
    → ((i : ℕ) → touched i ≡ true → differs i ≡ true) → (i n : ℕ) → length (entries_from touched entry i n) ≤ w * count_from differs i n
entries_all touched differs entry w h d i n =
    let s = entries_short touched differs entry w 0 (λ j t. let b = h j in rw (d j t, mul-one) (omega arith)) i n in
    let z = zero-mul n in
    omega arith

-- as predicted, no bytes
body_same : (ws os : List ℕ) → body_of ws os os ≡ []
unfolding body_of
body_same [] os = refl
body_same (w ∷ ws) [] = refl
body_same (w ∷ ws) (o ∷ os) = rw (same o, body_same ws os)

-- ---- the sections
module _ (k : Kernel) (c : Call) (k' : Kernel) where
  abbrev thread_differs : ℕ → Bool
  thread_differs t = not (same_thread (thread k t) (thread k' t))

  abbrev semaphore_differs : ℕ → Bool
  semaphore_differs i = not (same_semaphore (semaphore k i) (semaphore k' i))

  abbrev message_differs : ℕ → Bool
  message_differs m = not (same_message_record (message k m) (message k' m))

  module _ (L : Slight k c k') where
    events_one : (n : ℕ) → length (event_entries k.events k'.events 0 n) ≤ 11
    unfolding touched_event
    events_one n =
        let s : length (event_entries k.events k'.events 0 n) ≤ 11 * count_from (λ _. false) 0 n + 11 =
        entries_but_one (touched_event k c k') (λ _. false) (event_entry k.events k'.events) 11 (λ i _. event_entry_lem k.events k'.events i)
        c.a (λ i t _. L.events i t) 0 n in
        let z = count_none 0 n in
        omega arith

    events_short : length (events_section k c k') ≤ 12
    unfolding events_section
    events_short = rw length-append (omega (arith, bit_short k.bits k'.bits, events_one event_count))

    messages_short : length (messages_section k c k') ≤ 16 * messages_differ k k' + 16
    unfolding messages_section messages_differ touched_message
    messages_short =
        entries_but_one (touched_message k c k') message_differs (message_entry c k'.runner (posts_of k) k'.messages) 16
        (λ m t. message_entry_live c k'.runner (posts_of k) k'.messages m (L.lives m t))
        L.which (λ m t d. L.alike m t (not-false _ d)) 0 message_count

  -- ---- any call but the tick
  module _ (o : is c 1 ≡ false) where
    thread_moves : (t : ℕ) → touched_thread k c k' t ≡ true → thread_differs t ≡ false → t ≡ cond (is c 6) k.runner c.a
    unfolding touched_thread
    thread_moves t h d = moves_which k.runner c t (rw (younger_now c (thread k' t) o, d) at h)

    threads_called : length (threads_section k c k') ≤ 15 * threads_differ k k' + 15
    unfolding threads_section threads_differ touched_thread
    threads_called =
        entries_but_one (touched_thread k c k') thread_differs (thread_entry c (threads_of k) k'.threads) 15
        (λ t _. thread_entry_lem c (threads_of k) k'.threads t)
        (cond (is c 6) k.runner c.a) thread_moves 0 thread_count

    semaphore_differs_lem : (i : ℕ) → touched_semaphore k c k' i ≡ true → semaphore_differs i ≡ true
    unfolding touched_semaphore
    semaphore_differs_lem i h = rw (semaphore_now c (semaphore k' i) o) at h

    semaphores_called : length (semaphores_section k c k') ≤ 15 * semaphores_differ k k'
    unfolding semaphores_section semaphores_differ touched_semaphore
    semaphores_called =
        entries_all (touched_semaphore k c k') semaphore_differs (semaphore_entry c k.semaphores k'.semaphores) 15
        (semaphore_entry_lem c k.semaphores k'.semaphores) semaphore_differs_lem 0 semaphore_count

  -- ---- the tick
  module _ (B : Before k) (B' : Before k') (e : c.kind ≡ 1) where
    module _ (less : (t : ℕ) → (thread k' t).ticks ≤ (thread k t).ticks - 1) where
      thread_differs_lem : (t : ℕ) → touched_thread k c k' t ≡ true → thread_differs t ≡ true
      unfolding touched_thread
      thread_differs_lem t h =
          let r = thread k t in
          cases (same_thread r (thread k' t))
          (λ s. let z = same_thread_lem r (thread k' t) s in
          let d : r.ticks ≡ 0 = let q = ap (λ (x : Thread). x.ticks) z in omega (arith, less t) in
          absurd (false≢true (simp (← z, younger_still c r d, thread_same r, e) at h)))
          (λ s. rw s)

      threads_tick : length (threads_section k c k') ≤ 15 * threads_differ k k'
      unfolding threads_section threads_differ touched_thread
      threads_tick =
          entries_all (touched_thread k c k') thread_differs (thread_entry c (threads_of k) k'.threads) 15
          (thread_entry_lem c (threads_of k) k'.threads) thread_differs_lem 0 thread_count

    module _ (aged : (i : ℕ) → i < semaphore_count → Aged (semaphore k i) (semaphore k' i)) where
      -- whose record is the same had one tick left and isn't full, as predicted
      semaphore_predicted : (i : ℕ) → touched_semaphore k c k' i ≡ true → same_semaphore (semaphore k i) (semaphore k' i) ≡ true
          → predicted_semaphore c (semaphore k' i) ≡ semaphore_row (semaphore k i)
      unfolding touched_semaphore predicted_semaphore
      semaphore_predicted i h s =
          let r = semaphore k i in
          let z : semaphore k' i ≡ r = sym (same_semaphore_lem r (semaphore k' i) s) in
          let p : r.period ≡ 0 → ⊥ =
          λ q. false≢true (rw (z, semaphore_still c r q, semaphore_same r) at h) in
          let l : r.live ≡ true =
          cases r.live (λ l. l) (λ l. absurd (p (ap (λ (x : Semaphore). x.period) ((B.core.semaphores i).gone l)))) in
          let b = ((B.core.semaphores i).living l).ticks.1 (omega (arith, p)) in
          let (one_left, one-period) = aged i (live_semaphore B.core i l) p b (ap (λ (x : Semaphore). x.ticks) z) in
          cases (eqb r.count r.maximum)
          (λ f. absurd (false≢true (rw (z, semaphore_full c r one_left one-period f, semaphore_same r) at h)))
          (λ f. rw (z, e, l, one_left, f))

      semaphore_two : (i : ℕ) → touched_semaphore k c k' i ≡ true
          → length (semaphore_entry c k.semaphores k'.semaphores i) ≤ 13 * one (semaphore_differs i) + 2
      semaphore_two i h =
          cases (same_semaphore (semaphore k i) (semaphore k' i))
          (λ s. rw (s, semaphore_predicted i h s)
          (entry_two 0 semaphore_widths i _ _ (rw (body_same semaphore_widths (semaphore_row (semaphore k i))) (omega arith))))
          (λ s. rw s (semaphore_entry_lem c k.semaphores k'.semaphores i))

      semaphores_tick : length (semaphores_section k c k') ≤ 13 * semaphores_differ k k' + 32
      unfolding semaphores_section semaphores_differ touched_semaphore
      semaphores_tick =
          entries_short (touched_semaphore k c k') semaphore_differs (semaphore_entry c k.semaphores k'.semaphores) 13 2 semaphore_two 0
          semaphore_count

-- ---- the note
module _ (k : Kernel) (bytes : List ℕ) (k' : Kernel) where
  pub note_length : length bytes ≡ 16
      → length (note_of k bytes k')
      ≡ least_note + length (scheduler_section k (call_of bytes) k') + length (threads_section k (call_of bytes) k')
      + length (semaphores_section k (call_of bytes) k') + length (events_section k (call_of bytes) k')
      + length (flags_section k (call_of bytes) k') + length (messages_section k (call_of bytes) k')
  unfolding note_of before_length
  note_length e = simp (length-append, length_le) (omega arith)

-- what the scheduler chooses changes no record
scheduled_slight : (k : Kernel) (c : Call) (u : Kernel) → Slight k c u → Slight k c (scheduled u)
unfolding scheduled touched_event touched_message
scheduled_slight k c u L = record { events = L.events; lives = L.lives; which = L.which; alike = L.alike }

module _ (k : Kernel) (c : Call) (S : Before k) (e : c.kind ≡ 1) where
  effect_tick : effect k c ≡ tick k c
  unfolding effect
  effect_tick = ap (λ (n : ℕ). get_or effects_of_kinds n nothing k c) e

  scheduled_threads : (t : ℕ) → (thread (scheduled (effect k c)) t).ticks ≤ (thread k t).ticks - 1
  unfolding scheduled
  scheduled_threads t = rw effect_tick (tick_threads k c S.core.standing t)

  scheduled_semaphores : (i : ℕ) → i < semaphore_count → Aged (semaphore k i) (semaphore (scheduled (effect k c)) i)
  unfolding scheduled
  scheduled_semaphores i b = rw effect_tick (tick_semaphores k c i b)

pub note_short : (k : Kernel) (bytes : List ℕ) → length bytes ≡ 16 → Sized k → Rules k → number_of k (call_of bytes) ≡ 0
    → (let k' = scheduled (effect k (call_of bytes)) in
    length (note_of k bytes k') ≤ most_bytes (threads_differ k k') (semaphores_differ k k') (messages_differ k k') (flags_differ k k'))
note_short k bytes b Z R h =
    let c = call_of bytes in
    let k' : Kernel = scheduled (effect k c) in
    let B = before k Z R in
    let (Z', R') = rules_kept k c Z R h in
    let L = scheduled_slight k c (effect k c) (effect_slight B (accepted k c h)) in
    let whole = note_length k bytes k' b in
    let scheduler = scheduler_short k c k' in
    let events = events_short k c k' L in
    let flags = flags_below k c k' in
    let messages = messages_short k c k' L in
    cases (is c 1)
    (λ o. let e = eqb-true c.kind 1 o in
    let threads = threads_tick k c k' B (before k' Z' R') e (scheduled_threads k c B e) in
    let semaphores = semaphores_tick k c k' B (before k' Z' R') e (scheduled_semaphores k c B e) in
    omega arith)
    (λ o. let threads = threads_called k c k' o in
    let semaphores = semaphores_called k c k' o in
    omega arith)
