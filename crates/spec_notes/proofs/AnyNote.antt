-- Whatever bytes a note holds, the state that is put back has its sizes, and its fields their limits.
use Prim.Native.Nat.{ℕ, zero, suc, ◌≤◌, ◌<◌}
use mathlib.Core.Path.{◌≡◌, refl, ◌∙◌}
use mathlib.Core.Bool.{Bool, true, false, cond, ◌&&◌}
use mathlib.Core.List.{List, [], ◌∷◌, map}
use native.Mathlib.Omega.{arith}
use lib.Dec.{eqb, ltb}
use lib.ListN.{length, get_or, drop, length-set, length-map, length-append, length-replicate, get_or-eq_default}
use borrow.Author.Tests.{ltb-true, ltb-false}
use borrow.Table.Steps.{cases}
use Rattle.base_queue.specs.declared.Queue.{Queue}
use Rattle.base_queue.specs.Lists.{keep}
use Rattle.base_queue.specs.Queues.{capacity, items, pack}
use Rattle.base_rows.specs.Rows.{row_from}
use Rattle.base_rows.specs.Entries.{id_of, fields_from, row_in, own_in}
use Rattle.base_rows.proofs.EntriesRead.{entries_hold, entries_keep}
use Rattle.base_rows.proofs.Fitted.{Bytes, drop_bytes, row_at}
use Rattle.spec_kernel.specs.declared.records.Thread.{Thread}
use Rattle.spec_kernel.specs.declared.records.Semaphore.{Semaphore}
use Rattle.spec_kernel.specs.declared.records.Event.{Event}
use Rattle.spec_kernel.specs.declared.records.Message.{Message}
use Rattle.spec_kernel.specs.Records.{no_thread, no_semaphore, no_event, no_message}
use Rattle.spec_calls.specs.declared.call.Call.{Call}
use Rattle.spec_refusals.specs.Refusals.{is}
use Rattle.spec_notes.specs.Rows.{thread_from, thread_widths, semaphore_from, semaphore_widths}
use Rattle.spec_notes.specs.Rows.{event_from, event_widths, message_from, message_widths}
use Rattle.spec_notes.specs.Touched.{one_tick_more, younger_thread, ticks_before_pulse, younger_semaphore}
use Rattle.spec_notes.specs.Predicted.{was_blocked, predicted_thread, predicted_semaphore, predicted_event, predicted_message}
use Rattle.spec_notes.specs.Back.{fill_place, merge, put_back_all, Threading}
use Rattle.spec_notes.specs.Back.{thread_own, thread_read, threads_before, semaphore_read, semaphores_before}
use Rattle.spec_notes.specs.Back.{event_read, bit_changed, events_before, Filing, message_read, messages_before}
use Rattle.spec_notes.proofs.EntriesBack.{get_or_map}
use Rattle.spec_notes.proofs.Limits.{SmallSemaphore, SmallEvent, set_all}

either_below : (b : Bool) (x y n : ℕ) → x < n → y < n → cond b x y < n
either_below true x y n p q = p
either_below false x y n p q = q

-- ---- threads: ticks and priority
abbrev FineThread : Thread → Type 0
FineThread r = (r.ticks < 4294967296) × (r.priority < 256)

more_small : (n : ℕ) → n < 4294967296 → one_tick_more n < 4294967296
more_small n b = cases (ltb n 4294967295) (λ e. rw e (omega (arith, ltb-true n 4294967295 e))) (λ e. rw e b)

module _ (c : Call) where
  thread_read_lem : (r : Thread) → FineThread r → (code flags : ℕ) (s : List ℕ) → Bytes s
      → FineThread (thread_from code (row_from (thread_widths code) flags (predicted_thread c r code) s))
  unfolding thread_from predicted_thread
  thread_read_lem r (t, p) code flags s h = (
    row_at (thread_widths code) flags _ s h 3
        (either_below (was_blocked code) _ _ _ (either_below (is c 1) _ _ _ (omega arith) t) (omega arith)),
    row_at (thread_widths code) flags _ s h 0 (either_below (eqb code 0) _ _ _ (omega arith) p),
  )

  thread_younger : (r : Thread) → FineThread r → FineThread (younger_thread c r)
  unfolding younger_thread
  thread_younger r (t, p) = (either_below (is c 1 && ltb 0 r.ticks) _ _ _ (more_small r.ticks t) t, p)

  module _ (new : List Thread) (F : (t : ℕ) → FineThread (get_or new t no_thread)) where
    threads_fine : (h : ℕ) (s : List ℕ) (a : Threading) → Bytes s → ((t : ℕ) → FineThread (get_or a.threads t no_thread))
        → (t : ℕ) → FineThread (get_or (thread_read c new h s a).threads t no_thread)
    unfolding thread_read row_in
    threads_fine h s a b =
        set_all FineThread a.threads (id_of h) _ no_thread
        (thread_read_lem (get_or new (id_of h) no_thread) (F (id_of h)) _ _ _ (drop_bytes (fields_from h) s b))

    threads_count : (n h : ℕ) (s : List ℕ) (a : Threading) → length a.threads ≡ n → length (thread_read c new h s a).threads ≡ n
    unfolding thread_read
    threads_count n h s a e = length-set a.threads (id_of h) _ ∙ e

    pub threads_any : (s : List ℕ) → Bytes s → (t : ℕ) → FineThread (get_or (threads_before c new s).threads t no_thread)
    unfolding threads_before
    threads_any s h =
        entries_keep (thread_own c new) (thread_read c new) (λ a. (t : ℕ) → FineThread (get_or a.threads t no_thread)) threads_fine
        (length s) s _ h
        (λ t. cases (ltb t (length new))
        (λ e. rw (get_or_map (younger_thread c) new t no_thread (ltb-true t (length new) e)) (thread_younger _ (F t)))
        (λ e. let b : length (map (younger_thread c) new) ≤ t = rw length-map (ltb-false t (length new) e) in
        rw (get_or-eq_default (map (younger_thread c) new) no_thread b) (omega arith)))

    pub threads_sized : (s : List ℕ) → length (threads_before c new s).threads ≡ length new
    unfolding threads_before
    threads_sized s =
        entries_hold (thread_own c new) (thread_read c new) (λ a. length a.threads ≡ length new) (threads_count (length new))
        (length s) s _ (length-map new (younger_thread c))

-- ---- semaphores
module _ (c : Call) where
  semaphore_read_lem : (r : Semaphore) → SmallSemaphore r → (flags : ℕ) (s : List ℕ) → Bytes s
      → SmallSemaphore (semaphore_from (row_from semaphore_widths flags (predicted_semaphore c r) s))
  unfolding semaphore_from predicted_semaphore
  semaphore_read_lem r (m, t, p) flags s h = (
    row_at semaphore_widths flags _ s h 2 (either_below (is c 14) _ _ _ (omega arith) m),
    row_at semaphore_widths flags _ s h 3 (either_below (is c 1) _ _ _ (omega arith) t),
    row_at semaphore_widths flags _ s h 4 p,
  )

  semaphore_younger : (r : Semaphore) → SmallSemaphore r → SmallSemaphore (younger_semaphore c r)
  unfolding younger_semaphore
  semaphore_younger r (m, t, p) =
      let before : ticks_before_pulse r < 4294967296 =
      either_below (eqb r.ticks r.period) 1 (one_tick_more r.ticks) 4294967296 (omega arith) (more_small r.ticks t) in
      (m, either_below (is c 1 && ltb 0 r.period) _ _ _ before t, p)

  module _ (new : List Semaphore) (F : (i : ℕ) → SmallSemaphore (get_or new i no_semaphore)) where
    semaphores_fine : (h : ℕ) (s : List ℕ) (a : List Semaphore) → Bytes s → ((i : ℕ) → SmallSemaphore (get_or a i no_semaphore))
        → (i : ℕ) → SmallSemaphore (get_or (semaphore_read c new h s a) i no_semaphore)
    unfolding semaphore_read row_in
    semaphores_fine h s a b =
        set_all SmallSemaphore a (id_of h) _ no_semaphore
        (semaphore_read_lem (get_or new (id_of h) no_semaphore) (F (id_of h)) _ _ (drop_bytes (fields_from h) s b))

    semaphores_count : (n h : ℕ) (s : List ℕ) (a : List Semaphore) → length a ≡ n → length (semaphore_read c new h s a) ≡ n
    unfolding semaphore_read
    semaphores_count n h s a e = length-set a (id_of h) _ ∙ e

    pub semaphores_any : (s : List ℕ) → Bytes s → (i : ℕ) → SmallSemaphore (get_or (semaphores_before c new s) i no_semaphore)
    unfolding semaphores_before
    semaphores_any s h =
        entries_keep (own_in semaphore_widths) (semaphore_read c new) (λ a. (i : ℕ) → SmallSemaphore (get_or a i no_semaphore)) semaphores_fine
        (length s) s _ h
        (λ i. cases (ltb i (length new))
        (λ e. rw (get_or_map (younger_semaphore c) new i no_semaphore (ltb-true i (length new) e)) (semaphore_younger _ (F i)))
        (λ e. let b : length (map (younger_semaphore c) new) ≤ i = rw length-map (ltb-false i (length new) e) in
        rw (get_or-eq_default (map (younger_semaphore c) new) no_semaphore b) (omega arith)))

    pub semaphores_sized_lem : (s : List ℕ) → length (semaphores_before c new s) ≡ length new
    unfolding semaphores_before
    semaphores_sized_lem s =
        entries_hold (own_in semaphore_widths) (semaphore_read c new) (λ a. length a ≡ length new) (semaphores_count (length new))
        (length s) s _ (length-map new (younger_semaphore c))

-- ---- events
event_read_lem : (r : Event) → SmallEvent r → (flags : ℕ) (s : List ℕ) → Bytes s
    → SmallEvent (event_from (row_from event_widths flags (predicted_event r) s))
unfolding event_from
event_read_lem r (m, v) flags s h = (row_at event_widths flags _ s h 1 m, row_at event_widths flags _ s h 2 v)

module _ (new : List Event) (F : (i : ℕ) → SmallEvent (get_or new i no_event)) where
  events_fine : (h : ℕ) (s : List ℕ) (a : List Event) → Bytes s → ((i : ℕ) → SmallEvent (get_or a i no_event))
      → (i : ℕ) → SmallEvent (get_or (event_read new h s a) i no_event)
  unfolding event_read row_in
  events_fine h s a b =
      set_all SmallEvent a (id_of h) _ no_event (event_read_lem (get_or new (id_of h) no_event) (F (id_of h)) _ _ (drop_bytes (fields_from h) s b))

  events_count : (n h : ℕ) (s : List ℕ) (a : List Event) → length a ≡ n → length (event_read new h s a) ≡ n
  unfolding event_read
  events_count n h s a e = length-set a (id_of h) _ ∙ e

  pub events_any : (s : List ℕ) → Bytes s → (i : ℕ) → SmallEvent (get_or (events_before new s) i no_event)
  unfolding events_before
  events_any s h =
      entries_keep (own_in event_widths) (event_read new) (λ a. (i : ℕ) → SmallEvent (get_or a i no_event)) events_fine
      (length s) _ new (drop_bytes (cond (bit_changed s) 1 0) s h) F

  pub events_sized_lem : (s : List ℕ) → length (events_before new s) ≡ length new
  unfolding events_before
  events_sized_lem s =
      entries_hold (own_in event_widths) (event_read new) (λ a. length a ≡ length new) (events_count (length new)) (length s) _ new refl

-- ---- messages: type, size, address and channel
abbrev FineMessage : Message → Type 0
FineMessage r = (r.kind < 65536) × (r.size < 4294967296) × (r.address < 4294967296) × (r.channel < 256)

module _ (c : Call) (runner : ℕ) where
  message_read_lem : (r : Message) → FineMessage r → (flags : ℕ) (s : List ℕ) → Bytes s
      → FineMessage (message_from (row_from message_widths flags (predicted_message c runner r) s))
  unfolding message_from predicted_message
  message_read_lem r (k, z, a, _) flags s h = (
    row_at message_widths flags _ s h 3 (either_below (is c 24) _ _ _ (omega arith) k),
    row_at message_widths flags _ s h 4 (either_below (is c 24) _ _ _ (omega arith) z),
    row_at message_widths flags _ s h 5 (either_below (is c 24) _ _ _ (omega arith) a),
    row_at message_widths flags _ s h 6 (omega arith),
  )

  module _ (new : List Message) (F : (m : ℕ) → FineMessage (get_or new m no_message)) where
    messages_fine : (h : ℕ) (s : List ℕ) (a : Filing) → Bytes s → ((m : ℕ) → FineMessage (get_or a.messages m no_message))
        → (m : ℕ) → FineMessage (get_or (message_read c runner new h s a).messages m no_message)
    unfolding message_read row_in
    messages_fine h s a b =
        set_all FineMessage a.messages (id_of h) _ no_message
        (message_read_lem (get_or new (id_of h) no_message) (F (id_of h)) _ _ (drop_bytes (fields_from h) s b))

    messages_count : (n h : ℕ) (s : List ℕ) (a : Filing) → length a.messages ≡ n → length (message_read c runner new h s a).messages ≡ n
    unfolding message_read
    messages_count n h s a e = length-set a.messages (id_of h) _ ∙ e

    pub messages_any : (s : List ℕ) → Bytes s → (m : ℕ) → FineMessage (get_or (messages_before c runner new s).messages m no_message)
    unfolding messages_before
    messages_any s h =
        entries_keep (own_in message_widths) (message_read c runner new) (λ a. (m : ℕ) → FineMessage (get_or a.messages m no_message))
        messages_fine (length s) s _ h F

    pub messages_sized : (s : List ℕ) → length (messages_before c runner new s).messages ≡ length new
    unfolding messages_before
    messages_sized s =
        entries_hold (own_in message_widths) (message_read c runner new) (λ a. length a.messages ≡ length new) (messages_count (length new))
        (length s) s _ refl

-- ---- the tables
place_short : (x : ℕ) (l : List ℕ) (n : ℕ) (go : List ℕ → List ℕ) → ((m : List ℕ) → length (go m) ≤ n) → length (fill_place x l go) ≤ suc n
place_short x [] n go h = cases (eqb x 255) (λ e. rw e (omega arith)) (λ e. rw e (omega (arith, h [])))
place_short x (y ∷ l) n go h = cases (eqb x 255) (λ e. rw e (omega (arith, h l))) (λ e. rw e (omega (arith, h (y ∷ l))))

merge_short : (n : ℕ) (at l : List ℕ) → length (merge n at l) ≤ n
merge_short zero at l = omega arith
merge_short (suc n) at l = place_short (get_or at 0 255) l n (merge n (drop 1 at)) (merge_short n (drop 1 at))

pack_full : (l : List ℕ) → length l ≤ capacity → length (pack l).at ≡ capacity
pack_full l h = simp (length-append, length-replicate) (omega arith)

pub back_full : (out at : List ℕ) (q : Queue) → length (put_back_all out at q).at ≡ capacity
unfolding put_back_all
back_full out at q =
    let l : List ℕ = keep (λ x. eqb (get_or out x 0) 0) (items q) in
    pack_full (merge capacity at l) (merge_short capacity at l)
