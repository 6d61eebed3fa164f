-- The spans of an accepted call have everybody whom it touches, so the entries of the spans are the sections of its note.
use Prim.Native.Nat.{ℕ}
use mathlib.Core.Path.{◌≡◌, refl, sym, ap, subst, ◌∙◌}
use mathlib.Core.Bool.{Bool, true, false, false≢true}
use mathlib.Core.List.{List, [], ◌∷◌, ◌++◌}
use native.Mathlib.Nat.{mod-eq_of_lt}
use native.Mathlib.Omega.{arith}
use lib.Dec.{eqb, ltb}
use lib.ListN.{length}
use lib.Seq.{get_or-set_other}
use borrow.Author.Tests.{eqb-true, eqb-false, ltb-true, ltb-false}
use borrow.Table.Steps.{cases}
use Rattle.base_queue.specs.Lists.{first_of}
use Rattle.spec_kernel.specs.declared.records.Thread.{Thread}
use Rattle.spec_kernel.specs.declared.records.Semaphore.{Semaphore}
use Rattle.spec_kernel.specs.declared.records.Kernel.{Kernel}
use Rattle.spec_kernel.specs.Sizes.{thread_count, semaphore_count, event_count, message_count}
use Rattle.spec_kernel.specs.Records.{thread, semaphore, event, no_thread, no_semaphore, no_event}
use Rattle.spec_kernel.specs.Conditions.{of_semaphores, awaits}
use Rattle.spec_kernel.specs.Truth.{is_true}
use Rattle.spec_kernel.specs.Places.{home, semaphore_queue}
use Rattle.spec_moves.specs.Standing.{threads_of, posts_of}
use Rattle.spec_moves.proofs.Joins.{past_end}
use Rattle.spec_moves.proofs.Threads.{relocate_other}
use Rattle.spec_moves.proofs.Posts.{repost_other}
use Rattle.spec_kernel.specs.Free.{free_thread, free_semaphore, free_message}
use Rattle.spec_kernel.specs.Channels.{next_message}
use Rattle.code_kernel_find.specs.AtHome.{first_at_home}
use Rattle.spec_calls.specs.declared.call.Call.{Call}
use Rattle.spec_calls.specs.Kinds.{kind_of}
use Rattle.spec_refusals.specs.Named.{value_of}
use Rattle.spec_refusals.specs.Refusals.{is, number_of}
use Rattle.spec_moves.specs.States.{move_thread, with_semaphore, with_bits, as_byte, scheduled}
use Rattle.spec_threads.specs.Threads.{block, wake, free_messages, create_thread, destroy_thread, set_priority, reset_priority, yielded, sleep}
use Rattle.spec_regions.specs.Regions.{push_unscheduled, pop_unscheduled, pop_all_unscheduled, push_critical, pop_critical, pop_all_critical}
use Rattle.spec_laws.specs.Words.{OtherThreads, OtherMessages}
use Rattle.spec_semaphores.specs.Semaphores.{post_to, post, create_semaphore, destroy_semaphore, make_periodic, remove_periodic}
use Rattle.spec_semaphores.specs.Semaphores.{pend_semaphore, post_semaphore}
use Rattle.spec_events.specs.Events.{worked_out, load_event, pend_event, set_bit, clear_bit}
use Rattle.spec_flags.specs.Flags.{create_flag, destroy_flag, pend_flag, post_flag}
use Rattle.spec_messages.specs.Messages.{create_message, destroy_message, hand_over, post_message, receive, pend_message}
use Rattle.spec_time.specs.Time.{tick}
use Rattle.spec_effects.specs.Effects.{effect}
use Rattle.proof_rules.proofs.Accepted.{Accepted, accepted, thread_named}
use Rattle.spec_effects.proofs.ByKind.{◌▸◌, end, effect_of}
use Rattle.spec_notes.specs.Touched.{moves_in_place, touched_thread, touched_semaphore, touched_event, touched_message}
use Rattle.spec_notes.specs.Sections.{thread_entry, thread_entries, threads_section, semaphore_entry, semaphore_entries, semaphores_section}
use Rattle.spec_notes.specs.Sections.{event_entry, event_entries, bit_noted, events_section, message_entry, message_entries, messages_section}
use Rattle.code_notes_spans.specs.Spans.{span, alone, span_of, thread_span, semaphore_span, event_span, message_span}
use Rattle.code_notes_spans.specs.Spans.{in_span, waiter_of}
use Rattle.spec_notes.proofs.Slight.{event_stays, message_stays, post_parts, pulses_parts}
use Rattle.spec_notes.proofs.TickSlight.{post_other}
use Rattle.spec_notes.proofs.Lengths.{thread_same, semaphore_same, younger_now, semaphore_now, moves_which}
use Rattle.code_notes_spans.proofs.InSpans.{Part, whole, lone, none, part_entries}

-- the four spans of a call that answers the value v and leads from k to u
pub record Spanned (k : Kernel) (c : Call) (v : ℕ) (u : Kernel) : Type 0 where
  pub threads : Part (touched_thread k c u) thread_count (thread_span c k.runner v (waiter_of k c))
  pub semaphores : Part (touched_semaphore k c u) semaphore_count (semaphore_span c v)
  pub events : Part (touched_event k c u) event_count (event_span c)
  pub messages : Part (touched_message k c u) message_count (message_span c v)

-- who isn't x isn't touched: at most x is
only_at : (touched : ℕ → Bool) (x : ℕ) → ((i : ℕ) → (i ≡ x → ⊥) → touched i ≡ true → ⊥) → (i : ℕ) → touched i ≡ true → i ≡ x
only_at touched x f i t = cases (eqb i x) (eqb-true i x) (λ e. absurd (f i (eqb-false i x e) t))

-- ---- a part of each table: nobody where all stays, and at most the one that gets a record
-- no tick
module _ (k : Kernel) (c : Call) (u : Kernel) (o : is c 1 ≡ false) where
  thread_moves : (t : ℕ) → thread u t ≡ thread k t → touched_thread k c u t ≡ true → moves_in_place k.runner c t ≡ true
  unfolding touched_thread
  thread_moves t e h = rw (e, younger_now c (thread k t) o, thread_same (thread k t)) at h

  semaphore_stays : (i : ℕ) → semaphore u i ≡ semaphore k i → touched_semaphore k c u i ≡ true → ⊥
  unfolding touched_semaphore
  semaphore_stays i e h = false≢true (sym (rw (e, semaphore_now c (semaphore k i) o, semaphore_same (semaphore k i))) ∙ h)

  no_thread_lem : ((t : ℕ) → moves_in_place k.runner c t ≡ false) → u.threads ≡ k.threads → Part (touched_thread k c u) thread_count (span 0 0)
  no_thread_lem m e = none (λ t h. false≢true (sym (m t) ∙ thread_moves t (rw e) h))

  one_thread : (x : ℕ) → OtherThreads x k u → ((t : ℕ) → moves_in_place k.runner c t ≡ true → t ≡ x)
      → Part (touched_thread k c u) thread_count (alone thread_count x)
  one_thread x f m = lone x (only_at (touched_thread k c u) x (λ t ne h. ne (m t (thread_moves t (f t ne) h))))

  no_semaphore_lem : u.semaphores ≡ k.semaphores → Part (touched_semaphore k c u) semaphore_count (span 0 0)
  no_semaphore_lem e = none (λ i. semaphore_stays i (rw e))

  one_semaphore : (x : ℕ) → ((i : ℕ) → (i ≡ x → ⊥) → semaphore u i ≡ semaphore k i)
      → Part (touched_semaphore k c u) semaphore_count (alone semaphore_count x)
  one_semaphore x f = lone x (only_at (touched_semaphore k c u) x (λ i ne. semaphore_stays i (f i ne)))

module _ (k : Kernel) (c : Call) (u : Kernel) where
  no_event_lem : u.events ≡ k.events → Part (touched_event k c u) event_count (span 0 0)
  no_event_lem e = none (λ i. event_stays k c u i (rw e))

  one_event : (x : ℕ) → ((i : ℕ) → (i ≡ x → ⊥) → event u i ≡ event k i) → Part (touched_event k c u) event_count (alone event_count x)
  one_event x f = lone x (only_at (touched_event k c u) x (λ i ne. event_stays k c u i (f i ne)))

  no_message_lem : u.messages ≡ k.messages → Part (touched_message k c u) message_count (span 0 0)
  no_message_lem e = none (λ m. message_stays k c u m (rw e))

  one_message : (x : ℕ) → OtherMessages x k u → Part (touched_message k c u) message_count (alone message_count x)
  one_message x f = lone x (only_at (touched_message k c u) x (λ m ne. message_stays k c u m (f m ne)))

module _ {k : Kernel} {c : Call} {v : ℕ} {u : Kernel} where
  spanned : Part (touched_thread k c u) thread_count (thread_span c k.runner v (waiter_of k c))
      → Part (touched_semaphore k c u) semaphore_count (semaphore_span c v)
      → Part (touched_event k c u) event_count (event_span c) → Part (touched_message k c u) message_count (message_span c v) → Spanned k c v u
  spanned T S E M = record { threads = T; semaphores = S; events = E; messages = M }

-- ---- nothing happens to any record; a thread gets a record; a semaphore does
module _ (k : Kernel) (c : Call) (v : ℕ) (o : is c 1 ≡ false) where
  abbrev Nobody : Type 0
  Nobody = (semaphore_span c v ≡ span 0 0) × (event_span c ≡ span 0 0) × (message_span c v ≡ span 0 0)

  quiet : (u : Kernel) → ((t : ℕ) → moves_in_place k.runner c t ≡ false)
      → (u.threads ≡ k.threads) × (u.semaphores ≡ k.semaphores) × (u.events ≡ k.events) × (u.messages ≡ k.messages)
      → thread_span c k.runner v (waiter_of k c) ≡ span 0 0 → Nobody → Spanned k c v u
  quiet u m e t n = record {
    threads = rw t (no_thread_lem k c u o m e.0);
    semaphores = rw n.0 (no_semaphore_lem k c u o e.1);
    events = rw n.1 (no_event_lem k c u e.2);
    messages = rw n.2 (no_message_lem k c u e.3);
  }

  placed : (x : ℕ) (r : Thread) → ((t : ℕ) → moves_in_place k.runner c t ≡ true → t ≡ x)
      → thread_span c k.runner v (waiter_of k c) ≡ alone thread_count x → Nobody → Spanned k c v (move_thread x r k)
  placed x r m t n =
      let u : Kernel = move_thread x r k in
      record {
        threads = rw t (one_thread k c u o x (λ t. relocate_other (threads_of k) x r) m);
        semaphores = rw n.0 (no_semaphore_lem k c u o refl);
        events = rw n.1 (no_event_lem k c u refl);
        messages = rw n.2 (no_message_lem k c u refl);
      }

  counted : (x : ℕ) (r : Semaphore) → ((t : ℕ) → moves_in_place k.runner c t ≡ false)
      → thread_span c k.runner v (waiter_of k c) ≡ span 0 0 → semaphore_span c v ≡ alone semaphore_count x
      → (event_span c ≡ span 0 0) × (message_span c v ≡ span 0 0) → Spanned k c v (with_semaphore x r k)
  counted x r m t s n =
      let u : Kernel = with_semaphore x r k in
      record {
        threads = rw t (no_thread_lem k c u o m refl);
        semaphores = rw s (one_semaphore k c u o x (λ i. get_or-set_other k.semaphores x i r no_semaphore));
        events = rw n.0 (no_event_lem k c u refl);
        messages = rw n.1 (no_message_lem k c u refl);
      }

  -- events are worked out with other bits
  worked : (bits : ℕ) → thread_span c k.runner v (waiter_of k c) ≡ span 0 thread_count → Nobody
      → Spanned k c v (worked_out (with_bits bits k))
  unfolding worked_out
  worked bits t n =
      let u : Kernel = worked_out (with_bits bits k) in
      record {
        threads = rw t whole;
        semaphores = rw n.0 (no_semaphore_lem k c u o refl);
        events = rw n.1 (no_event_lem k c u refl);
        messages = rw n.2 (no_message_lem k c u refl);
      }

-- a post changes the first waiter at most
waiter_only : (k : Kernel) (i : ℕ) → OtherThreads (first_at_home k.threads k.places (home of_semaphores i)) k (post i k)
unfolding post wake first_at_home
waiter_only k i = go (semaphore_queue k i)
  where
    go : (q : List ℕ) → OtherThreads (first_of q) k (post_to q i k)
    go [] t ne = refl
    go (x ∷ q) t ne = relocate_other (threads_of k) x _ ne

-- ---- a call of a kind
abbrev of_kind : ℕ → Call → Call
of_kind n c = record { kind = n; a = c.a; b = c.b; c = c.c; d = c.d; e = c.e }

-- nobody moves in place
still : (x t : ℕ) → false ≡ true → t ≡ x
still x t h = absurd (false≢true h)

module _ (k : Kernel) (c : Call) where
  -- the spans of the call as one of kind n, which does this
  abbrev Spans : ℕ → (Kernel → Call → Kernel) → Type 0
  Spans n does = Spanned k (of_kind n c) (value_of k (of_kind n c)) (does k (of_kind n c))

  kind_1 : Spans 1 tick
  unfolding tick thread_span semaphore_span event_span message_span span_of kind_of
  kind_1 = let (d, e) = pulses_parts 0 semaphore_count _ in spanned whole whole (no_event_lem _ _ _ d) (no_message_lem _ _ _ e)

  -- ---- threads
  kind_2 : Spans 2 create_thread
  unfolding create_thread value_of thread_span semaphore_span event_span message_span span_of kind_of
  kind_2 = placed k (of_kind 2 c) _ refl (free_thread k) _ (still _) refl (refl, refl, refl)

  kind_3 : Spans 3 destroy_thread
  unfolding destroy_thread free_messages thread_span semaphore_span event_span message_span span_of kind_of
  kind_3 =
      spanned (one_thread _ _ _ refl c.a (λ t. relocate_other (threads_of k) c.a _) (still _)) (no_semaphore_lem _ _ _ refl refl)
      (no_event_lem _ _ _ refl) whole

  kind_4 : Spans 4 set_priority
  unfolding set_priority thread_span semaphore_span event_span message_span span_of kind_of
  kind_4 = placed k (of_kind 4 c) _ refl c.a _ (moves_which k.runner (of_kind 4 c)) refl (refl, refl, refl)

  kind_5 : Spans 5 reset_priority
  unfolding reset_priority thread_span semaphore_span event_span message_span span_of kind_of
  kind_5 = placed k (of_kind 5 c) _ refl c.a _ (moves_which k.runner (of_kind 5 c)) refl (refl, refl, refl)

  kind_6 : Spans 6 yielded
  unfolding yielded thread_span semaphore_span event_span message_span span_of kind_of
  kind_6 = placed k (of_kind 6 c) _ refl k.runner _ (moves_which k.runner (of_kind 6 c)) refl (refl, refl, refl)

  kind_7 : Spans 7 sleep
  unfolding sleep block thread_span semaphore_span event_span message_span span_of kind_of
  kind_7 = placed k (of_kind 7 c) _ refl k.runner _ (still _) refl (refl, refl, refl)

  -- ---- semaphores
  kind_14 : Spans 14 create_semaphore
  unfolding create_semaphore value_of thread_span semaphore_span event_span message_span span_of kind_of
  kind_14 = counted k (of_kind 14 c) _ refl (free_semaphore k) _ (λ _. refl) refl refl (refl, refl)

  kind_15 : Spans 15 destroy_semaphore
  unfolding destroy_semaphore thread_span semaphore_span event_span message_span span_of kind_of
  kind_15 =
      spanned (one_thread _ _ _ refl (waiter_of k (of_kind 15 c)) (λ _ _. refl) (still _))
      (one_semaphore _ _ _ refl c.a (λ i. get_or-set_other k.semaphores c.a i _ no_semaphore))
      (no_event_lem _ _ _ refl) (no_message_lem _ _ _ refl)

  kind_16 : Spans 16 make_periodic
  unfolding make_periodic thread_span semaphore_span event_span message_span span_of kind_of
  kind_16 = counted k (of_kind 16 c) _ refl c.a _ (λ _. refl) refl refl (refl, refl)

  kind_17 : Spans 17 remove_periodic
  unfolding remove_periodic thread_span semaphore_span event_span message_span span_of kind_of
  kind_17 = counted k (of_kind 17 c) _ refl c.a _ (λ _. refl) refl refl (refl, refl)

  -- the count goes down, or the caller blocks
  kind_18 : Spans 18 pend_semaphore
  unfolding pend_semaphore block thread_span semaphore_span event_span message_span span_of kind_of
  kind_18 =
      cases (ltb 0 (semaphore k c.a).count)
      (λ h. rw h
      (spanned (one_thread _ _ _ refl k.runner (λ _ _. refl) (still _))
      (one_semaphore _ _ _ refl c.a (λ i. get_or-set_other k.semaphores c.a i _ no_semaphore))
      (no_event_lem _ _ _ refl) (no_message_lem _ _ _ refl)))
      (λ h. rw h
      (spanned (one_thread _ _ _ refl k.runner (λ t. relocate_other (threads_of k) k.runner _) (still _))
      (one_semaphore _ _ _ refl c.a (λ _ _. refl)) (no_event_lem _ _ _ refl) (no_message_lem _ _ _ refl)))

  -- the first waiter wakes, or the count goes up
  kind_19 : Spans 19 post_semaphore
  unfolding post_semaphore thread_span semaphore_span event_span message_span span_of kind_of
  kind_19 =
      let (d, e) = post_parts c.a k in
      spanned (one_thread _ _ _ refl (waiter_of k (of_kind 19 c)) (waiter_only k c.a) (still _))
      (one_semaphore _ _ _ refl c.a (λ i. post_other i c.a k)) (no_event_lem _ _ _ d) (no_message_lem _ _ _ e)

  kind_28 : Spans 28 post_semaphore
  unfolding post_semaphore thread_span semaphore_span event_span message_span span_of kind_of
  kind_28 =
      let (d, e) = post_parts c.a k in
      spanned (one_thread _ _ _ refl (waiter_of k (of_kind 28 c)) (waiter_only k c.a) (still _))
      (one_semaphore _ _ _ refl c.a (λ i. post_other i c.a k)) (no_event_lem _ _ _ d) (no_message_lem _ _ _ e)

  -- ---- events
  kind_20 : Spans 20 load_event
  unfolding load_event worked_out thread_span semaphore_span event_span message_span span_of kind_of
  kind_20 =
      spanned whole (no_semaphore_lem _ _ _ refl refl) (one_event _ _ _ c.a (λ i. get_or-set_other k.events c.a i _ no_event))
      (no_message_lem _ _ _ refl)

  kind_21 : Spans 21 pend_event
  unfolding pend_event block thread_span semaphore_span event_span message_span span_of kind_of
  kind_21 =
      cases (is_true k.bits (event k c.a))
      (λ h. rw h
      (spanned (one_thread _ _ _ refl k.runner (λ _ _. refl) (still _)) (no_semaphore_lem _ _ _ refl refl)
      (one_event _ _ _ c.a (λ _ _. refl)) (no_message_lem _ _ _ refl)))
      (λ h. rw h
      (spanned (one_thread _ _ _ refl k.runner (λ t. relocate_other (threads_of k) k.runner _) (still _))
      (no_semaphore_lem _ _ _ refl refl) (one_event _ _ _ c.a (λ _ _. refl)) (no_message_lem _ _ _ refl)))

  -- ---- messages
  kind_24 : Spans 24 create_message
  unfolding create_message value_of thread_span semaphore_span event_span message_span span_of kind_of
  kind_24 =
      spanned (no_thread_lem _ _ _ refl (λ _. refl) refl) (no_semaphore_lem _ _ _ refl refl) (no_event_lem _ _ _ refl)
      (one_message _ _ _ (free_message k) (λ m. repost_other (posts_of k) (free_message k) _))

  kind_25 : Spans 25 destroy_message
  unfolding destroy_message thread_span semaphore_span event_span message_span span_of kind_of
  kind_25 =
      spanned (no_thread_lem _ _ _ refl (λ _. refl) refl) (no_semaphore_lem _ _ _ refl refl) (no_event_lem _ _ _ refl)
      (one_message _ _ _ c.a (λ m. repost_other (posts_of k) c.a _))

  -- the recipient wakes, or stays as it is
  kind_26 : as_byte c.b ≡ c.b → Spans 26 post_message
  unfolding post_message hand_over thread_span semaphore_span event_span message_span span_of kind_of
  kind_26 e =
      cases (awaits (thread k c.b).condition (as_byte c.c))
      (λ h. rw (h, e)
      (spanned (one_thread _ _ _ refl c.b (λ t. relocate_other (threads_of k) c.b _) (still _)) (no_semaphore_lem _ _ _ refl refl)
      (no_event_lem _ _ _ refl) (one_message _ _ _ c.a (λ m. repost_other (posts_of k) c.a _))))
      (λ h. rw h
      (spanned (one_thread _ _ _ refl c.b (λ _ _. refl) (still _)) (no_semaphore_lem _ _ _ refl refl)
      (no_event_lem _ _ _ refl) (one_message _ _ _ c.a (λ m. repost_other (posts_of k) c.a _))))

  -- the caller blocks, or takes a message off its channel
  kind_27 : Spans 27 pend_message
  unfolding pend_message receive block value_of thread_span semaphore_span event_span message_span span_of kind_of
  kind_27 =
      cases (eqb (next_message k c.b) 255)
      (λ h. rw h
      (spanned (one_thread _ _ _ refl k.runner (λ t. relocate_other (threads_of k) k.runner _) (still _))
      (no_semaphore_lem _ _ _ refl refl) (no_event_lem _ _ _ refl) (one_message _ _ _ (next_message k c.b) (λ _ _. refl))))
      (λ h. rw h
      (spanned (one_thread _ _ _ refl k.runner (λ _ _. refl) (still _)) (no_semaphore_lem _ _ _ refl refl)
      (no_event_lem _ _ _ refl) (one_message _ _ _ (next_message k c.b) (λ m. repost_other (posts_of k) (next_message k c.b) _))))

  -- ---- flags
  kind_32 : Spans 32 destroy_flag
  unfolding destroy_flag thread_span semaphore_span event_span message_span span_of kind_of
  kind_32 =
      spanned (one_thread _ _ _ refl (waiter_of k (of_kind 32 c)) (λ _ _. refl) (still _)) (no_semaphore_lem _ _ _ refl refl)
      (no_event_lem _ _ _ refl) (no_message_lem _ _ _ refl)

  -- the caller blocks, and one level is off
  kind_33 : Spans 33 pend_flag
  unfolding pend_flag pop_critical block thread_span semaphore_span event_span message_span span_of kind_of
  kind_33 =
      spanned (one_thread _ _ _ refl k.runner (λ t. relocate_other (threads_of k) k.runner _) (still _)) (no_semaphore_lem _ _ _ refl refl)
      (no_event_lem _ _ _ refl) (no_message_lem _ _ _ refl)

  kind_34 : Spans 34 post_flag
  unfolding post_flag thread_span semaphore_span event_span message_span span_of kind_of
  kind_34 = spanned whole (no_semaphore_lem _ _ _ refl refl) (no_event_lem _ _ _ refl) (no_message_lem _ _ _ refl)

-- thread b of a call of kind 26 is live, so b is a byte
byte_named : {k : Kernel} {c : Call} → Accepted k c → length k.threads ≡ thread_count → c.kind ≡ 26 → as_byte c.b ≡ c.b
byte_named {k} {c} A l e =
    let live : (thread k c.b).live ≡ true = thread_named A e refl in
    cases (ltb c.b thread_count) (λ b. let s = ltb-true c.b thread_count b in mod-eq_of_lt (omega arith))
    (λ b. absurd (false≢true (rw (past_end k.threads no_thread l (ltb-false c.b thread_count b)) at live)))

module _ {k : Kernel} {c : Call} (l : length k.threads ≡ thread_count) (A : Accepted k c) where
  at_kind : {n : ℕ} (does : Kernel → Call → Kernel) → Spans k c n does → c.kind ≡ n → Spanned k c (value_of k c) (does k c)
  at_kind does s e = subst (λ (x : Call). Spanned k x (value_of k x) (does k x)) (ap (λ (m : ℕ). of_kind m c) (sym e)) s

  effect_spanned : Spanned k c (value_of k c) (effect k c)
  unfolding push_unscheduled pop_unscheduled pop_all_unscheduled push_critical pop_critical pop_all_critical set_bit clear_bit
      create_flag thread_span semaphore_span event_span message_span span_of kind_of
  effect_spanned =
      effect_of A (Spanned k c (value_of k c)) λ kind_0.
      kind_0
      ▸ at_kind tick (kind_1 k c)
      ▸ at_kind create_thread (kind_2 k c)
      ▸ at_kind destroy_thread (kind_3 k c)
      ▸ at_kind set_priority (kind_4 k c)
      ▸ at_kind reset_priority (kind_5 k c)
      ▸ at_kind yielded (kind_6 k c)
      ▸ at_kind sleep (kind_7 k c)
      ▸ at_kind push_unscheduled (quiet k (of_kind 8 c) _ refl _ (λ _. refl) (refl, refl, refl, refl) refl (refl, refl, refl))
      ▸ at_kind pop_unscheduled (quiet k (of_kind 9 c) _ refl _ (λ _. refl) (refl, refl, refl, refl) refl (refl, refl, refl))
      ▸ at_kind pop_all_unscheduled (quiet k (of_kind 10 c) _ refl _ (λ _. refl) (refl, refl, refl, refl) refl (refl, refl, refl))
      ▸ at_kind push_critical (quiet k (of_kind 11 c) _ refl _ (λ _. refl) (refl, refl, refl, refl) refl (refl, refl, refl))
      ▸ at_kind pop_critical (quiet k (of_kind 12 c) _ refl _ (λ _. refl) (refl, refl, refl, refl) refl (refl, refl, refl))
      ▸ at_kind pop_all_critical (quiet k (of_kind 13 c) _ refl _ (λ _. refl) (refl, refl, refl, refl) refl (refl, refl, refl))
      ▸ at_kind create_semaphore (kind_14 k c)
      ▸ at_kind destroy_semaphore (kind_15 k c)
      ▸ at_kind make_periodic (kind_16 k c)
      ▸ at_kind remove_periodic (kind_17 k c)
      ▸ at_kind pend_semaphore (kind_18 k c)
      ▸ at_kind post_semaphore (kind_19 k c)
      ▸ at_kind load_event (kind_20 k c)
      ▸ at_kind pend_event (kind_21 k c)
      ▸ at_kind set_bit (worked k (of_kind 22 c) _ refl _ refl (refl, refl, refl))
      ▸ at_kind clear_bit (worked k (of_kind 23 c) _ refl _ refl (refl, refl, refl))
      ▸ at_kind create_message (kind_24 k c)
      ▸ at_kind destroy_message (kind_25 k c)
      ▸ (λ e. at_kind post_message (kind_26 k c (byte_named A l e)) e)
      ▸ at_kind pend_message (kind_27 k c)
      ▸ at_kind post_semaphore (kind_28 k c)
      ▸ at_kind set_bit (worked k (of_kind 29 c) _ refl _ refl (refl, refl, refl))
      ▸ at_kind clear_bit (worked k (of_kind 30 c) _ refl _ refl (refl, refl, refl))
      ▸ at_kind create_flag (quiet k (of_kind 31 c) _ refl _ (λ _. refl) (refl, refl, refl, refl) refl (refl, refl, refl))
      ▸ at_kind destroy_flag (kind_32 k c)
      ▸ at_kind pend_flag (kind_33 k c)
      ▸ at_kind post_flag (kind_34 k c)
      ▸ end

-- who runs is no part of a record
scheduled_spanned : {k : Kernel} {c : Call} {v : ℕ} {u : Kernel} → Spanned k c v u → Spanned k c v (scheduled u)
unfolding scheduled touched_thread touched_semaphore touched_event touched_message
scheduled_spanned S = record { threads = S.threads; semaphores = S.semaphores; events = S.events; messages = S.messages }

pub accepted_spanned : (k : Kernel) (c : Call) → length k.threads ≡ thread_count → number_of k c ≡ 0
    → Spanned k c (value_of k c) (scheduled (effect k c))
accepted_spanned k c l h = scheduled_spanned (effect_spanned l (accepted k c h))

-- ---- the entries of the spans are the sections
module _ (k : Kernel) (c : Call) (u : Kernel) {v : ℕ} (S : Spanned k c v u) where
  pub threads_in_lem : in_span (thread_span c k.runner v (waiter_of k c)) (thread_entries c k.runner (threads_of k) u.threads)
      ≡ threads_section k c u
  unfolding threads_section touched_thread
  threads_in_lem = part_entries S.threads (thread_entry c (threads_of k) u.threads)

  pub semaphores_in_lem : in_span (semaphore_span c v) (semaphore_entries c k.semaphores u.semaphores) ≡ semaphores_section k c u
  unfolding semaphores_section touched_semaphore
  semaphores_in_lem = part_entries S.semaphores (semaphore_entry c k.semaphores u.semaphores)

  pub events_in_lem : bit_noted k.bits u.bits ++ in_span (event_span c) (event_entries k.events u.events) ≡ events_section k c u
  unfolding events_section touched_event
  events_in_lem = ap (λ (l : List ℕ). bit_noted k.bits u.bits ++ l) (part_entries S.events (event_entry k.events u.events))

  pub messages_in_lem : in_span (message_span c v) (message_entries c u.runner (posts_of k) u.messages) ≡ messages_section k c u
  unfolding messages_section touched_message
  messages_in_lem = part_entries S.messages (message_entry c u.runner (posts_of k) u.messages)
