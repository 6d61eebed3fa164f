-- How little a call changes: at most the event that it names, and of the messages whose record stays but for the channel at most one.
use Prim.Native.Nat.{ℕ, zero, suc}
use mathlib.Core.Path.{◌≡◌, refl, sym, ap, ◌∙◌}
use mathlib.Core.Bool.{Bool, true, false, cond, false≢true, and-eq-true_iff, or-false}
use mathlib.Core.List.{List, [], ◌∷◌}
use native.Mathlib.Omega.{arith}
use lib.Dec.{eqb, ltb}
use lib.Seq.{get_or-set_other}
use borrow.Author.Tests.{eqb-true, eqb-false, ltb-true}
use borrow.Table.Steps.{cases}
use Rattle.base_queue.specs.Lists.{keep}
use Rattle.base_queue.specs.Queues.{items}
use Rattle.base_queue.specs.Tables.{one}
use Rattle.base_queue.proofs.Counts.{same, kept}
use Rattle.spec_kernel.specs.declared.records.Message.{Message}
use Rattle.spec_kernel.specs.declared.records.Kernel.{Kernel}
use Rattle.spec_kernel.specs.Sizes.{semaphore_count}
use Rattle.spec_kernel.specs.Records.{thread, semaphore, event, message, no_event, no_message}
use Rattle.spec_kernel.specs.Conditions.{masks, awaits}
use Rattle.spec_kernel.specs.Truth.{is_true}
use Rattle.spec_kernel.specs.Places.{semaphore_queue}
use Rattle.spec_moves.specs.Standing.{posts_of}
use Rattle.spec_moves.proofs.Posts.{repost_other}
use Rattle.spec_kernel.specs.Free.{free_message}
use Rattle.spec_kernel.specs.Channels.{is_for, first_for, next_message}
use Rattle.spec_calls.specs.declared.call.Call.{Call}
use Rattle.spec_calls.specs.Kinds.{kind_of}
use Rattle.spec_refusals.specs.Named.{named, value_of}
use Rattle.spec_refusals.specs.Refusals.{is, none_free}
use Rattle.spec_moves.specs.States.{move_message, as_byte}
use Rattle.spec_threads.specs.Threads.{block, wake, owns, free_messages, create_thread}
use Rattle.spec_threads.specs.Threads.{destroy_thread, set_priority, reset_priority, yielded, sleep}
use Rattle.spec_regions.specs.Regions.{push_unscheduled, pop_unscheduled, pop_all_unscheduled, push_critical, pop_critical, pop_all_critical}
use Rattle.spec_semaphores.specs.Semaphores.{post_to, post, create_semaphore, destroy_semaphore, make_periodic, remove_periodic}
use Rattle.spec_semaphores.specs.Semaphores.{pend_semaphore, post_semaphore}
use Rattle.spec_events.specs.Events.{worked_out, load_event, pend_event, set_bit, clear_bit}
use Rattle.spec_flags.specs.Flags.{create_flag, destroy_flag, pend_flag, post_flag}
use Rattle.spec_messages.specs.Messages.{create_message, destroy_message, hand_over, post_message, receive, pend_message}
use Rattle.spec_time.specs.Time.{pulse, pulse_from, tick}
use Rattle.spec_effects.specs.Effects.{effect}
use Rattle.proof_rules.proofs.Ends.{Before}
use Rattle.proof_rules.proofs.Free.{free_id}
use Rattle.proof_rules.proofs.Accepted.{Accepted, message_named}
use Rattle.spec_effects.proofs.ByKind.{◌▸◌, end, effect_of}
use Rattle.proof_rules.proofs.OfDestroy.{freed_record}
use Rattle.spec_notes.specs.Rows.{event_row, message_row}
use Rattle.spec_notes.specs.Touched.{same_row, same_event, same_message, touched_event, touched_message}
use Rattle.spec_notes.proofs.Counting.{same_message_record}
use Rattle.spec_notes.proofs.StaysAtMessages.{first_member}

pub record Slight (k : Kernel) (c : Call) (u : Kernel) : Type 0 where
  -- at most event a changes
  pub events : (i : ℕ) → touched_event k c u i ≡ true → i ≡ c.a
  -- a message that is touched was live as the note predicts
  pub lives : (m : ℕ) → touched_message k c u m ≡ true → one (message k m).live ≡ cond (is c 24) 0 1
  -- at most one changes its channel alone
  pub which : ℕ
  pub alike : (m : ℕ) → touched_message k c u m ≡ true → same_message_record (message k m) (message u m) ≡ true → m ≡ which

-- ---- a record that stays isn't touched
pub row_same : (l : List ℕ) → same_row l l ≡ true
row_same [] = refl
row_same (x ∷ l) = rw (same x, row_same l)

module _ (k : Kernel) (c : Call) (u : Kernel) where
  pub event_stays : (i : ℕ) → event u i ≡ event k i → touched_event k c u i ≡ true → ⊥
  unfolding touched_event same_event
  event_stays i e h = false≢true (sym (rw (e, row_same (event_row (event k i)))) ∙ h)

  pub message_stays : (m : ℕ) → message u m ≡ message k m → touched_message k c u m ≡ true → ⊥
  unfolding touched_message same_message
  message_stays m e h = false≢true (sym (rw (e, row_same (message_row (message k m) 0))) ∙ h)

  -- ---- the kinds of change
  -- no message
  no_message_lem : ((i : ℕ) → touched_event k c u i ≡ true → i ≡ c.a) → u.messages ≡ k.messages → Slight k c u
  no_message_lem f e = record {
    events = f;
    lives = λ m t. absurd (message_stays m (rw e) t);
    which = 0;
    alike = λ m t _. absurd (message_stays m (rw e) t);
  }

  pub no_change : u.events ≡ k.events → u.messages ≡ k.messages → Slight k c u
  no_change d e = no_message_lem (λ i t. absurd (event_stays i (rw d) t)) e

  -- a message gets a record
  one_message : (m : ℕ) (r : Message) → u.events ≡ k.events → u.messages ≡ (move_message m r k).messages
      → one (message k m).live ≡ cond (is c 24) 0 1 → Slight k c u
  one_message m r d e l =
      let only : (x : ℕ) → touched_message k c u x ≡ true → x ≡ m =
      λ x t. cases (eqb x m) (eqb-true x m) (λ f. absurd (message_stays x (rw e (repost_other (posts_of k) m r (eqb-false x m f))) t)) in
      record {
        events = λ i t. absurd (event_stays i (rw d) t);
        lives = λ x t. rw (only x t) l;
        which = m;
        alike = λ x t _. only x t;
      }

-- ---- what a post and the tick leave
pub post_parts : (i : ℕ) (k : Kernel) → ((post i k).events ≡ k.events) × ((post i k).messages ≡ k.messages)
unfolding post wake
post_parts i k = go (semaphore_queue k i)
  where
    go : (q : List ℕ) → ((post_to q i k).events ≡ k.events) × ((post_to q i k).messages ≡ k.messages)
    go [] = (refl, refl)
    go (t ∷ q) = (refl, refl)

pulse_parts : (i : ℕ) (k : Kernel) → ((pulse i k).events ≡ k.events) × ((pulse i k).messages ≡ k.messages)
unfolding pulse
pulse_parts i k =
    cases (eqb (semaphore k i).period 0) (λ e. rw e (refl, refl))
    (λ e. cases (eqb (semaphore k i).ticks 1) (λ h. rw (e, h) (post_parts i k)) (λ h. rw (e, h) (refl, refl)))

pub pulses_parts : (i n : ℕ) (k : Kernel) → ((pulse_from i n k).events ≡ k.events) × ((pulse_from i n k).messages ≡ k.messages)
unfolding pulse_from
pulses_parts i zero k = (refl, refl)
pulses_parts i (suc n) k =
    let (a, b) = pulse_parts i k in
    let (d, e) = pulses_parts (suc i) n (pulse i k) in
    (d ∙ a, e ∙ b)

-- ---- the kinds
module _ {k : Kernel} (B : Before k) {c : Call} (A : Accepted k c) where
  quiet : (u : Kernel) → u.events ≡ k.events → u.messages ≡ k.messages → {n : ℕ} → c.kind ≡ n → Slight k c u
  quiet u d e _ = no_change k c u d e

  kind_1 : c.kind ≡ 1 → Slight k c (tick k c)
  unfolding tick
  kind_1 _ = let (d, e) = pulses_parts 0 semaphore_count _ in no_change k c (tick k c) d e

  -- those that the thread owns are freed
  kind_3 : c.kind ≡ 3 → Slight k c (destroy_thread k c)
  unfolding destroy_thread free_messages same_message_record same_message
  kind_3 e =
      let u : Kernel = destroy_thread k c in
      let owned : (m : ℕ) → touched_message k c u m ≡ true → owns c.a (message k m) ≡ true =
      λ m t. cases (owns c.a (message k m)) (λ o. o) (λ o. absurd (message_stays k c u m (freed_record c.a k m ∙ rw o) t)) in
      let live : (m : ℕ) → touched_message k c u m ≡ true → (message k m).live ≡ true =
      λ m t. ((and-eq-true_iff (message k m).live (eqb (message k m).owner c.a)).0 (owned m t)).0 in
      record {
        events = λ i t. absurd (event_stays k c u i refl t);
        lives = λ m t. rw (live m t, e);
        which = 0;
        alike = λ m t s. absurd (false≢true (rw (freed_record c.a k m, owned m t, live m t) at s));
      }

  kind_19 : {n : ℕ} → c.kind ≡ n → Slight k c (post_semaphore k c)
  unfolding post_semaphore
  kind_19 _ = let (d, e) = post_parts c.a k in no_change k c (post_semaphore k c) d e

  kind_18 : c.kind ≡ 18 → Slight k c (pend_semaphore k c)
  unfolding pend_semaphore block
  kind_18 e =
      cases (ltb 0 (semaphore k c.a).count) (λ h. rw h (no_change k c _ refl refl)) (λ h. rw h (no_change k c _ refl refl))

  kind_21 : c.kind ≡ 21 → Slight k c (pend_event k c)
  unfolding pend_event block
  kind_21 e =
      cases (is_true k.bits (event k c.a)) (λ h. rw h (no_change k c _ refl refl)) (λ h. rw h (no_change k c _ refl refl))

  kind_20 : c.kind ≡ 20 → Slight k c (load_event k c)
  unfolding load_event worked_out
  kind_20 e =
      no_message_lem k c (load_event k c)
      (λ i t. cases (eqb i c.a) (eqb-true i c.a)
      (λ f. absurd (event_stays k c (load_event k c) i (get_or-set_other k.events c.a i _ no_event (eqb-false i c.a f)) t)))
      refl

  kind_24 : c.kind ≡ 24 → Slight k c (create_message k c)
  unfolding create_message none_free named value_of kind_of
  kind_24 e =
      let (_, dead) = free_id (λ r. r.live) no_message k.messages (simp (e, or-false) at A.free) in
      one_message k c (create_message k c) (free_message k) _ refl refl (rw (dead, e))

  kind_25 : c.kind ≡ 25 → Slight k c (destroy_message k c)
  unfolding destroy_message
  kind_25 e =
      let l = message_named A e refl in
      one_message k c (destroy_message k c) c.a no_message refl refl (rw (l, e))

  kind_26 : c.kind ≡ 26 → Slight k c (post_message k c)
  unfolding post_message hand_over
  kind_26 e =
      let l = message_named A e refl in
      cases (awaits (thread k c.b).condition (as_byte c.c))
      (λ h. rw h (one_message k c _ c.a _ refl refl (rw (l, e)))) (λ h. rw h (one_message k c _ c.a _ refl refl (rw (l, e))))

  kind_27 : c.kind ≡ 27 → Slight k c (pend_message k c)
  unfolding pend_message receive first_for block
  kind_27 e =
      let m = next_message k c.b in
      let mine : ℕ → Bool = λ x. is_for k.runner c.b (message k x) in
      cases (eqb m 255) (λ h. rw h (no_change k c _ refl refl))
      (λ h. let (f, _) = kept mine (items k.posted) (first_member (keep mine (items k.posted)) (eqb-false m 255 h)) in
      let (_, masked) = (and-eq-true_iff (eqb (message k m).owner k.runner) (masks c.b (message k m).channel)).0 f in
      let (queued, _) = (and-eq-true_iff (ltb 0 (message k m).channel) _).0 masked in
      let l : (message k m).live ≡ true =
      cases (message k m).live (λ l. l)
      (λ l. let z = ap (λ (r : Message). r.channel) ((B.core.messages m).gone l) in absurd
      (omega (arith, ltb-true 0 (message k m).channel queued))) in
      rw h (one_message k c _ m _ refl refl (rw (l, e))))

  pub effect_slight : Slight k c (effect k c)
  unfolding create_thread set_priority reset_priority yielded sleep block push_unscheduled pop_unscheduled pop_all_unscheduled
      push_critical pop_critical pop_all_critical create_semaphore destroy_semaphore make_periodic remove_periodic set_bit clear_bit worked_out
      create_flag destroy_flag pend_flag post_flag
  effect_slight =
      effect_of A (Slight k c) λ kind_0.
      kind_0
      ▸ kind_1
      ▸ quiet _ refl refl  -- 2
      ▸ kind_3
      ▸ quiet _ refl refl  -- 4
      ▸ quiet _ refl refl  -- 5
      ▸ quiet _ refl refl  -- 6
      ▸ quiet _ refl refl  -- 7
      ▸ quiet _ refl refl  -- 8
      ▸ quiet _ refl refl  -- 9
      ▸ quiet _ refl refl  -- 10
      ▸ quiet _ refl refl  -- 11
      ▸ quiet _ refl refl  -- 12
      ▸ quiet _ refl refl  -- 13
      ▸ quiet _ refl refl  -- 14
      ▸ quiet _ refl refl  -- 15
      ▸ quiet _ refl refl  -- 16
      ▸ quiet _ refl refl  -- 17
      ▸ kind_18
      ▸ kind_19  -- 19
      ▸ kind_20
      ▸ kind_21
      ▸ quiet _ refl refl  -- 22
      ▸ quiet _ refl refl  -- 23
      ▸ kind_24
      ▸ kind_25
      ▸ kind_26
      ▸ kind_27
      ▸ kind_19  -- 28
      ▸ quiet _ refl refl  -- 29
      ▸ quiet _ refl refl  -- 30
      ▸ quiet _ refl refl  -- 31
      ▸ quiet _ refl refl  -- 32
      ▸ quiet _ refl refl  -- 33
      ▸ quiet _ refl refl  -- 34
      ▸ end
