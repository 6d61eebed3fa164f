-- The kinds 3 and 24 to 27: messages that come, go and change hands.
use Prim.Native.Nat.{ℕ, zero, suc, ◌<◌}
use mathlib.Core.Path.{◌≡◌, refl, sym, ap, ◌∙◌}
use mathlib.Core.Bool.{Bool, true, false, not, ◌&&◌, and-false, and-eq-true_iff, or-false, false≢true}
use mathlib.Core.List.{List, [], ◌∷◌}
use native.Mathlib.Nat.{mod-eq_of_lt}
use native.Mathlib.Omega.{arith}
use lib.Dec.{eqb, ltb}
use lib.ListN.{get_or}
use borrow.Author.Tests.{eqb-true, eqb-false, ne_eqb, ltb-true, ltb-false, not-false}
use borrow.Table.Steps.{cases}
use Rattle.base_queue.specs.Lists.{count, keep, first_of}
use Rattle.base_queue.specs.Queues.{items}
use Rattle.base_queue.proofs.Counts.{count_head, kept, keep_keep, keep_same}
use Rattle.base_queue.proofs.Queues.{items_pack}
use Rattle.spec_kernel.specs.declared.records.Condition.{Condition}
use Rattle.spec_kernel.specs.declared.records.Condition.TheVariants.{Ready, Asleep, ForSemaphore, ForEvent, ForMessage, ForFlag}
use Rattle.spec_kernel.specs.declared.records.Wake.{Wake}
use Rattle.spec_kernel.specs.declared.records.Thread.{Thread}
use Rattle.spec_kernel.specs.declared.records.Message.{Message}
use Rattle.spec_kernel.specs.declared.records.Kernel.{Kernel}
use Rattle.spec_kernel.specs.Sizes.{channel_count}
use Rattle.spec_kernel.specs.Records.{thread, message, no_thread, no_message}
use Rattle.spec_kernel.specs.Conditions.{ready_for, masks, awaits}
use Rattle.spec_moves.specs.Standing.{posts_of}
use Rattle.spec_moves.proofs.Posts.{repost_same}
use Rattle.spec_kernel.specs.Free.{free_message}
use Rattle.spec_kernel.specs.Channels.{is_for, first_for, next_message}
use Rattle.spec_calls.specs.declared.call.Call.{Call}
use Rattle.spec_calls.specs.Kinds.{kind_of, from_thread}
use Rattle.spec_refusals.specs.Named.{named, value_of}
use Rattle.spec_refusals.specs.Refusals.{bad_number, is_in_channel, not_owner, none_free}
use Rattle.spec_moves.specs.States.{move_message, as_byte}
use Rattle.spec_threads.specs.Threads.{awake, owns, free_messages, destroy_thread}
use Rattle.spec_messages.specs.Messages.{create_message, destroy_message, hand_over, post_message, receive, pend_message}
use Rattle.proof_rules.proofs.Core.{live_thread}
use Rattle.proof_rules.proofs.Ends.{Before}
use Rattle.proof_rules.proofs.Free.{free_id}
use Rattle.proof_rules.proofs.Accepted.{Accepted, inside, thread_named, message_named}
use Rattle.proof_rules.proofs.OfDestroy.{freed_record}
use Rattle.proof_rules.proofs.Steps.{ready_live, caller_ready}
use Rattle.spec_notes.specs.Rows.{message_row}
use Rattle.spec_notes.specs.Touched.{same_row, same_message, touched_thread, touched_message}
use Rattle.spec_notes.proofs.Stays.{PostsStay, Left, quiet, up_code, live_code, down_code, code_stays, file_stays, block_left}

-- ---- rows that differ at a place
rows_differ : (l m : List ℕ) (i : ℕ) → (get_or l i 0 ≡ get_or m i 0 → ⊥) → same_row l m ≡ false
rows_differ [] [] i h = absurd (h refl)
rows_differ [] (y ∷ m) i h = refl
rows_differ (x ∷ l) [] i h = refl
rows_differ (x ∷ l) (y ∷ m) zero h = rw (ne_eqb x y h)
rows_differ (x ∷ l) (y ∷ m) (suc i) h = rw (rows_differ l m i h, and-false)

abbrev field : ℕ → Message → ℕ
field i r = get_or (message_row r 0) i 0

-- a message is touched where a field changes: 0 live, 1 owner, 6 channel
touched_field : (k : Kernel) (c : Call) (u : Kernel) (m i : ℕ)
    → (field i (message k m) ≡ field i (message u m) → ⊥) → touched_message k c u m ≡ true
unfolding touched_message same_message
touched_field k c u m i h = rw (rows_differ (message_row (message k m) 0) (message_row (message u m) 0) i h)

-- ---- messages that a thread owns are freed
free_stays : (k : Kernel) (c : Call) (t : ℕ) → PostsStay k c (free_messages t k)
unfolding free_messages
free_stays k c t =
    rw (items_pack (keep others (items k.posted)), keep_keep) (keep_same (items k.posted) (λ m _. both m))
  where
    others : ℕ → Bool
    others m = not (owns t (message k m))

    stays : ℕ → Bool
    stays m = not (touched_message k c (free_messages t k) m)

    both : (m : ℕ) → (others m && stays m) ≡ stays m
    both m =
        cases (owns t (message k m))
        (λ e. let l = ((and-eq-true_iff (message k m).live (eqb (message k m).owner t)).0 e).0 in
        rw (e, touched_field k c (free_messages t k) m 0 (rw (freed_record t k m, e, l) (λ z. omega arith))))
        (λ e. rw e)

-- ---- who awaits messages isn't up
awaits_down : (c : Condition) (n : ℕ) → awaits c n ≡ true → ready_for c ≡ false
awaits_down Ready n h = absurd (false≢true h)
awaits_down Asleep n h = refl
awaits_down (ForSemaphore i) n h = refl
awaits_down (ForEvent i) n h = refl
awaits_down (ForMessage mask) n h = refl
awaits_down (ForFlag i) n h = refl

-- the first of a list is a member
pub first_member : (l : List ℕ) → (first_of l ≡ 255 → ⊥) → 0 < count (first_of l) l
first_member [] h = absurd (h refl)
first_member (x ∷ l) h = count_head x l

-- ---- the kinds
module _ {k : Kernel} (B : Before k) {c : Call} (A : Accepted k c) where
  pub kind_3 : c.kind ≡ 3 → Left k c (destroy_thread k c)
  unfolding destroy_thread free_messages touched_thread touched_message
  kind_3 e =
      let l = thread_named A e refl in
      quiet (refl, refl) (refl, refl, refl)
      (code_stays k c c.a no_thread B.core.standing.count (λ z. omega (arith, live_code (thread k c.a) l)))
      (free_stays k c c.a) e

  -- a message gets a record that differs in a field
  file_differs : (m : ℕ) (r : Message) (i : ℕ) → (field i (message k m) ≡ field i r → ⊥) → PostsStay k c (move_message m r k)
  file_differs m r i h =
      file_stays k c m r
      (λ b. touched_field k c (move_message m r k) m i (λ z. h (z ∙ ap (field i) (repost_same (posts_of k) m r B.core.filed.count b))))

  pub kind_24 : c.kind ≡ 24 → Left k c (create_message k c)
  unfolding create_message none_free named value_of kind_of
  kind_24 e =
      let m = free_message k in
      let (_, dead) = free_id (λ r. r.live) no_message k.messages (simp (e, or-false) at A.free) in
      quiet (refl, refl) (refl, refl, refl) (refl, refl) (file_differs m _ 0 (rw dead (λ z. omega arith))) e

  pub kind_25 : c.kind ≡ 25 → Left k c (destroy_message k c)
  unfolding destroy_message
  kind_25 e =
      let l = message_named A e refl in
      quiet (refl, refl) (refl, refl, refl) (refl, refl) (file_differs c.a no_message 0 (rw l (λ z. omega arith))) e

  -- the recipient that awaits the channel wakes, and the message has another owner; else it has a channel
  pub kind_26 : c.kind ≡ 26 → Left k c (post_message k c)
  unfolding post_message hand_over bad_number is_in_channel not_owner named from_thread kind_of touched_thread touched_message
  kind_26 e =
      let (low, high) = inside 1 channel_count c.c (simp (e, or-false) at A.numbers) in
      let l = thread_named A e refl in
      let m = message_named A e refl in
      let held = ltb-false 0 (message k c.a).channel (simp (e, m) at A.held) in
      let own = eqb-true (message k c.a).owner k.runner (not-false _ (rw e at A.owner)) in
      let b = live_thread B.core c.b l in
      let t : as_byte c.b ≡ c.b = mod-eq_of_lt (omega arith) in
      let n : as_byte c.c ≡ c.c = mod-eq_of_lt (omega arith) in
      let ready = caller_ready B A (rw e) in
      let up = rw (ready_live (thread k k.runner) ready) at ready in
      rw (t, n)
      (cases (awaits (thread k c.b).condition c.c)
      (λ h. let down = awaits_down (thread k c.b).condition c.c h in
      let r : Thread = awake Wake.Met c.a (thread k c.b) in
      rw h
      (quiet (refl, refl) (refl, refl, refl)
      (code_stays k c c.b r B.core.standing.count (λ z. omega (arith, down_code (thread k c.b) l down, up_code r refl)))
      (file_differs c.a _ 1 (λ z. false≢true (sym down ∙ (rw (sym own ∙ z) at up)))) e))
      (λ h. rw h (quiet (refl, refl) (refl, refl, refl) (refl, refl) (file_differs c.a _ 6 (λ z. omega arith)) e)))

  -- the caller blocks, or takes a message off its channel
  pub kind_27 : c.kind ≡ 27 → Left k c (pend_message k c)
  unfolding pend_message receive first_for from_thread kind_of
  kind_27 e =
      let m = next_message k c.b in
      let mine : ℕ → Bool = λ x. is_for k.runner c.b (message k x) in
      cases (eqb m 255)
      (λ h. rw h (block_left B A (refl, refl) (rw e) (ForMessage c.b) c.c refl e))
      (λ h. let (f, _) = kept mine (items k.posted) (first_member (keep mine (items k.posted)) (eqb-false m 255 h)) in
      let (_, masked) = (and-eq-true_iff (eqb (message k m).owner k.runner) (masks c.b (message k m).channel)).0 f in
      let (queued, _) = (and-eq-true_iff (ltb 0 (message k m).channel) _).0 masked in
      rw h
      (quiet (refl, refl) (refl, refl, refl) (refl, refl)
      (file_differs m _ 6 (λ z. omega (arith, ltb-true 0 (message k m).channel queued))) e))
