-- Messages: what create, destroy, post and pend keep.
use Prim.Native.Nat.{ℕ, ◌≤◌, ◌<◌}
use mathlib.Core.Path.{◌≡◌, refl, sym, ap, ◌∙◌}
use mathlib.Core.Bool.{Bool, true, false, ◌&&◌, and-true, and-eq-true_iff, or-false, false≢true}
use mathlib.Core.List.{List, [], ◌∷◌}
use mathlib.Core.Logic.{inl}
use native.Mathlib.Nat.{mod-eq_of_lt}
use native.Mathlib.Omega.{arith}
use lib.Dec.{eqb, ltb}
use lib.ListN.{get_or}
use borrow.Author.Tests.{eqb-true, eq-eqb, ltb-true, ltb-false}
use borrow.Table.Steps.{cases}
use Rattle.base_queue.specs.Lists.{count, keep, first_of}
use Rattle.base_queue.specs.Queues.{items}
use Rattle.base_queue.proofs.Counts.{count_head, count_keep, kept}
use Rattle.spec_kernel.specs.declared.records.Condition.{Condition}
use Rattle.spec_kernel.specs.declared.records.Condition.TheVariants.{Ready, Asleep, ForSemaphore, ForEvent, ForMessage, ForFlag}
use Rattle.spec_kernel.specs.declared.records.Wake.{Wake}
use Rattle.spec_kernel.specs.declared.records.Thread.{Thread}
use Rattle.spec_kernel.specs.declared.records.Message.{Message}
use Rattle.spec_kernel.specs.declared.records.Kernel.{Kernel}
use Rattle.spec_kernel.specs.Sizes.{thread_count, message_count, channel_count}
use Rattle.spec_kernel.specs.Records.{thread, message, no_thread, no_message}
use Rattle.spec_kernel.specs.Conditions.{masks, awaits}
use Rattle.spec_moves.specs.Standing.{posts_of}
use Rattle.spec_moves.proofs.Posts.{repost_past}
use Rattle.spec_kernel.specs.Free.{free_message}
use Rattle.spec_kernel.specs.Channels.{is_for, first_for, next_message}
use Rattle.spec_calls.specs.declared.call.Call.{Call}
use Rattle.spec_calls.specs.Kinds.{from_thread, kind_of}
use Rattle.spec_refusals.specs.Named.{named, value_of}
use Rattle.spec_refusals.specs.Refusals.{in_region, bad_number, blocks_in_region, stops_caller}
use Rattle.spec_moves.specs.States.{move_message, as_byte}
use Rattle.spec_threads.specs.Threads.{awake}
use Rattle.spec_messages.specs.Messages.{passed, create_message, destroy_message, hand_over, post_message, receive, pend_message}
use Rattle.proof_rules.proofs.Core.{FineMessage, Core, untrue, live_thread, live_message, file_core, place_calm}
use Rattle.proof_rules.proofs.Ends.{Good, Before}
use Rattle.proof_rules.proofs.Accepted.{Accepted, inside, thread_named, message_named}
use Rattle.proof_rules.proofs.Steps.{ready_live, awake_fine, place_runs, caller_ready, block_good}

-- nobody awaits a message that is held
held_unawaited : (c : Condition) → awaits c 0 ≡ false
held_unawaited Ready = refl
held_unawaited Asleep = refl
held_unawaited (ForSemaphore i) = refl
held_unawaited (ForEvent i) = refl
held_unawaited (ForMessage mask) = refl
held_unawaited (ForFlag i) = refl

-- ---- records
pub none_fine : {T : List Thread} → FineMessage T no_message
none_fine = record { living = λ e. absurd (false≢true e); gone = λ _. refl }

-- a live message whose owner is live
module _ {T : List Thread} {r : Message} (l : r.live ≡ true) (o : (get_or T r.owner no_thread).live ≡ true)
    (s : r.sender < thread_count) where
  -- on a channel that the owner doesn't await
  queued_fine : r.channel ≤ channel_count → awaits (get_or T r.owner no_thread).condition r.channel ≡ false → FineMessage T r
  queued_fine b u = record {
    living = λ _. record { owner = o; sender = s; channel = b; unawaited = u };
    gone = λ e. absurd (false≢true (sym e ∙ l));
  }

  -- or held
  held_fine : r.channel ≡ 0 → FineMessage T r
  held_fine e = queued_fine (omega arith) (rw e (held_unawaited (get_or T r.owner no_thread).condition))

-- one that its owner takes
received_fine : {T : List Thread} {r : Message} → FineMessage T r → FineMessage T (passed r.owner r.sender 0 r)
received_fine F = record {
  living = λ e. let L = F.living e in (held_fine e L.owner L.sender refl).living e;
  gone = λ e. ap (λ (n : Message). passed n.owner n.sender 0 n) (F.gone e);
}

-- an id too large changes nothing
file_any : {waited : ℕ → Bool} {k : Kernel} → Core waited k → (m : ℕ) {r : Message} → FineMessage k.threads r
    → Core waited (move_message m r k)
file_any {waited} {k} C m {r} F =
    cases (ltb m message_count) (λ e. file_core C m (ltb-true m message_count e) r F)
    (λ e. rw (repost_past (posts_of k) m r (ltb-false m message_count e)) C)

-- ---- where a pend finds no message, its caller owns none on a masked channel
module _ {waited : ℕ → Bool} {k : Kernel} (C : Core waited k) (mask : ℕ) where
  abbrev found : List ℕ
  found = keep (λ m. is_for k.runner mask (message k m)) (items k.posted)

  -- the first of those that are found has an id
  found_first : (m : ℕ) (l : List ℕ) → found ≡ l → first_of l ≡ 255 → count m l ≡ 0
  found_first m [] e z = refl
  found_first m (x ∷ l) e z =
      let (_, p) = kept (λ u. is_for k.runner mask (message k u)) (items k.posted) {x = x} (rw e (count_head x l)) in
      let live = cases (message k x).live (λ h. h) (λ h. absurd (omega (arith, rw (C.filed.placed x, h) at p))) in
      absurd (omega (arith, live_message C x live))

  none_found : next_message k mask ≡ 255 → (m : ℕ) → (message k m).live ≡ true → (message k m).owner ≡ k.runner
      → masks mask (message k m).channel ≡ false
  unfolding first_for
  none_found e m l o =
      let r = message k m in
      cases (masks mask r.channel)
      (λ h. let (q, bit) = (and-eq-true_iff (ltb 0 r.channel) _).0 h in
      let one : count m found ≡ 1 = rw (count_keep, C.filed.placed m, l, q, eq-eqb r.owner k.runner o, bit) in
      absurd (omega (arith, found_first m found refl e)))
      (λ h. h)

-- ---- the kinds
module _ {k : Kernel} (B : Before k) {c : Call} (A : Accepted k c) where
  pub kind_24 : c.kind ≡ 24 → Good (create_message k c)
  unfolding create_message from_thread kind_of
  kind_24 e =
      let l = ready_live (thread k k.runner) (caller_ready B A (rw e)) in
      record { core = file_any B.core (free_message k) (held_fine refl l (live_thread B.core k.runner l) refl); runs = B.runs }

  pub kind_25 : c.kind ≡ 25 → Good (destroy_message k c)
  unfolding destroy_message
  kind_25 _ = record { core = file_any B.core c.a none_fine; runs = B.runs }

  -- the recipient that awaits the channel wakes, and holds the message
  pub kind_26 : c.kind ≡ 26 → Good (post_message k c)
  unfolding post_message hand_over bad_number from_thread kind_of
  kind_26 e =
      let C = B.core in
      let s = live_thread C k.runner (ready_live (thread k k.runner) (caller_ready B A (rw e))) in
      let (_, high) = inside 1 channel_count c.c (simp (e, or-false) at A.numbers) in
      let l = thread_named A e refl in
      let m = message_named A e refl in
      let b = live_thread C c.b l in
      let t : as_byte c.b ≡ c.b = mod-eq_of_lt (omega arith) in
      let n : as_byte c.c ≡ c.c = mod-eq_of_lt (omega arith) in
      rw (t, n)
      (cases (awaits (thread k c.b).condition c.c)
      (λ h. let D : Core (untrue k) (move_message c.a (passed c.b k.runner 0 (message k c.a)) k) =
      file_any C c.a (held_fine m l s refl) in
      let r : Thread = awake Wake.Met c.a (thread k c.b) in
      rw h
      (record {
        core = place_calm D c.b b r (awake_fine (C.threads c.b) l Wake.Met c.a (inl (live_message C c.a m))) l (λ _. refl);
        runs = place_runs D c.b b r B.runs (λ _ _. rw l);
      }))
      (λ h. rw h (record { core = file_any C c.a (queued_fine m l s high h); runs = B.runs })))

  -- the caller takes a message that it owns, or blocks where there is none
  pub kind_27 : c.kind ≡ 27 → Good (pend_message k c)
  unfolding pend_message receive bad_number blocks_in_region stops_caller named value_of from_thread kind_of
  kind_27 e =
      let C = B.core in
      let mask = inside 1 32767 c.b (simp (e, or-false) at A.numbers) in
      let m = next_message k c.b in
      let region : (in_region k.unscheduled k.critical && eqb m 255) ≡ false = simp (e, or-false) at A.region in
      cases (eqb m 255)
      (λ h. rw h
      (block_good B (caller_ready B A (rw e)) (ForMessage c.b) c.c (omega arith) (simp (h, and-true) at region)
      (none_found C c.b (eqb-true m 255 h))))
      (λ h. rw h (record { core = file_any C m (received_fine (C.messages m)); runs = B.runs }))
