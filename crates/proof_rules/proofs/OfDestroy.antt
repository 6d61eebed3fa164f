-- A thread is destroyed: the messages that it owns are freed, and it leaves every queue.
use Prim.Native.Nat.{ℕ, ◌<◌}
use mathlib.Core.Path.{◌≡◌, refl, sym, ap, ◌∙◌}
use mathlib.Core.Bool.{Bool, true, false, not, cond, ◌&&◌, false≢true, or-false}
use mathlib.Core.List.{List}
use lib.Dec.{eqb}
use lib.ListN.{length-map, get_or-map}
use borrow.Author.Tests.{lt-ltb, not-true}
use borrow.Table.Steps.{cases}
use Rattle.base_queue.specs.Lists.{count, keep}
use Rattle.base_queue.specs.Queues.{items}
use Rattle.base_queue.specs.Tables.{one}
use Rattle.base_queue.proofs.Counts.{same, count_keep, kept}
use Rattle.base_queue.proofs.Orders.{ordered_keep, ordered_keys}
use Rattle.base_queue.proofs.Queues.{items_pack, tidy_pack}
use Rattle.spec_kernel.specs.declared.records.Message.{Message}
use Rattle.spec_kernel.specs.declared.records.Kernel.{Kernel}
use Rattle.spec_kernel.specs.Records.{message, no_thread, no_message}
use Rattle.spec_kernel.specs.Places.{is_queued, stream_of}
use Rattle.spec_moves.specs.Standing.{posts_of, Filed}
use Rattle.spec_calls.specs.declared.call.Call.{Call}
use Rattle.spec_refusals.specs.Refusals.{in_region, blocks_in_region, stops_caller}
use Rattle.spec_threads.specs.Threads.{owns, freed_from, free_messages, destroy_thread}
use Rattle.proof_rules.proofs.Core.{Core, FineMessage, live_thread, place_core}
use Rattle.proof_rules.proofs.Ends.{Good, Before}
use Rattle.proof_rules.proofs.Accepted.{Accepted, thread_named}
use Rattle.proof_rules.proofs.OfMessages.{none_fine}
use Rattle.proof_rules.proofs.Steps.{place_runs}

module _ (t : ℕ) (k : Kernel) where
  pub freed_record : (m : ℕ) → message (free_messages t k) m ≡ freed_from t (message k m)
  unfolding free_messages
  freed_record m = get_or-map (freed_from t) k.messages m no_message

  -- a message that t doesn't own is as it was
  pub freed_other : (m : ℕ) → owns t (message k m) ≡ false → message (free_messages t k) m ≡ message k m
  freed_other m e = rw (freed_record m, e)

  -- what holds of the freed, and of those that t doesn't own, holds of each
  each_freed : (P : Message → Type 0) (m : ℕ) → P no_message → (owns t (message k m) ≡ false → P (message k m))
      → P (message (free_messages t k) m)
  each_freed P m z f = rw (freed_record m) (cases (owns t (message k m)) (λ e. rw e z) (λ e. rw e (f e)))

  -- those that t doesn't own
  abbrev others : ℕ → Bool
  others m = not (owns t (message k m))

  abbrev left : List ℕ
  left = keep others (items k.posted)

  left_record : (m : ℕ) → 0 < count m left → message (free_messages t k) m ≡ message k m
  left_record m c = freed_other m (not-true (owns t (message k m)) (kept others (items k.posted) c).0)

  freed_queued : (r : Message) → cond (not (owns t r)) (one (is_queued r)) 0 ≡ one (is_queued (freed_from t r))
  freed_queued r = cases (owns t r) (λ e. rw e) (λ e. rw e)

  -- they stand where they stood
  pub freed_filed : Filed (posts_of k) → Filed (posts_of (free_messages t k))
  unfolding free_messages
  freed_filed F = record {
    count = length-map k.messages (freed_from t) ∙ F.count;
    tidy = tidy_pack left;
    placed = λ m. rw (items_pack, freed_record m, count_keep, F.placed m) (freed_queued (message k m));
    in_stream =
        rw items_pack
        (ordered_keys left (λ m c. ap stream_of (left_record m c))
        (ordered_keep (λ m. stream_of (message k m)) others (items k.posted) F.in_stream));
  }

  freed_core : {waited : ℕ → Bool} → Core waited k → Core waited (free_messages t k)
  unfolding free_messages
  freed_core C = record {
    standing = C.standing;
    filed = freed_filed C.filed;
    semaphores_sized = C.semaphores_sized;
    events_sized = C.events_sized;
    threads = C.threads;
    semaphores = C.semaphores;
    messages = λ m. each_freed (FineMessage k.threads) m none_fine (λ _. C.messages m);
  }

  -- t owns none
  pub freed_owner : (m : ℕ) → (message (free_messages t k) m).live ≡ true → (message (free_messages t k) m).owner ≡ t → ⊥
  freed_owner m =
      each_freed (λ r. r.live ≡ true → r.owner ≡ t → ⊥) m (λ e _. false≢true e) (λ e l o. false≢true (sym e ∙ rw (l, o, same)))

-- in a region the caller stays
pub kind_3 : {k : Kernel} → Before k → {c : Call} → Accepted k c → c.kind ≡ 3 → Good (destroy_thread k c)
unfolding destroy_thread free_messages blocks_in_region stops_caller
kind_3 {k} B {c} A e =
    let l = thread_named A e refl in
    let region : (in_region k.unscheduled k.critical && eqb c.a k.runner) ≡ false = simp (e, or-false) at A.region in
    let C = freed_core c.a k B.core in
    let b = live_thread B.core c.a l in
    record {
      core =
          place_core C c.a b no_thread (record { living = λ h. absurd (false≢true h); gone = λ _. refl })
          (λ m h z. absurd (freed_owner c.a k m h z));
      runs = place_runs C c.a b no_thread B.runs (λ p z. absurd (false≢true (sym region ∙ rw (lt-ltb 0 _ p, z, same))));
    }
