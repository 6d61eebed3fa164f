-- Destroying a thread: it leaves no trace but as a sender.
use mathlib.Core.Path.{◌≡◌, refl, sym, ◌∙◌}
use mathlib.Core.Bool.{true, not, ◌&&◌, false≢true, and-eq-true_iff}
use mathlib.Core.List.{[]}
use Prim.Native.Nat.{ℕ, ◌<◌}
use native.Mathlib.Omega.{arith}
use lib.Dec.{eqb}
use lib.ListN.{get_or-map}
use borrow.Author.Tests.{eqb-true, eqb-false, eq-eqb, ne_eqb}
use borrow.Table.Steps.{cases}
use Rattle.base_queue.specs.Lists.{keep, count}
use Rattle.base_queue.specs.Queues.{items}
use Rattle.base_queue.proofs.Counts.{keep_keep, keep_same}
use Rattle.base_queue.proofs.Queues.{items_pack}
use Rattle.spec_kernel.specs.declared.records.Message.{Message}
use Rattle.spec_kernel.specs.declared.records.Kernel.{Kernel}
use Rattle.spec_kernel.specs.Sizes.{thread_count}
use Rattle.spec_kernel.specs.Records.{message, no_thread, no_message}
use Rattle.spec_kernel.specs.Places.{home_of, on_channel, channel}
use Rattle.spec_moves.specs.Standing.{threads_of, posts_of, Standing, Filed}
use Rattle.spec_moves.proofs.Threads.{relocate_same, relocate_other, relocate_leaves}
use Rattle.spec_calls.specs.declared.call.Call.{Call}
use Rattle.spec_threads.specs.Threads.{owns, freed_from, free_messages, destroy_thread}
use Rattle.spec_threads.proofs.LawsOfLists.{keep_none}
use Rattle.spec_threads.proofs.LawsOfHomes.{posted_live, time_left}
use Rattle.spec_laws.specs.OfThreads.{Destroyed}

module _ (k : Kernel) (a : ℕ) where
  abbrev after : Kernel
  after = free_messages a k

  -- a message of a's is freed
  freed_record : (m : ℕ) → message after m ≡ freed_from a (message k m)
  unfolding free_messages
  freed_record m = get_or-map (freed_from a) k.messages m no_message

  -- a live message is a's by its owner
  live_owned : (r : Message) → r.live ≡ true → owns a r ≡ eqb r.owner a
  live_owned r l = rw l

  -- a's messages are live, and it owns them
  owned_means : (r : Message) → owns a r ≡ true → (r.live ≡ true) × (r.owner ≡ a)
  owned_means r e = let (l, o) = (and-eq-true_iff r.live (eqb r.owner a)).0 e in (l, eqb-true r.owner a o)

  -- then it owns none
  no_owned : (m : ℕ) → (message after m).live ≡ true → (message after m).owner ≡ a → ⊥
  no_owned m l o =
      let z = freed_record m in
      cases (owns a (message k m))
      (λ e. false≢true (rw (z, e) at l))
      (λ e. eqb-false (message k m).owner a (sym (live_owned (message k m) (rw (z, e) at l)) ∙ e) (rw (z, e) at o))

  -- what is left of a channel
  freed_channel : (t c : ℕ) → channel after t c ≡ keep (λ m. not (owns a (message k m)) && on_channel t c (message k m)) (items k.posted)
  unfolding free_messages
  freed_channel t c =
      rw (items_pack, keep_keep)
      (keep_same (items k.posted) λ m _.
      cases (owns a (message k m)) (λ e. rw e) (λ e. rw (freed_record m, e)))

  -- of its own nothing is, as who stands in a channel is live
  freed_channels : Filed (posts_of k) → (c : ℕ) → channel after a c ≡ []
  freed_channels F c =
      freed_channel a c
      ∙ keep_none (items k.posted) λ m p.
      cases (owns a (message k m)) (λ e. rw e)
      (λ e. rw (e, sym (live_owned (message k m) (posted_live F m p)) ∙ e))

  -- of another's all
  freed_others : (t c : ℕ) → (t ≡ a → ⊥) → channel after t c ≡ channel k t c
  freed_others t c ne =
      freed_channel t c
      ∙ keep_same (items k.posted) λ m _.
      cases (owns a (message k m))
      (λ e. rw (e, (owned_means (message k m) e).1, ne_eqb a t (λ z. ne (sym z))))
      (λ e. rw e)

pub destroy_destroys : (k : Kernel) (c : Call) → Standing (threads_of k) → Filed (posts_of k) → c.a < thread_count
    → Destroyed c.a k (destroy_thread k c)
unfolding destroy_thread free_messages home_of
destroy_destroys k c S F id =
    let a = c.a in
    record {
      lists = λ h b. relocate_leaves (threads_of k) a no_thread S id (λ z. omega arith);
      time = time_left S a id no_thread refl;
      itself = relocate_same (threads_of k) a no_thread S.count id;
      others = λ u ne. relocate_other (threads_of k) a no_thread ne;
      freed = λ m l o. freed_record k a m ∙ rw (l, eq-eqb (message k m).owner a o);
      owned = no_owned k a;
      channels = freed_channels k a F;
      messages = λ m ne.
          freed_record k a m
          ∙ cases (owns a (message k m)) (λ e. let o = owned_means k a (message k m) e in absurd (ne o.0 o.1)) (λ e. rw e);
      other_channels = freed_others k a;
      semaphores = refl;
      events = record { records = refl; bits = refl };
      flags = refl;
      scheduler = record { uptime = refl; unscheduled = refl; critical = refl; runner = refl };
    }
