-- Messages: pended and posted, made and unmade, as spec_laws says it.
use mathlib.Core.Path.{◌≡◌, refl, sym, ◌∙◌}
use mathlib.Core.Bool.{true, false, false≢true, and-true, and-false, and_self, and-eq-true_iff}
use mathlib.Core.List.{List, [], ◌∷◌}
use Prim.Native.Nat.{ℕ, ◌<◌}
use native.Mathlib.Nat.{mod-eq_of_lt}
use native.Mathlib.Omega.{arith}
use lib.Dec.{eqb, ltb}
use borrow.Author.Tests.{eqb-true, ne_eqb, ltb-true, ltb-false, lt-ltb}
use borrow.Table.Steps.{cases}
use Rattle.base_queue.specs.Lists.{keep, without, count, first_of}
use Rattle.base_queue.specs.Queues.{items}
use Rattle.base_queue.proofs.Counts.{same, count_head, count_keep, kept, keep_keep, keep_same}
use Rattle.base_queue.proofs.Orders.{ordered_low, ordered_keep}
use Rattle.spec_kernel.specs.declared.records.Condition.{Condition}
use Rattle.spec_kernel.specs.declared.records.Condition.TheVariants.{Ready, Asleep, ForSemaphore, ForEvent, ForMessage, ForFlag}
use Rattle.spec_kernel.specs.declared.records.Wake.{Wake}
use Rattle.spec_kernel.specs.declared.records.Message.{Message}
use Rattle.spec_kernel.specs.declared.records.Kernel.{Kernel}
use Rattle.spec_kernel.specs.Sizes.{message_count}
use Rattle.spec_kernel.specs.Records.{thread, message, no_message}
use Rattle.spec_kernel.specs.Free.{free_message}
use Rattle.spec_kernel.specs.Conditions.{ready_for, masks, awaits}
use Rattle.spec_kernel.specs.Places.{is_queued, stream_of, on_channel, channel}
use Rattle.spec_moves.specs.Standing.{threads_of, posts_of, Standing, Filed}
use Rattle.spec_moves.proofs.Posts.{repost_same, repost_other, repost_joins_channel, repost_leaves_channel}
use Rattle.spec_kernel.specs.Channels.{is_for, first_for, next_message}
use Rattle.spec_calls.specs.declared.call.Call.{Call}
use Rattle.spec_moves.specs.States.{move_message}
use Rattle.spec_messages.specs.Messages.{create_message, destroy_message, hand_over, post_message, receive, pend_message}
use Rattle.spec_laws.specs.Words.{handed, OnlyMessages}
use Rattle.spec_threads.proofs.LawsOfHomes.{Stopped, Runnable}
use Rattle.spec_threads.proofs.LawsOfLists.{keep_once, keep_missing, keep_absent, without_first}
use Rattle.spec_threads.proofs.LawsOfHomes.{message_id, posted_once, posted_live}
use Rattle.spec_threads.proofs.LawsOfWaking.{move_wakes}
use Rattle.spec_threads.proofs.LawsOfBlocking.{block_blocks}
use Rattle.spec_laws.specs.OfMessages.{MadeMessage, Queued, HandedOver, PostedMessage, Taken, PendedMessage}

-- ---- which message pend takes
module _ (k : Kernel) (t mask : ℕ) where
  -- what thread t may take, first to last
  abbrev mine : List ℕ
  mine = keep (λ m. is_for t mask (message k m)) (items k.posted)

  -- who stands in a channel has it
  on_channel_lem : (m c : ℕ) → 0 < count m (channel k t c)
      → ((message k m).owner ≡ t) × ((message k m).channel ≡ c) × (0 < count m (items k.posted))
  on_channel_lem m c p =
      let (e, q) = kept (λ u. on_channel t c (message k u)) (items k.posted) p in
      let (o, d) = (and-eq-true_iff (eqb (message k m).owner t) (eqb (message k m).channel c)).0 e in
      (eqb-true (message k m).owner t o, eqb-true (message k m).channel c d, q)

  -- who may be taken stands in a masked channel
  mine_masked : (m : ℕ) → 0 < count m mine → (masks mask (message k m).channel ≡ true) × (0 < count m (channel k t (message k m).channel))
  mine_masked m p =
      let (e, q) = kept (λ u. is_for t mask (message k u)) (items k.posted) p in
      let (o, d) = (and-eq-true_iff (eqb (message k m).owner t) (masks mask (message k m).channel)).0 e in
      (d, rw (count_keep, o, same) q)

  -- a masked channel is what it has of those
  masked_channel : (c : ℕ) → masks mask c ≡ true → channel k t c ≡ keep (λ m. on_channel t c (message k m)) mine
  masked_channel c e =
      sym (rw keep_keep
      (keep_same (items k.posted) λ m _.
      cases (eqb (message k m).channel c)
      (λ z. let y : masks mask (message k m).channel
      ≡ true = rw (eqb-true (message k m).channel c z) e in simp (z, y, and-true, and_self))
      (λ z. simp (z, and-false))))

  -- where every masked channel is empty, none
  next_none : ((c : ℕ) → masks mask c ≡ true → channel k t c ≡ []) → first_for k.messages k.posted t mask ≡ 255
  unfolding first_for
  next_none h = go mine refl
    where
      go : (x : List ℕ) → mine ≡ x → first_of mine ≡ 255
      go [] z = rw z
      go (y ∷ r) z =
          let (e, c) = mine_masked y (rw z (count_head y r)) in
          absurd (omega (arith, rw (h (message k y).channel e) at c))

  -- Of the channels asked for, the lowest that has any, and there the one that came first [01, calls: Message 3].
  module _ (F : Filed (posts_of k)) (c m : ℕ) (l : List ℕ) (e : masks mask c ≡ true) (oldest : channel k t c ≡ m ∷ l)
      (lowest : (d : ℕ) → d < c → masks mask d ≡ true → channel k t d ≡ []) where
    next_oldest : first_for k.messages k.posted t mask ≡ m
    unfolding first_for stream_of
    next_oldest = go mine refl
      where
        there : 0 < count m (channel k t c)
        there = rw oldest (count_head m l)

        there-mine : 0 < count m mine
        there-mine = (kept (λ u. on_channel t c (message k u)) mine (rw (masked_channel c e) at there)).1

        go : (x : List ℕ) → mine ≡ x → first_of mine ≡ m
        go [] z = absurd (omega (arith, rw z at there-mine))
        go (y ∷ r) z =
            let (masked, stands) = mine_masked y (rw z (count_head y r)) in
            let (o, d, _) = on_channel_lem m c there in
            let (o', _, _) = on_channel_lem y (message k y).channel stands in
            let key : ℕ → ℕ = λ u. stream_of (message k u) in
            let order = rw z at (ordered_keep key (λ u. is_for t mask (message k u)) (items k.posted) F.in_stream) in
            let low = ordered_low key {low = key y} (y ∷ r) (omega arith, order.1) m (rw z at there-mine) in
            cases (ltb (message k y).channel c)
            (λ b. absurd (omega (arith, rw (lowest (message k y).channel (ltb-true (message k y).channel c b) masked) at stands)))
            (λ b. let d' : (message k y).channel ≡ c = omega (arith, ltb-false) in
            let first : first_of (channel k t c) ≡ y = rw (masked_channel c e, z, o', d', same t, same c) in
            rw z (sym first ∙ rw oldest))

-- ---- a message gets a record
-- a record is on no channel but its own
elsewhere : (r : Message) (u d : ℕ) → (u ≡ r.owner → d ≡ r.channel → ⊥) → on_channel u d r ≡ false
elsewhere r u d ne =
    cases (on_channel u d r)
    (λ e. let (o, c) = (and-eq-true_iff (eqb r.owner u) (eqb r.channel d)).0 e in
    absurd (ne (sym (eqb-true r.owner u o)) (sym (eqb-true r.channel d c))))
    (λ e. e)

module _ (k : Kernel) (F : Filed (posts_of k)) (m : ℕ) where
  -- a message stands in no other channel
  channel_absent : (u d : ℕ) → on_channel u d (message k m) ≡ false → without m (channel k u d) ≡ channel k u d
  channel_absent u d e = keep_missing (λ n. on_channel u d (message k n)) (items k.posted) m e

  -- one that is held stands in none
  held_absent : is_queued (message k m) ≡ false → (u d : ℕ) → without m (channel k u d) ≡ channel k u d
  held_absent e u d = keep_absent (λ n. on_channel u d (message k n)) (items k.posted) m (F.placed m ∙ rw e)

  -- who comes to be held is out of every channel
  held_leaves : m < message_count → (r : Message) → r.channel ≡ 0 → (u d : ℕ) → 0 < d
      → channel (move_message m r k) u d ≡ without m (channel k u d)
  held_leaves id r h u d b = repost_leaves_channel (posts_of k) m r F id u d (elsewhere r u d (λ _ z. omega arith))

-- nothing but messages changes
file_only : (m : ℕ) (r : Message) (k : Kernel) → OnlyMessages k (move_message m r k)
file_only m r k = record {
  threads = record { records = refl; places = refl; time = refl };
  semaphores = refl;
  events = record { records = refl; bits = refl };
  flags = refl;
  scheduler = record { uptime = refl; unscheduled = refl; critical = refl; runner = refl };
}

-- ---- pend
module _ (k : Kernel) (F : Filed (posts_of k)) (call : Call) where
  module _ (c m : ℕ) (l : List ℕ) (e : masks call.b c ≡ true) (oldest : channel k k.runner c ≡ m ∷ l)
      (lowest : (d : ℕ) → d < c → masks call.b d ≡ true → channel k k.runner d ≡ []) where
    -- the value that comes back
    pend_value : next_message k call.b ≡ m
    pend_value = next_oldest k k.runner call.b F c m l e oldest lowest

    pend_takes_oldest : Taken m k.runner c l k (pend_message k call)
    unfolding pend_message receive
    pend_takes_oldest =
        let t = k.runner in
        let there : 0 < count m (channel k t c) = rw oldest (count_head m l) in
        let (o, h, p) = on_channel_lem k t call.b m c there in
        let id = message_id F m (posted_live F m p) in
        let r = handed (message k m).owner (message k m).sender 0 (message k m) in
        let some : 0 < c = ltb-true 0 c ((and-eq-true_iff (ltb 0 c) _).0 e).0 in
        let once = keep_once (λ u. on_channel t c (message k u)) (items k.posted) m (posted_once F m) in
        rw (pend_value, ne_eqb m 255 (λ z. omega arith))
        (record {
          rest = held_leaves k F m id r refl t c some ∙ rw oldest (without_first m l (rw oldest at once));
          channels =
              λ u d b ne. held_leaves k F m id r refl u d b
              ∙ channel_absent k F m u d (elsewhere (message k m) u d (λ x y. ne (x ∙ o) (y ∙ h)));
          itself = repost_same (posts_of k) m r F.count id ∙ rw o;
          others = λ n ne. repost_other (posts_of k) m r ne;
          only = file_only m r k;
        })

-- With none on any channel asked for, the caller blocks [01, calls: Blocking 1].
pub pend_message_pends : (k : Kernel) (call : Call) → Filed (posts_of k) → Standing (threads_of k) → Runnable (thread k k.runner)
    → PendedMessage call.b call.c (next_message k call.b) k (pend_message k call)
unfolding pend_message
pend_message_pends k call F S R = record {
  takes = λ c m l e oldest lowest. (pend_value k F call c m l e oldest lowest, pend_takes_oldest k F call c m l e oldest lowest);
  blocks = λ none.
      let z = next_none k k.runner call.b none in
      (z, rw z (block_blocks k S R (ForMessage call.b) call.c refl (omega arith)));
}

-- ---- post
-- who awaits a message isn't ready
awaits_stopped : (condition : Condition) (c : ℕ) → awaits condition c ≡ true → ready_for condition ≡ false
awaits_stopped Ready c e = absurd (false≢true e)
awaits_stopped Asleep c e = refl
awaits_stopped (ForSemaphore i) c e = refl
awaits_stopped (ForEvent i) c e = refl
awaits_stopped (ForMessage mask) c e = refl
awaits_stopped (ForFlag i) c e = refl

-- the caller holds message a, and names thread b and channel c
module _ (k : Kernel) (F : Filed (posts_of k)) (call : Call) (live : (message k call.a).live ≡ true)
    (held : is_queued (message k call.a) ≡ false) (thread-byte : call.b < 256) (channel-byte : call.c < 256) where
  abbrev m : ℕ
  m = call.a

  id : m < message_count
  id = message_id F m live

  post_appends : 0 < call.c → awaits (thread k call.b).condition call.c ≡ false
      → Queued m call.b call.c k (post_message k call)
  unfolding post_message
  post_appends some unawaited =
      let r = handed call.b k.runner call.c (message k m) in
      rw (mod-eq_of_lt thread-byte, mod-eq_of_lt channel-byte, unawaited)
      (record {
        last =
            repost_joins_channel (posts_of k) m r F id (rw (live, lt-ltb 0 call.c some))
            ∙ rw (held_absent k F m held call.b call.c);
        channels = λ u d ne. repost_leaves_channel (posts_of k) m r F id u d (elsewhere r u d ne) ∙ held_absent k F m held u d;
        itself = repost_same (posts_of k) m r F.count id;
        others = λ n ne. repost_other (posts_of k) m r ne;
        only = file_only m r k;
      })

  module _ (S : Standing (threads_of k)) (there : (thread k call.b).live ≡ true) (byte : (thread k call.b).priority < 256)
      (awaited : awaits (thread k call.b).condition call.c ≡ true) where
    recipient : Stopped (thread k call.b)
    recipient = record { live = there; stopped = rw (there, awaits_stopped (thread k call.b).condition call.c awaited); byte = byte }

    post_hands_over : HandedOver m call.b k (post_message k call)
    unfolding post_message hand_over
    post_hands_over =
        let r = handed call.b k.runner 0 (message k m) in
        rw (mod-eq_of_lt thread-byte, mod-eq_of_lt channel-byte, awaited)
        (record {
          woken = move_wakes k S call.b recipient Wake.Met m (move_message m r k);
          itself = repost_same (posts_of k) m r F.count id;
          channels = λ u d b. held_leaves k F m id r refl u d b ∙ held_absent k F m held u d;
          others = λ n ne. repost_other (posts_of k) m r ne;
          semaphores = refl;
          events = record { records = refl; bits = refl };
          flags = refl;
          scheduler = record { uptime = refl; unscheduled = refl; critical = refl; runner = refl };
        })

  -- handed over where it is awaited, else last in its channel [01, calls: Message 2, 4]
  pub post_message_posts : Standing (threads_of k) → (thread k call.b).live ≡ true → (thread k call.b).priority < 256 → 0 < call.c
      → PostedMessage call.a call.b call.c k (post_message k call)
  post_message_posts S there byte some = record { handed = post_hands_over S there byte; queued = post_appends some }

-- ---- create and destroy: a message that is held before and after gets a record, and no channel changes
module _ (k : Kernel) (F : Filed (posts_of k)) where
  make_message : (m : ℕ) (r : Message) → m < message_count → is_queued (message k m) ≡ false → r.channel ≡ 0
      → MadeMessage m r k (move_message m r k)
  make_message m r b held h = record {
    made = repost_same (posts_of k) m r F.count b;
    others = λ u ne. repost_other (posts_of k) m r ne;
    channels = λ u d s. held_leaves k F m b r h u d s ∙ held_absent k F m held u d;
    only = file_only m r k;
  }

  module _ (c : Call) where
    pub create_message_makes : free_message k < message_count → (message k (free_message k)).live ≡ false
        → MadeMessage (free_message k)
        (record { live = true; owner = k.runner; sender = k.runner; kind = c.b; size = c.c; address = c.d; channel = 0 }) k
        (create_message k c)
    unfolding create_message
    create_message_makes b free = make_message (free_message k) _ b (rw free) refl

    pub destroy_message_clears : c.a < message_count → is_queued (message k c.a) ≡ false
        → MadeMessage c.a no_message k (destroy_message k c)
    unfolding destroy_message
    destroy_message_clears b held = make_message c.a no_message b held refl
