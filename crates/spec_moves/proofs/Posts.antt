-- What a message's move does: it gets its record and stands in its channel, no other message is moved, and there is a way back.
use mathlib.Core.Path.{◌≡◌, refl, sym, ◌∙◌}
use mathlib.Core.Bool.{Bool, true, false, and-eq-true_iff}
use mathlib.Core.List.{List, [], ◌∷◌, ◌++◌}
use Prim.Native.Nat.{ℕ, ◌≤◌, ◌<◌}
use native.Mathlib.Omega.{arith}
use lib.ListN.{length, set, length-set}
use lib.Seq.{get_or-set_same, get_or-set_other}
use lib.Dec.{eqb, ltb}
use borrow.Author.Tests.{eqb-true, ne_eqb, ltb-true, ltb-false, lt-ltb, le-ltb}
use borrow.Table.Steps.{cases}
use Rattle.base_queue.specs.Lists.{keep, is_not, without}
use Rattle.base_queue.specs.Queues.{items}
use Rattle.base_queue.proofs.Counts.{same}
use Rattle.spec_kernel.specs.declared.records.Message.{Message}
use Rattle.spec_moves.specs.declared.parts.Posts.{Posts}
use Rattle.spec_kernel.specs.Sizes.{message_count}
use Rattle.spec_kernel.specs.Records.{no_message}
use Rattle.spec_kernel.specs.Places.{is_queued, stream_of, on_channel}
use Rattle.spec_moves.specs.Moves.{rejoined, post_after, repost}
use Rattle.spec_moves.specs.Standing.{message_in, Filed}
use Rattle.spec_moves.proofs.Rejoined.{rejoined_keep, Table, table_moved, table_leaves, table-last}

-- the messages of a stream, oldest first
abbrev pub stream_in : Posts → ℕ → List ℕ
stream_in q s = keep (λ u. eqb (stream_of (message_in q u)) s) (items q.posted)

-- the messages on a channel of a thread, oldest first
abbrev pub channel_in : Posts → ℕ → ℕ → List ℕ
channel_in q t c = keep (λ u. on_channel t c (message_in q u)) (items q.posted)

-- all on one channel are of one stream
channel_stream : (a r : Message) → on_channel r.owner r.channel a ≡ true → stream_of a ≡ stream_of r
unfolding stream_of
channel_stream a r e =
    let (o, c) = (and-eq-true_iff (eqb a.owner r.owner) (eqb a.channel r.channel)).0 e in
    rw (eqb-true a.owner r.owner o, eqb-true a.channel r.channel c)

module _ (q : Posts) (m : ℕ) (r : Message) where
  -- the state that a move gives
  abbrev new_posts : Posts
  new_posts = record { records = set q.records m r; posted = rejoined (is_queued r) (post_after q.records r) m q.posted }

  moves : m < message_count → repost m r q ≡ new_posts
  unfolding repost
  moves h = rw (lt-ltb m message_count h)

  -- an id too large moves no message
  pub repost_past : message_count ≤ m → repost m r q ≡ q
  unfolding repost
  repost_past h = rw (le-ltb m message_count h)

  -- what holds of the state moved, and of the state as it was, holds after
  either : (P : Posts → Type 0) → (m < message_count → P new_posts) → P q → P (repost m r q)
  either P f g =
      cases (ltb m message_count) (λ e. rw (moves (ltb-true m message_count e)) (f (ltb-true m message_count e)))
      (λ e. rw (repost_past (ltb-false m message_count e)) g)

  -- the message has its record
  pub repost_same : length q.records ≡ message_count → m < message_count → message_in (repost m r q) m ≡ r
  repost_same e h = rw (moves h) (get_or-set_same q.records m r no_message (omega arith))

  -- and every other message has the record that it had
  pub repost_other : {u : ℕ} → (u ≡ m → ⊥) → message_in (repost m r q) u ≡ message_in q u
  repost_other {u} ne = either (λ n. message_in n u ≡ message_in q u) (λ _. get_or-set_other q.records m u r no_message ne) refl

  -- a test that does not hold of the message does not see it move
  pub repost_keep : (f : ℕ → Bool) → f m ≡ false → keep f (items (repost m r q).posted) ≡ keep f (items q.posted)
  repost_keep f e =
      either (λ n. keep f (items n.posted) ≡ keep f (items q.posted))
      (λ _. rejoined_keep (is_queued r) (post_after q.records r) m q.posted f e) refl

  -- the order of the others is as it was
  pub repost_order : without m (items (repost m r q).posted) ≡ without m (items q.posted)
  repost_order = repost_keep (is_not m) (rw same)

module _ (q : Posts) (F : Filed q) where
  table : Table no_message is_queued stream_of q.records q.posted
  table = record { out = refl; few = omega (arith, F.count); tidy = F.tidy; placed = F.placed; ordered = F.in_stream }

  inside : {m : ℕ} → m < message_count → m < length q.records
  inside h = omega (arith, F.count)

module _ (q : Posts) (m : ℕ) (r : Message) (F : Filed q) where
  -- a move keeps the placing rules and the order of the channels
  pub repost_filed : Filed (repost m r q)
  repost_filed =
      either q m r Filed
      (λ h. let T = table_moved (table q F) m (inside q F h) r in
      record { count = length-set q.records m r ∙ F.count; tidy = T.tidy; placed = T.placed; in_stream = T.ordered })
      F

  module _ (h : m < message_count) where
    -- a message that is queued comes last in its stream: the old run without it, then it
    pub repost_joins : is_queued r ≡ true → stream_in (repost m r q) (stream_of r) ≡ without m (stream_in q (stream_of r)) ++ m ∷ []
    repost_joins e =
        rw (moves q m r h)
        (table-last (table q F) m (inside q F h) r (λ a. eqb (stream_of a) (stream_of r)) e (same (stream_of r))
        (λ a z. eqb-true (stream_of a) (stream_of r) z))

    -- and so last on its channel
    pub repost_joins_channel : is_queued r ≡ true
        → channel_in (repost m r q) r.owner r.channel ≡ without m (channel_in q r.owner r.channel) ++ m ∷ []
    repost_joins_channel e =
        rw (moves q m r h)
        (table-last (table q F) m (inside q F h) r (on_channel r.owner r.channel) e (rw (same r.owner, same r.channel))
        (λ a z. channel_stream a r z))

    -- of every other stream it is gone, and the others keep their order there
    pub repost_leaves : {s : ℕ} → (s ≡ stream_of r → ⊥) → stream_in (repost m r q) s ≡ without m (stream_in q s)
    repost_leaves {s} ne =
        rw (moves q m r h) (table_leaves (table q F) m (inside q F h) r (λ a. eqb (stream_of a) s) (ne_eqb (stream_of r) s (λ z. ne (sym z))))

    -- and so of every channel that its record is not of
    pub repost_leaves_channel : (t c : ℕ) → on_channel t c r ≡ false → channel_in (repost m r q) t c ≡ without m (channel_in q t c)
    repost_leaves_channel t c e = rw (moves q m r h) (table_leaves (table q F) m (inside q F h) r (on_channel t c) e)
