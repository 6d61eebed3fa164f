-- The two moves that every call is made of: a thread gets a record and takes its places; a message likewise.
use Rattle.std.specs.Prelude.{ℕ, Bool, cond, ◌&&◌, List, eqb, ltb, length, get_or, set}
use Rattle.base_queue.specs.declared.Queue.{Queue}
use Rattle.base_queue.specs.Lists.{without}
use Rattle.base_queue.specs.Queues.{capacity, items, pack}
use Rattle.base_queue.specs.Tables.{moved}
use Rattle.spec_kernel.specs.declared.records.Thread.{Thread}
use Rattle.spec_kernel.specs.declared.records.Message.{Message}
use Rattle.spec_moves.specs.declared.parts.Threads.{Threads}
use Rattle.spec_moves.specs.declared.parts.Posts.{Posts}
use Rattle.spec_kernel.specs.Sizes.{thread_count, message_count}
use Rattle.spec_kernel.specs.Records.{no_thread, no_message}
use Rattle.spec_kernel.specs.Places.{has_home, rank_of, is_queued, stream_of}

-- a queue has room once x has left it
abbrev pub has_room : ℕ → List ℕ → Bool
has_room x l = ltb (length (without x l)) capacity

-- x out of the queue, and where it stays behind its equals
abbrev pub rejoined : Bool → (ℕ → Bool) → ℕ → Queue → Queue
rejoined stays after x q = pack (moved (stays && has_room x (items q)) after x (items q))

abbrev pub thread_in : Threads → ℕ → Thread
thread_in p t = get_or p.records t no_thread

-- who comes after a thread of record r, in `places` and in the time queue
abbrev pub ranks_after : List Thread → Thread → ℕ → Bool
ranks_after records r u = ltb (rank_of r) (rank_of (get_or records u no_thread))

abbrev pub wakes_after : List Thread → Thread → ℕ → Bool
wakes_after records r u = ltb r.ticks (get_or records u no_thread).ticks

-- Thread t gets the record r. It leaves its place and joins the list or queue of r behind its equals;
-- it leaves and joins the time queue only where the ticks left differ. An id too large moves nobody.
unfoldable pub relocate : ℕ → Thread → Threads → Threads
relocate t r p =
    cond (ltb t thread_count)
    (record {
      records = set p.records t r;
      places = rejoined (has_home r) (ranks_after p.records r) t p.places;
      time =
          cond (eqb (thread_in p t).ticks r.ticks) p.time
          (rejoined (ltb 0 r.ticks) (wakes_after p.records r) t p.time);
    })
    p

abbrev pub post_after : List Message → Message → ℕ → Bool
post_after records r u = ltb (stream_of r) (stream_of (get_or records u no_message))

-- Message m gets the record r, and joins the channel of r behind those that are there; where r is held it stands in none.
unfoldable pub repost : ℕ → Message → Posts → Posts
repost m r p =
    cond (ltb m message_count)
    (record {
      records = set p.records m r;
      posted = rejoined (is_queued r) (post_after p.records r) m p.posted;
    })
    p
