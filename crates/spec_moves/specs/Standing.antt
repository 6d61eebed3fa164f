-- What a move keeps: the rules of places, of the time queue and of the channels, over the parts that move.
use Rattle.std.specs.Prelude.{ℕ, ◌≡◌, List, eqb, ltb, length, get_or}
use Rattle.base_queue.specs.Lists.{keep, Ordered}
use Rattle.base_queue.specs.Queues.{items, Tidy}
use Rattle.base_queue.specs.Tables.{Placed}
use Rattle.spec_kernel.specs.declared.records.Message.{Message}
use Rattle.spec_kernel.specs.declared.records.Kernel.{Kernel}
use Rattle.spec_moves.specs.declared.parts.Threads.{Threads}
use Rattle.spec_moves.specs.declared.parts.Posts.{Posts}
use Rattle.spec_kernel.specs.Sizes.{thread_count, message_count}
use Rattle.spec_kernel.specs.Records.{no_message}
use Rattle.spec_kernel.specs.Places.{home_of, has_home, rank_of, is_queued, stream_of}
use Rattle.spec_moves.specs.Moves.{thread_in}

-- the parts of a state
abbrev pub threads_of : Kernel → Threads
threads_of k = record { records = k.threads; places = k.places; time = k.time }

abbrev pub posts_of : Kernel → Posts
posts_of k = record { records = k.messages; posted = k.posted }

abbrev pub message_in : Posts → ℕ → Message
message_in p m = get_or p.records m no_message

-- the threads whose home is h, in their order
abbrev pub at_home_in : Threads → ℕ → List ℕ
at_home_in p h = keep (λ t. eqb (home_of (thread_in p t)) h) (items p.places)

-- each thread stands where its record says, once, in order, and the unused store is 0
pub record Standing (p : Threads) : Type 0 where
  pub count : length p.records ≡ thread_count
  pub tidy_places : Tidy p.places
  pub tidy_time : Tidy p.time
  pub placed : Placed (λ t. has_home (thread_in p t)) (items p.places)
  pub timed : Placed (λ t. ltb 0 (thread_in p t).ticks) (items p.time)
  pub in_rank : Ordered (λ t. rank_of (thread_in p t)) (items p.places)
  pub in_time : Ordered (λ t. (thread_in p t).ticks) (items p.time)

-- each message likewise
pub record Filed (p : Posts) : Type 0 where
  pub count : length p.records ≡ message_count
  pub tidy : Tidy p.posted
  pub placed : Placed (λ m. is_queued (message_in p m)) (items p.posted)
  pub in_stream : Ordered (λ m. stream_of (message_in p m)) (items p.posted)
