-- What a pass over the records tells: whether each keeps its rules, and the sets and keys that the tables of places are tested by. Assumes
-- nothing.
use Rattle.std.specs.Prelude.{ℕ, ◌≡◌, not, List, length, get_or}
use Rattle.base_bits.specs.Sets.{Tells}
use Rattle.base_queue.specs.Lists.{every_from}
use Rattle.base_tables.specs.Taken.{Keys}
use Rattle.spec_kernel.specs.declared.records.Thread.{Thread}
use Rattle.spec_kernel.specs.declared.records.Semaphore.{Semaphore}
use Rattle.spec_kernel.specs.declared.records.Event.{Event}
use Rattle.spec_kernel.specs.declared.records.Message.{Message}
use Rattle.spec_kernel.specs.Records.{no_thread, no_event, no_message}
use Rattle.spec_kernel.specs.Sizes.{thread_count, semaphore_count, event_count, message_count}
use Rattle.spec_kernel.specs.Places.{has_home, rank_of, is_queued, stream_of}
use Rattle.spec_kernel.specs.Truth.{is_true}
use Rattle.spec_rules.specs.Tests.{semaphore_waited, is_ticking, thread_kept, semaphore_kept, message_kept}
use Rattle.code_rules_records.specs.Others.{ByObjects}
use Rattle.code_rules.specs.declared.told.Semaphores.{Semaphores}
use Rattle.code_rules.specs.declared.told.Threads.{Threads}
use Rattle.code_rules.specs.declared.told.Messages.{Messages}

pub record OfSemaphores (semaphores : List Semaphore) (r : Semaphores) : Type 0 where
  pub full : length semaphores ≡ semaphore_count
  pub kept : r.kept ≡ every_from (λ _ s. semaphore_kept s) 0 semaphores
  pub waited : Tells r.waited semaphore_count (semaphore_waited semaphores)

abbrev pub OfEvents : List Event → ℕ → ℕ → Type 0
OfEvents events bits untrue = Tells untrue event_count (λ i. not (is_true bits (get_or events i no_event)))

pub record OfThreads (threads : List Thread) (waited untrue flags : ℕ) (r : Threads) : Type 0 where
  pub full : length threads ≡ thread_count
  pub kept : ByObjects waited untrue r.kept
      (λ semaphores events bits. every_from (λ _ t. thread_kept semaphores events bits flags t) 0 threads)
  pub homes : Tells r.homes thread_count (λ t. has_home (get_or threads t no_thread))
  pub ticking : Tells r.ticking thread_count (λ t. is_ticking (get_or threads t no_thread))
  pub ranks : Keys r.ranks thread_count (λ t. rank_of (get_or threads t no_thread))
  pub ticks : Keys r.ticks thread_count (λ t. (get_or threads t no_thread).ticks)

pub record OfMessages (messages : List Message) (threads : List Thread) (r : Messages) : Type 0 where
  pub full : length messages ≡ message_count
  pub kept : r.kept ≡ every_from (λ _ m. message_kept threads m) 0 messages
  pub queued : Tells r.queued message_count (λ m. is_queued (get_or messages m no_message))
  pub streams : Keys r.streams message_count (λ m. stream_of (get_or messages m no_message))
