-- The limits of the fields that the state rules leave open: what keeps them, and that with the rules they are all limits.
use Prim.Native.Nat.{ℕ, ◌<◌}
use mathlib.Core.List.{List}
use mathlib.Core.Logic.{⊎_elim}
use native.Mathlib.Omega.{arith}
use lib.Dec.{eqb, ltb}
use lib.ListN.{length, get_or, set}
use lib.Seq.{get_or-set_same, get_or-set_other, set_out}
use borrow.Author.Tests.{eqb-true, eqb-false, ltb-true, ltb-false}
use borrow.Table.Steps.{cases}
use Rattle.spec_kernel.specs.declared.records.Condition.{Condition}
use Rattle.spec_kernel.specs.declared.records.Condition.TheVariants.{Ready, Asleep, ForSemaphore, ForEvent, ForMessage, ForFlag}
use Rattle.spec_kernel.specs.declared.records.Thread.{Thread}
use Rattle.spec_kernel.specs.declared.records.Semaphore.{Semaphore}
use Rattle.spec_kernel.specs.declared.records.Event.{Event}
use Rattle.spec_kernel.specs.declared.records.Message.{Message}
use Rattle.spec_kernel.specs.declared.records.Kernel.{Kernel}
use Rattle.spec_moves.specs.declared.parts.Threads.{Threads}
use Rattle.spec_moves.specs.declared.parts.Posts.{Posts}
use Rattle.spec_kernel.specs.Sizes.{thread_count, message_count}
use Rattle.spec_kernel.specs.Records.{thread, semaphore, event, message, no_thread, no_semaphore, no_event, no_message}
use Rattle.spec_moves.specs.Moves.{thread_in, relocate, repost}
use Rattle.spec_moves.specs.Standing.{message_in}
use Rattle.spec_rules.proofs.OfRecords.{live_or_not}
use Rattle.spec_moves.specs.States.{with_threads, with_posts, with_semaphore, with_events, with_flags, with_scheduler, move_thread, move_message}
use Rattle.proof_rules.proofs.Core.{Fits, untrue, live_thread, live_semaphore, condition_of}
use Rattle.proof_rules.proofs.Ends.{sized, Before}
use Rattle.proof_rules.proofs.Steps.{ready_live}
use Rattle.spec_notes.specs.Rows.{condition_data}
use Rattle.spec_notes.specs.Within.{Within}

-- ---- records
abbrev pub SmallThread : Thread → Type 0
SmallThread r = r.ticks < 4294967296

abbrev pub SmallSemaphore : Semaphore → Type 0
SmallSemaphore r = (r.maximum < 65536) × (r.ticks < 4294967296) × (r.period < 4294967296)

abbrev pub SmallEvent : Event → Type 0
SmallEvent r = (r.mask < 4294967296) × (r.values < 4294967296)

abbrev pub SmallMessage : Message → Type 0
SmallMessage r = (r.kind < 65536) × (r.size < 4294967296) × (r.address < 4294967296)

-- ---- the state
pub record Limits (k : Kernel) : Type 0 where
  pub threads : (t : ℕ) → SmallThread (thread k t)
  pub semaphores : (i : ℕ) → SmallSemaphore (semaphore k i)
  pub events : (i : ℕ) → SmallEvent (event k i)
  pub messages : (m : ℕ) → SmallMessage (message k m)
  pub bits : k.bits < 4294967296
  pub flags : k.flags < 65536
  pub scheduler : (k.uptime < 4294967296) × (k.unscheduled < 256) × (k.critical < 256)

pub within_limits : {k : Kernel} → Within k → Limits k
within_limits W = record {
  threads = W.ticks;
  semaphores = λ i. (W.maximum i, W.left i, W.period i);
  events = λ i. (W.mask i, W.values i);
  messages = λ m. (W.kind m, W.size m, W.address m);
  bits = W.bits;
  flags = W.flags;
  scheduler = (W.uptime, W.unscheduled, W.critical);
}

-- ---- the other limits are the rules'
module _ {k : Kernel} (B : Before k) (L : Limits k) where
  what_small : (t : ℕ) → condition_data (thread k t).condition < 65536
  what_small t = go (thread k t).condition (condition_of B.core t)
    where
      go : (c : Condition) → Fits k.semaphores (untrue k) k.flags (thread k t).ticks c → condition_data c < 65536
      go Ready h = omega arith
      go Asleep h = omega arith
      go (ForSemaphore i) h = omega (arith, live_semaphore B.core i h.0)
      go (ForEvent i) h = omega arith
      go (ForMessage mask) h = omega arith
      go (ForFlag i) h = omega arith

  runner_small : k.runner < 256
  runner_small =
      cases (eqb k.runner 255) (λ e. omega (arith, eqb-true k.runner 255 e))
      (λ e. omega (arith, live_thread B.core k.runner (ready_live (thread k k.runner) (B.running (eqb-false k.runner 255 e)))))

  pub limits_within : Within k
  limits_within =
      let C = B.core in
      record {
        priority = (sized C).priorities;
        first = λ t. live_or_not (λ r. r.first < 256) (C.threads t) (λ T. omega (arith, T.priority)) (omega arith);
        what = what_small;
        ticks = L.threads;
        reply = λ t.
            live_or_not (λ r. r.reply < 256) (C.threads t) (λ T. ⊎_elim (λ b. omega arith) (λ e. omega arith) T.reply) (omega arith);
        count = λ i.
            live_or_not (λ r. r.count < 65536) (C.semaphores i) (λ S. omega (arith, S.count, (L.semaphores i).0)) (omega arith);
        maximum = λ i. (L.semaphores i).0;
        left = λ i. (L.semaphores i).1;
        period = λ i. (L.semaphores i).2;
        mask = λ i. (L.events i).0;
        values = λ i. (L.events i).1;
        owner = λ m.
            live_or_not (λ r. r.owner < 256) (C.messages m)
            (λ M. omega (arith, live_thread C (message k m).owner M.owner)) (omega arith);
        sender = λ m. live_or_not (λ r. r.sender < 256) (C.messages m) (λ M. omega (arith, M.sender)) (omega arith);
        kind = λ m. (L.messages m).0;
        size = λ m. (L.messages m).1;
        address = λ m. (L.messages m).2;
        channel = (sized C).channels;
        bits = L.bits;
        uptime = L.scheduler.0;
        unscheduled = L.scheduler.1;
        critical = L.scheduler.2;
        runner = runner_small;
        flags = L.flags;
      }

-- ---- a part is put anew
-- one record of a list
pub set_all : {A : Type 0} (P : A → Type 0) (l : List A) (i : ℕ) (r d : A) → P r → ((j : ℕ) → P (get_or l j d))
    → (j : ℕ) → P (get_or (set l i r) j d)
set_all P l i r d h f j =
    cases (ltb i (length l))
    (λ b. cases (eqb j i) (λ e. rw (eqb-true j i e, get_or-set_same l i r d (ltb-true i (length l) b)) h)
    (λ e. rw (get_or-set_other l i j r d (eqb-false j i e)) (f j)))
    (λ b. rw (set_out l i r (ltb-false i (length l) b)) (f j))

module _ {k : Kernel} (L : Limits k) where
  pub threads_limits : (p : Threads) → ((t : ℕ) → SmallThread (thread_in p t)) → Limits (with_threads p k)
  threads_limits p f = record {
    threads = f;
    semaphores = L.semaphores;
    events = L.events;
    messages = L.messages;
    bits = L.bits;
    flags = L.flags;
    scheduler = L.scheduler;
  }

  pub posts_limits : (p : Posts) → ((m : ℕ) → SmallMessage (message_in p m)) → Limits (with_posts p k)
  posts_limits p f = record {
    threads = L.threads;
    semaphores = L.semaphores;
    events = L.events;
    messages = f;
    bits = L.bits;
    flags = L.flags;
    scheduler = L.scheduler;
  }

  pub semaphore_limits : (i : ℕ) (s : Semaphore) → SmallSemaphore s → Limits (with_semaphore i s k)
  semaphore_limits i s b = record {
    threads = L.threads;
    semaphores = set_all SmallSemaphore k.semaphores i s no_semaphore b L.semaphores;
    events = L.events;
    messages = L.messages;
    bits = L.bits;
    flags = L.flags;
    scheduler = L.scheduler;
  }

  pub events_limits : (l : List Event) (bits : ℕ) → ((i : ℕ) → SmallEvent (get_or l i no_event)) → bits < 4294967296
      → Limits (with_events l bits k)
  events_limits l bits f b = record {
    threads = L.threads;
    semaphores = L.semaphores;
    events = f;
    messages = L.messages;
    bits = b;
    flags = L.flags;
    scheduler = L.scheduler;
  }

  pub flags_limits : (flags : ℕ) → flags < 65536 → Limits (with_flags flags k)
  flags_limits flags b = record {
    threads = L.threads;
    semaphores = L.semaphores;
    events = L.events;
    messages = L.messages;
    bits = L.bits;
    flags = b;
    scheduler = L.scheduler;
  }

  pub event_all : (i : ℕ) (r : Event) → SmallEvent r → (j : ℕ) → SmallEvent (get_or (set k.events i r) j no_event)
  event_all i r b = set_all SmallEvent k.events i r no_event b L.events

  pub scheduler_limits : (uptime unscheduled critical runner : ℕ) → uptime < 4294967296 → unscheduled < 256 → critical < 256
      → Limits (with_scheduler uptime unscheduled critical runner k)
  scheduler_limits uptime unscheduled critical runner a b c = record {
    threads = L.threads;
    semaphores = L.semaphores;
    events = L.events;
    messages = L.messages;
    bits = L.bits;
    flags = L.flags;
    scheduler = (a, b, c);
  }

  -- the two moves
  pub place_limits : (t : ℕ) (r : Thread) → SmallThread r → Limits (move_thread t r k)
  unfolding relocate
  place_limits t r b =
      threads_limits _
      (λ u. cases (ltb t thread_count) (λ e. rw e (set_all SmallThread k.threads t r no_thread b L.threads u))
      (λ e. rw e (L.threads u)))

  pub file_limits : (m : ℕ) (r : Message) → SmallMessage r → Limits (move_message m r k)
  unfolding repost
  file_limits m r b =
      posts_limits _
      (λ u. cases (ltb m message_count) (λ e. rw e (set_all SmallMessage k.messages m r no_message b L.messages u))
      (λ e. rw e (L.messages u)))
