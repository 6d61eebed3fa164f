-- The state with a part of it put anew, and the two moves over the whole state.
use Rattle.std.specs.Prelude.{ℕ, ◌+◌, ◌%◌, cond, List, [], ◌∷◌, eqb, set}
use Rattle.spec_kernel.specs.declared.records.Thread.{Thread}
use Rattle.spec_kernel.specs.declared.records.Semaphore.{Semaphore}
use Rattle.spec_kernel.specs.declared.records.Event.{Event}
use Rattle.spec_kernel.specs.declared.records.Message.{Message}
use Rattle.spec_kernel.specs.declared.records.Kernel.{Kernel}
use Rattle.spec_moves.specs.declared.parts.Threads.{Threads}
use Rattle.spec_moves.specs.declared.parts.Posts.{Posts}
use Rattle.spec_moves.specs.Moves.{relocate, repost}
use Rattle.spec_kernel.specs.Runner.{chosen}
use Rattle.spec_moves.specs.Standing.{threads_of, posts_of}

-- the state made of its parts: threads and their places, semaphores, events and bits, flags, messages and their places, and the scheduler's
-- own values, which are uptime, the unscheduled and the critical level, and the runner
abbrev pub state_of : Threads → List Semaphore → List Event → ℕ → ℕ → Posts → ℕ → ℕ → ℕ → ℕ → Kernel
state_of p semaphores events bits flags q uptime unscheduled critical runner =
    record {
      threads = p.records;
      semaphores = semaphores;
      events = events;
      messages = q.records;
      places = p.places;
      time = p.time;
      posted = q.posted;
      bits = bits;
      uptime = uptime;
      unscheduled = unscheduled;
      critical = critical;
      runner = runner;
      flags = flags;
    }

abbrev pub with_threads : Threads → Kernel → Kernel
with_threads p k =
    state_of p k.semaphores k.events k.bits k.flags (posts_of k) k.uptime k.unscheduled k.critical k.runner

abbrev pub with_posts : Posts → Kernel → Kernel
with_posts q k =
    state_of (threads_of k) k.semaphores k.events k.bits k.flags q k.uptime k.unscheduled k.critical k.runner

abbrev pub with_semaphores : List Semaphore → Kernel → Kernel
with_semaphores l k =
    state_of (threads_of k) l k.events k.bits k.flags (posts_of k) k.uptime k.unscheduled k.critical k.runner

abbrev pub with_events : List Event → ℕ → Kernel → Kernel
with_events l bits k =
    state_of (threads_of k) k.semaphores l bits k.flags (posts_of k) k.uptime k.unscheduled k.critical k.runner

abbrev pub with_flags : ℕ → Kernel → Kernel
with_flags flags k =
    state_of (threads_of k) k.semaphores k.events k.bits flags (posts_of k) k.uptime k.unscheduled k.critical k.runner

abbrev pub with_scheduler : ℕ → ℕ → ℕ → ℕ → Kernel → Kernel
with_scheduler uptime unscheduled critical runner k =
    state_of (threads_of k) k.semaphores k.events k.bits k.flags (posts_of k) uptime unscheduled critical runner

abbrev pub with_semaphore : ℕ → Semaphore → Kernel → Kernel
with_semaphore i r k = with_semaphores (set k.semaphores i r) k

abbrev pub with_event : ℕ → Event → Kernel → Kernel
with_event i r k = with_events (set k.events i r) k.bits k

abbrev pub with_bits : ℕ → Kernel → Kernel
with_bits bits k = with_events k.events bits k

abbrev pub with_uptime : ℕ → Kernel → Kernel
with_uptime n k = with_scheduler n k.unscheduled k.critical k.runner k

abbrev pub with_levels : ℕ → ℕ → Kernel → Kernel
with_levels unscheduled critical k = with_scheduler k.uptime unscheduled critical k.runner k

abbrev pub with_runner : ℕ → Kernel → Kernel
with_runner t k = with_scheduler k.uptime k.unscheduled k.critical t k

-- thread t gets the record r and takes its places
abbrev pub move_thread : ℕ → Thread → Kernel → Kernel
move_thread t r k = with_threads (relocate t r (threads_of k)) k

-- message m gets the record r and takes its place
abbrev pub move_message : ℕ → Message → Kernel → Kernel
move_message m r k = with_posts (repost m r (posts_of k)) k

-- each of a list in turn
abbrev pub each : (ℕ → Threads → Threads) → List ℕ → Threads → Threads
each f [] p = p
each f (x ∷ l) p = each f l (f x p)

-- what a byte, and two bytes, hold of a field; the refusals leave nothing more
abbrev pub as_byte : ℕ → ℕ
as_byte n = n % 256

abbrev pub as_word : ℕ → ℕ
as_word n = n % 65536

-- Outside every region the scheduler says who runs; inside one whoever ran goes on [01, calls: Regions 2].
unfoldable pub scheduled : Kernel → Kernel
scheduled k = with_runner (cond (eqb (k.unscheduled + k.critical) 0) (chosen k) k.runner) k
