-- The fresh state keeps its rules, and each of its fields its type.
use Prim.Native.Nat.{ℕ, zero, suc, ◌<◌}
use mathlib.Core.Path.{◌≡◌, refl}
use mathlib.Core.Bool.{true}
use native.Mathlib.Omega.{arith}
use lib.ListN.{get_or, replicate, length-replicate}
use Rattle.base_queue.specs.Queues.{is_tidy}
use Rattle.base_queue.specs.Tables.{is_placed}
use Rattle.spec_kernel.specs.declared.records.Thread.{Thread}
use Rattle.spec_kernel.specs.declared.records.Semaphore.{Semaphore}
use Rattle.spec_kernel.specs.declared.records.Event.{Event}
use Rattle.spec_kernel.specs.declared.records.Message.{Message}
use Rattle.spec_kernel.specs.Sizes.{thread_count, semaphore_count, event_count, message_count}
use Rattle.spec_kernel.specs.Records.{no_thread, no_semaphore, no_event, no_message, fresh_event, fresh, thread, semaphore, event, message}
use Rattle.spec_kernel.specs.Places.{home_of}
use Rattle.spec_kernel.specs.Runner.{chosen}
use Rattle.spec_rules.specs.Rules.{Sized, Rules}
use Rattle.spec_rules.specs.Tests.{is_no_thread, is_no_semaphore, is_no_message, thread_kept, semaphore_kept, message_kept, threads_kept}
use Rattle.spec_rules.specs.Tests.{semaphores_kept, messages_kept, in_rank, in_time, in_stream, places_kept, time_kept, posted_kept, runner_kept}
use Rattle.spec_rules.specs.Tests.{keeps_rules}
use Rattle.spec_rules.proofs.Exactly.{rules_mean}
use Rattle.spec_notes.specs.Rows.{condition_data}
use Rattle.spec_notes.specs.Within.{Within}
use Rattle.spec_answers.specs.Promises.{FreshIsUndamaged}

-- of a table that holds one record throughout, each id has what this record and the one past the end have
each_of : {A : Type 0} (P : A → Type 0) (x none : A) → P x → P none → (n i : ℕ) → P (get_or (replicate n x) i none)
each_of P x none p q zero i = q
each_of P x none p q (suc n) zero = p
each_of P x none p q (suc n) (suc i) = each_of P x none p q n i

of_threads : (P : Thread → Type 0) → P no_thread → (t : ℕ) → P (thread fresh t)
unfolding fresh
of_threads P p t = each_of P no_thread no_thread p p thread_count t

of_semaphores_lem : (P : Semaphore → Type 0) → P no_semaphore → (i : ℕ) → P (semaphore fresh i)
unfolding fresh
of_semaphores_lem P p i = each_of P no_semaphore no_semaphore p p semaphore_count i

of_events_lem : (P : Event → Type 0) → P fresh_event → P no_event → (i : ℕ) → P (event fresh i)
unfolding fresh
of_events_lem P p q i = each_of P fresh_event no_event p q event_count i

of_messages : (P : Message → Type 0) → P no_message → (m : ℕ) → P (message fresh m)
unfolding fresh
of_messages P p m = each_of P no_message no_message p p message_count m

fresh_sized : Sized fresh
unfolding fresh
fresh_sized =
    record {
      threads = length-replicate thread_count no_thread;
      semaphores = length-replicate semaphore_count no_semaphore;
      events = length-replicate event_count fresh_event;
      messages = length-replicate message_count no_message;
      places = refl;
      time = refl;
      posted = refl;
      priorities = of_threads (λ r. r.priority < 256) (omega arith);
      channels = of_messages (λ r. r.channel < 256) (omega arith);
    }

fresh_within : Within fresh
unfolding fresh
fresh_within =
    record {
      priority = of_threads (λ r. r.priority < 256) (omega arith);
      first = of_threads (λ r. r.first < 256) (omega arith);
      what = of_threads (λ r. condition_data r.condition < 65536) (omega arith);
      ticks = of_threads (λ r. r.ticks < 4294967296) (omega arith);
      reply = of_threads (λ r. r.reply < 256) (omega arith);
      count = of_semaphores_lem (λ r. r.count < 65536) (omega arith);
      maximum = of_semaphores_lem (λ r. r.maximum < 65536) (omega arith);
      left = of_semaphores_lem (λ r. r.ticks < 4294967296) (omega arith);
      period = of_semaphores_lem (λ r. r.period < 4294967296) (omega arith);
      mask = of_events_lem (λ r. r.mask < 4294967296) (omega arith) (omega arith);
      values = of_events_lem (λ r. r.values < 4294967296) (omega arith) (omega arith);
      owner = of_messages (λ r. r.owner < 256) (omega arith);
      sender = of_messages (λ r. r.sender < 256) (omega arith);
      kind = of_messages (λ r. r.kind < 65536) (omega arith);
      size = of_messages (λ r. r.size < 4294967296) (omega arith);
      address = of_messages (λ r. r.address < 4294967296) (omega arith);
      channel = of_messages (λ r. r.channel < 256) (omega arith);
      bits = omega arith;
      uptime = omega arith;
      unscheduled = omega arith;
      critical = omega arith;
      runner = omega arith;
      flags = omega arith;
    }

-- the test passes
fresh_passes : keeps_rules fresh ≡ true
unfolding
    fresh home_of is_tidy is_placed chosen is_no_thread is_no_semaphore is_no_message thread_kept semaphore_kept message_kept threads_kept semaphores_kept
    messages_kept in_rank in_time in_stream places_kept time_kept posted_kept runner_kept keeps_rules
fresh_passes = refl

pub fresh_rules : Rules fresh
fresh_rules = rules_mean fresh fresh_sized fresh_passes

pub fresh_is_undamaged : FreshIsUndamaged
unfolding FreshIsUndamaged
fresh_is_undamaged = record { types = record { sized = fresh_sized; within = fresh_within }; rules = fresh_rules }
