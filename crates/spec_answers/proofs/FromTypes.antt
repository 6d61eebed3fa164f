-- A value of the code's own type has what `OfTypes` says: so many records, and each field below the limit of its type. What owning a value
-- tells is the logic's relation between it and its machine value (`Is`); the records of an array tell it one by one.
use Prim.Native.Nat.{ℕ, zero, suc, ◌<◌}
use mathlib.Core.List.{List, [], ◌∷◌}
use native.Mathlib.Omega.{arith}
use lib.ListN.{get_or}
use mir.Val.{Val}
use base.Fml.{Fml}
use denote.Shadow.{shadow}
use denote.Laws.{Is}
use mir.Syntax.{w8}
use denote.Plain.{UInt}
use denote.Array.{Array, each}
use Rattle.spec_kernel.specs.contracts.records.Kernel as kernels
use Rattle.spec_kernel.specs.contracts.records.Thread as threads
use Rattle.spec_kernel.specs.contracts.records.Condition as conditions
use Rattle.spec_kernel.specs.contracts.records.Semaphore as semaphores
use Rattle.spec_kernel.specs.contracts.records.Event as events
use Rattle.spec_kernel.specs.contracts.records.Message as messages
use Rattle.spec_kernel.specs.declared.records.Condition.{Condition}
use Rattle.spec_kernel.specs.declared.records.Condition.TheVariants.{Ready, Asleep, ForSemaphore, ForEvent, ForMessage, ForFlag}
use Rattle.spec_kernel.specs.declared.records.Thread.{Thread}
use Rattle.spec_kernel.specs.declared.records.Semaphore.{Semaphore}
use Rattle.spec_kernel.specs.declared.records.Event.{Event}
use Rattle.spec_kernel.specs.declared.records.Message.{Message}
use Rattle.spec_kernel.specs.declared.records.Kernel.{Kernel}
use Rattle.spec_kernel.specs.Records.{thread, semaphore, event, message, no_thread, no_semaphore, no_event, no_message}
use Rattle.spec_rules.specs.Rules.{Sized}
use Rattle.spec_notes.specs.Rows.{condition_data}
use Rattle.spec_notes.specs.Within.{Within, OfTypes}
use Rattle.spec_answers.specs.Runs.{IsRecord}

-- What each element of an array tells, the one past the end tells too.
each_tells : {X : Type 0} (f : X → List Val → Fml) (P : X → Type 0) (none : X) → P none
    → ((x : X) (vs : List Val) → shadow (f x vs) → P x)
    → (xs : List X) (us : List Val) → shadow (each X f xs us) → (i : ℕ) → P (get_or xs i none)
each_tells f P none p tells [] us s i = p
each_tells f P none p tells (x ∷ xs) [] s i = absurd s
each_tells f P none p tells (x ∷ xs) (u ∷ us) s zero = tells x (u ∷ []) s.0
each_tells f P none p tells (x ∷ xs) (u ∷ us) s (suc i) = each_tells f P none p tells xs us s.1 i

-- what a thread's condition holds: an id of one byte or a mask of two
condition_tells : (x : Condition) (vs : List Val) → Is conditions.the_row x vs → condition_data x < 65536
condition_tells Ready vs s = omega arith
condition_tells Asleep vs s = omega arith
condition_tells (ForSemaphore i) vs s = let h : i < 256 = s.1.1.1.1.0.1 in omega arith
condition_tells (ForEvent i) vs s = let h : i < 256 = s.1.1.1.1.0.1 in omega arith
condition_tells (ForMessage mask) vs s = s.1.1.1.1.0.1
condition_tells (ForFlag i) vs s = let h : i < 256 = s.1.1.1.1.0.1 in omega arith

module _ (k : Kernel) (vs : List Val) (s : Is kernels.the_row k vs) where
  -- ---- of each record what its own type tells
  of_threads : (P : Thread → Type 0) → P no_thread → ((r : Thread) (us : List Val) → Is threads.the_row r us → P r)
      → (t : ℕ) → P (thread k t)
  of_threads P none tells = each_tells threads.the_row.own_val P no_thread none tells k.threads s.1.1.0.0 s.1.1.0.1.1

  of_semaphores_lem : (P : Semaphore → Type 0) → P no_semaphore → ((r : Semaphore) (us : List Val) → Is semaphores.the_row r us → P r)
      → (i : ℕ) → P (semaphore k i)
  of_semaphores_lem P none tells = each_tells semaphores.the_row.own_val P no_semaphore none tells k.semaphores s.1.1.1.0.0 s.1.1.1.0.1.1

  of_events_lem : (P : Event → Type 0) → P no_event → ((r : Event) (us : List Val) → Is events.the_row r us → P r) → (i : ℕ) → P (event k i)
  of_events_lem P none tells = each_tells events.the_row.own_val P no_event none tells k.events s.1.1.1.1.0.0 s.1.1.1.1.0.1.1

  of_messages : (P : Message → Type 0) → P no_message → ((r : Message) (us : List Val) → Is messages.the_row r us → P r)
      → (m : ℕ) → P (message k m)
  of_messages P none tells = each_tells messages.the_row.own_val P no_message none tells k.messages s.1.1.1.1.1.0.0 s.1.1.1.1.1.0.1.1

  -- ---- of the state
  sized : Sized k
  sized =
      record {
        threads = s.1.1.0.1.0.1;
        semaphores = s.1.1.1.0.1.0.1;
        events = s.1.1.1.1.0.1.0.1;
        messages = s.1.1.1.1.1.0.1.0.1;
        places = s.1.1.1.1.1.1.0.1.1.1.0.1.0.1;
        time = s.1.1.1.1.1.1.1.0.1.1.1.0.1.0.1;
        posted = s.1.1.1.1.1.1.1.1.0.1.1.1.0.1.0.1;
        priorities = of_threads (λ r. r.priority < 256) (omega arith) (λ r us t. t.1.1.1.0.1);
        channels = of_messages (λ r. r.channel < 256) (omega arith) (λ r us t. t.1.1.1.1.1.0.1);
      }

  within : Within k
  within =
      record {
        priority = sized.priorities;
        first = of_threads (λ r. r.first < 256) (omega arith) (λ r us t. t.1.1.1.1.0.1);
        what =
            of_threads (λ r. condition_data r.condition < 65536) (omega arith)
            (λ r us t. condition_tells r.condition _ t.1.1.1.1.1.0);
        ticks = of_threads (λ r. r.ticks < 4294967296) (omega arith) (λ r us t. t.1.1.1.1.1.1.0.1);
        reply = of_threads (λ r. r.reply < 256) (omega arith) (λ r us t. t.1.1.1.1.1.1.1.1.0.1);
        count = of_semaphores_lem (λ r. r.count < 65536) (omega arith) (λ r us t. t.1.1.1.0.1);
        maximum = of_semaphores_lem (λ r. r.maximum < 65536) (omega arith) (λ r us t. t.1.1.1.1.0.1);
        left = of_semaphores_lem (λ r. r.ticks < 4294967296) (omega arith) (λ r us t. t.1.1.1.1.1.0.1);
        period = of_semaphores_lem (λ r. r.period < 4294967296) (omega arith) (λ r us t. t.1.1.1.1.1.1.0.1);
        mask = of_events_lem (λ r. r.mask < 4294967296) (omega arith) (λ r us t. t.1.1.1.0.1);
        values = of_events_lem (λ r. r.values < 4294967296) (omega arith) (λ r us t. t.1.1.1.1.0.1);
        owner = of_messages (λ r. r.owner < 256) (omega arith) (λ r us t. t.1.1.1.0.1);
        sender = of_messages (λ r. r.sender < 256) (omega arith) (λ r us t. t.1.1.1.1.0.1);
        kind = of_messages (λ r. r.kind < 65536) (omega arith) (λ r us t. t.1.1.1.1.1.1.0.1);
        size = of_messages (λ r. r.size < 4294967296) (omega arith) (λ r us t. t.1.1.1.1.1.1.1.0.1);
        address = of_messages (λ r. r.address < 4294967296) (omega arith) (λ r us t. t.1.1.1.1.1.1.1.1.0.1);
        channel = sized.channels;
        bits = s.1.1.1.1.1.1.1.1.1.0.1;
        uptime = s.1.1.1.1.1.1.1.1.1.1.0.1;
        unscheduled = s.1.1.1.1.1.1.1.1.1.1.1.0.1;
        critical = s.1.1.1.1.1.1.1.1.1.1.1.1.0.1;
        runner = s.1.1.1.1.1.1.1.1.1.1.1.1.1.0.1;
        flags = s.1.1.1.1.1.1.1.1.1.1.1.1.1.1.0.1;
      }

-- Every state that a function of the code can be given.
pub of_types : (k : Kernel) (vs : List Val) → Is kernels.the_row k vs → OfTypes k
of_types k vs s = record { sized = sized k vs s; within = within k vs s }

-- Every sixteen bytes that it can be given.
pub is_record : (bytes : List ℕ) (vs : List Val) → Is (Array (UInt w8) 16) bytes vs → IsRecord bytes
is_record bytes vs s = (s.1.0.1, each_tells (UInt w8).own_val (λ b. b < 256) 0 (omega arith) (λ b us t. t.1) bytes s.0 s.1.1)
