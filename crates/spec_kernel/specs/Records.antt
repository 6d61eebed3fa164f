-- The records as document 01 numbers them, and the fresh state.
use Rattle.std.specs.Prelude.{ℕ, Bool, true, false, ◌&&◌, [], ltb, get_or, replicate}
use Rattle.spec_kernel.specs.Sizes.{thread_count, semaphore_count, event_count, message_count, flag_count}
use Rattle.base_bits.specs.Words.{bit_at}
use Rattle.base_queue.specs.Queues.{pack}
use Rattle.spec_kernel.specs.declared.records.Condition.TheVariants.{Ready}
use Rattle.spec_kernel.specs.declared.records.Wake.{Wake}
use Rattle.spec_kernel.specs.declared.records.Thread.{Thread}
use Rattle.spec_kernel.specs.declared.records.Semaphore.{Semaphore}
use Rattle.spec_kernel.specs.declared.records.Event.{Event}
use Rattle.spec_kernel.specs.declared.records.Message.{Message}
use Rattle.spec_kernel.specs.declared.records.Kernel.{Kernel}

-- A record that isn't live is 0 throughout: ready is the 0 of a condition, none that of a wake reason [01, state 7.3].
abbrev pub no_thread : Thread
no_thread = record { live = false; priority = 0; first = 0; condition = Ready; ticks = 0; wake = Wake.None; reply = 0 }

abbrev pub no_semaphore : Semaphore
no_semaphore = record { live = false; count = 0; maximum = 0; ticks = 0; period = 0 }

abbrev pub no_message : Message
no_message = record { live = false; owner = 0; sender = 0; kind = 0; size = 0; address = 0; channel = 0 }

-- an event past the last: never read
abbrev pub no_event : Event
no_event = record { any = false; mask = 0; values = 0 }

-- the record of an id; that of an id too large isn't live
abbrev pub thread : Kernel → ℕ → Thread
thread k t = get_or k.threads t no_thread

abbrev pub semaphore : Kernel → ℕ → Semaphore
semaphore k i = get_or k.semaphores i no_semaphore

abbrev pub event : Kernel → ℕ → Event
event k i = get_or k.events i no_event

abbrev pub message : Kernel → ℕ → Message
message k m = get_or k.messages m no_message

-- Flag i is live: that is all of its record, a bit of one word. No id too large is live [02 §1].
abbrev pub flag_in : ℕ → ℕ → Bool
flag_in flags i = ltb i flag_count && bit_at flags i

abbrev pub flag : Kernel → ℕ → Bool
flag k i = flag_in k.flags i

-- An event of the fresh state: mode any, no bit masked, no value set [01, modelled 6].
abbrev pub fresh_event : Event
fresh_event = record { any = true; mask = 0; values = 0 }

-- The fresh state: nothing is live, uptime, levels and bits are 0, events are as above, and nobody runs [01, modelled 6].
unfoldable pub fresh : Kernel
fresh =
    record {
      threads = replicate thread_count no_thread;
      semaphores = replicate semaphore_count no_semaphore;
      events = replicate event_count fresh_event;
      messages = replicate message_count no_message;
      places = pack [];
      time = pack [];
      posted = pack [];
      bits = 0;
      uptime = 0;
      unscheduled = 0;
      critical = 0;
      runner = 255;
      flags = 0;
    }
