-- What the types give of every value: so many records, and each number below its field's limit.
use Rattle.std.specs.Prelude.{ℕ, ◌<◌, List, get_or}
use Rattle.spec_kernel.specs.declared.records.Kernel.{Kernel}
use Rattle.spec_kernel.specs.Records.{thread, semaphore, event, message}
use Rattle.spec_rules.specs.Rules.{Sized}
use Rattle.spec_calls.specs.declared.call.Call.{Call}
use Rattle.spec_notes.specs.Rows.{condition_data}

-- each field of a state below the limit of its type
pub record Within (k : Kernel) : Type 0 where
  pub priority : (t : ℕ) → (thread k t).priority < 256
  pub first : (t : ℕ) → (thread k t).first < 256
  pub what : (t : ℕ) → condition_data (thread k t).condition < 65536
  pub ticks : (t : ℕ) → (thread k t).ticks < 4294967296
  pub reply : (t : ℕ) → (thread k t).reply < 256
  pub count : (i : ℕ) → (semaphore k i).count < 65536
  pub maximum : (i : ℕ) → (semaphore k i).maximum < 65536
  pub left : (i : ℕ) → (semaphore k i).ticks < 4294967296
  pub period : (i : ℕ) → (semaphore k i).period < 4294967296
  pub mask : (i : ℕ) → (event k i).mask < 4294967296
  pub values : (i : ℕ) → (event k i).values < 4294967296
  pub owner : (m : ℕ) → (message k m).owner < 256
  pub sender : (m : ℕ) → (message k m).sender < 256
  pub kind : (m : ℕ) → (message k m).kind < 65536
  pub size : (m : ℕ) → (message k m).size < 4294967296
  pub address : (m : ℕ) → (message k m).address < 4294967296
  pub channel : (m : ℕ) → (message k m).channel < 256
  pub bits : k.bits < 4294967296
  pub uptime : k.uptime < 4294967296
  pub unscheduled : k.unscheduled < 256
  pub critical : k.critical < 256
  pub runner : k.runner < 256
  pub flags : k.flags < 65536

-- What the types give of every state, whatever it holds.
pub record OfTypes (k : Kernel) : Type 0 where
  pub sized : Sized k
  pub within : Within k

-- and of bytes
abbrev pub AreBytes : List ℕ → Type 0
AreBytes l = (i : ℕ) → get_or l i 0 < 256

-- the fields of a call that comes in bytes
pub record CallWithin (x : Call) : Type 0 where
  pub a : x.a < 256
  pub b : x.b < 65536
  pub c : x.c < 4294967296
  pub d : x.d < 4294967296
