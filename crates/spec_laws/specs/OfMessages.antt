-- Messages: created and destroyed, posted and pended.
use Rattle.std.specs.Prelude.{ℕ, ◌<◌, ◌≡◌, true, false, List, [], ◌∷◌, ◌++◌}
use Rattle.spec_kernel.specs.declared.records.Condition.TheVariants.{ForMessage}
use Rattle.spec_kernel.specs.declared.records.Wake.{Wake}
use Rattle.spec_kernel.specs.declared.records.Message.{Message}
use Rattle.spec_kernel.specs.declared.records.Kernel.{Kernel}
use Rattle.spec_kernel.specs.Records.{thread, message}
use Rattle.spec_kernel.specs.Conditions.{masks, awaits}
use Rattle.spec_kernel.specs.Places.{nowhere, channel}
use Rattle.spec_laws.specs.Words.{handed, SameEvents, SameScheduler, OnlyMessages, OtherMessages}
use Rattle.spec_laws.specs.OfThreads.{Woken, Blocked}

-- Message m has this record in k'; it stood in no channel and stands in none, and nothing else changed.
pub record MadeMessage (m : ℕ) (r : Message) (k k' : Kernel) : Type 0 where
  pub made : message k' m ≡ r
  pub others : OtherMessages m k k'
  pub channels : (t c : ℕ) → 0 < c → channel k' t c ≡ channel k t c
  pub only : OnlyMessages k k'

-- kind 24: it has the lowest free id, and belongs to its creator, who holds it and is its sender [01, calls: Message 1; state 6.4].
pub record CreatedMessage (kind size address m : ℕ) (k k' : Kernel) : Type 0 where
  pub free : (message k m).live ≡ false
  pub lowest : (n : ℕ) → n < m → (message k n).live ≡ true
  pub made : MadeMessage m
      (record { live = true; owner = k.runner; sender = k.runner; kind = kind; size = size; address = address; channel = 0 }) k k'

-- ---- kind 26
-- Message m is posted to channel c of thread t: it belongs to t now, and stands last in that channel [01, calls: Message 2].
pub record Queued (m t c : ℕ) (k k' : Kernel) : Type 0 where
  pub last : channel k' t c ≡ channel k t c ++ m ∷ []
  pub channels : (u d : ℕ) → (u ≡ t → d ≡ c → ⊥) → channel k' u d ≡ channel k u d
  -- its sender is the caller, the last poster
  pub itself : message k' m ≡ handed t k.runner c (message k m)
  pub others : OtherMessages m k k'
  pub only : OnlyMessages k k'

-- Message m is posted to thread t, which waits for it: t gets it there and then, as its reply, and wakes [01, calls: Message 4].
pub record HandedOver (m t : ℕ) (k k' : Kernel) : Type 0 where
  pub woken : Woken Wake.Met m t k k'
  -- the message is held by the recipient, and no channel changes
  pub itself : message k' m ≡ handed t k.runner 0 (message k m)
  pub channels : (u d : ℕ) → 0 < d → channel k' u d ≡ channel k u d
  pub others : OtherMessages m k k'
  pub semaphores : k'.semaphores ≡ k.semaphores
  pub events : SameEvents k k'
  pub flags : k'.flags ≡ k.flags
  pub scheduler : SameScheduler k k'

pub record PostedMessage (m t c : ℕ) (k k' : Kernel) : Type 0 where
  pub handed : awaits (thread k t).condition c ≡ true → HandedOver m t k k'
  pub queued : awaits (thread k t).condition c ≡ false → Queued m t c k k'

-- ---- kind 27
-- The caller t takes message m, the oldest of its channel c, which has l behind it.
pub record Taken (m t c : ℕ) (l : List ℕ) (k k' : Kernel) : Type 0 where
  -- Whoever receives it holds it: it is out of its channel, and every other channel is as it was [01, state 6.3].
  pub rest : channel k' t c ≡ l
  pub channels : (u d : ℕ) → 0 < d → (u ≡ t → d ≡ c → ⊥) → channel k' u d ≡ channel k u d
  pub itself : message k' m ≡ handed t (message k m).sender 0 (message k m)
  pub others : OtherMessages m k k'
  pub only : OnlyMessages k k'

-- Of the channels asked for, the lowest that has any, and there the message that came first: its id is the value. With none on any of
-- them the caller waits, and the value is 255 [01, calls: Message 3].
pub record PendedMessage (mask timeout value : ℕ) (k k' : Kernel) : Type 0 where
  pub takes : (c m : ℕ) (l : List ℕ) → masks mask c ≡ true → channel k k.runner c ≡ m ∷ l
      → ((d : ℕ) → d < c → masks mask d ≡ true → channel k k.runner d ≡ [])
      → (value ≡ m) × Taken m k.runner c l k k'
  pub blocks : ((d : ℕ) → masks mask d ≡ true → channel k k.runner d ≡ [])
      → (value ≡ 255) × Blocked (ForMessage mask) timeout nowhere k.runner k k'
