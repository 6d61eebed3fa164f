-- The law of each kind: what must hold between the state before an accepted call, the value that it answers, and the state after it.
use Rattle.std.specs.Prelude.{ℕ, ◌+◌, ◌-◌, ◌≡◌, true, false, List, [], ◌∷◌, eqb, get_or}
use Rattle.spec_kernel.specs.declared.records.Condition.TheVariants.{Asleep}
use Rattle.spec_kernel.specs.declared.records.Kernel.{Kernel}
use Rattle.spec_kernel.specs.Records.{thread, semaphore, no_semaphore, no_message}
use Rattle.spec_kernel.specs.Places.{nowhere}
use Rattle.spec_calls.specs.declared.call.Call.{Call}
use Rattle.spec_laws.specs.Words.{pulsing}
use Rattle.spec_laws.specs.OfThreads.{Blocked, Created, Destroyed, Reprioritized, Yielded}
use Rattle.spec_laws.specs.OfRegions.{Levels}
use Rattle.spec_laws.specs.OfSemaphores.{MadeSemaphore, CreatedSemaphore, PendedSemaphore, PostedSemaphore}
use Rattle.spec_laws.specs.OfEvents.{LoadedEvent, PendedEvent, BitIs}
use Rattle.spec_laws.specs.OfMessages.{MadeMessage, CreatedMessage, PostedMessage, PendedMessage}
use Rattle.spec_laws.specs.OfFlags.{MadeFlag, CreatedFlag, PendedFlag, PostedFlag}
use Rattle.spec_laws.specs.OfTime.{Ticked}

-- by the state before, the call, the value and the state after
abbrev pub Law : Type 1
Law = Kernel → Call → ℕ → Kernel → Type 0

-- a law of a kind whose value is 255
abbrev pub silent : (Kernel → Call → Kernel → Type 0) → Law
silent law k c value k' = (value ≡ 255) × law k c k'

abbrev pub no_law : Law
no_law k c value k' = Unit {0}

-- The kinds in their order; 0 is no kind, and no accepted call has it.
abbrev pub laws_of_kinds : List Law
laws_of_kinds =
    no_law
    ∷ silent (λ k c. Ticked k)  -- 1 tick
    ∷ (λ k c value. Created c.a value k)  -- 2 create thread, priority a
    ∷ silent (λ k c. Destroyed c.a k)  -- 3 destroy thread a
    ∷ silent (λ k c. Reprioritized c.b c.a k)  -- 4 set priority of a to b
    ∷ silent (λ k c. Reprioritized (thread k c.a).first c.a k)  -- 5 reset priority of a
    ∷ silent (λ k c. Yielded k.runner k)  -- 6 yield
    ∷ silent (λ k c. Blocked Asleep c.c nowhere k.runner k)  -- 7 sleep c
    ∷ silent (λ k c. Levels (k.unscheduled + 1) k.critical k)  -- 8 push unscheduled
    ∷ silent (λ k c. Levels (k.unscheduled - 1) k.critical k)  -- 9 pop unscheduled
    ∷ silent (λ k c. Levels 0 k.critical k)  -- 10 pop all unscheduled
    ∷ silent (λ k c. Levels k.unscheduled (k.critical + 1) k)  -- 11 push critical
    ∷ silent (λ k c. Levels k.unscheduled (k.critical - 1) k)  -- 12 pop critical
    ∷ silent (λ k c. Levels k.unscheduled 0 k)  -- 13 pop all critical
    ∷ (λ k c value. CreatedSemaphore c.b c.c value k)  -- 14 create semaphore, count b, maximum c
    ∷ silent (λ k c. MadeSemaphore c.a no_semaphore k)  -- 15 destroy semaphore a
    ∷ silent (λ k c. MadeSemaphore c.a (pulsing c.c c.d (semaphore k c.a)) k)  -- 16 make a periodic, delay c, period d
    ∷ silent (λ k c. MadeSemaphore c.a (pulsing 0 0 (semaphore k c.a)) k)  -- 17 remove periodic a
    ∷ silent (λ k c. PendedSemaphore c.a c.c k)  -- 18 pend semaphore a, timeout c
    ∷ silent (λ k c. PostedSemaphore c.a k)  -- 19 post semaphore a
    ∷ silent (λ k c. LoadedEvent c.a (eqb c.b 1) c.c c.d k)  -- 20 load event a, mode b, mask c, values d
    ∷ silent (λ k c. PendedEvent c.a c.c k)  -- 21 pend event a, timeout c
    ∷ silent (λ k c. BitIs c.a true k)  -- 22 set event bit a
    ∷ silent (λ k c. BitIs c.a false k)  -- 23 clear event bit a
    ∷ (λ k c value. CreatedMessage c.b c.c c.d value k)  -- 24 create message, type b, size c, address d
    ∷ silent (λ k c. MadeMessage c.a no_message k)  -- 25 destroy message a
    ∷ silent (λ k c. PostedMessage c.a c.b c.c k)  -- 26 post message a to thread b, channel c
    ∷ (λ k c value. PendedMessage c.b c.c value k)  -- 27 pend message, mask b, timeout c
    ∷ silent (λ k c. PostedSemaphore c.a k)  -- 28 interrupt: post semaphore a
    ∷ silent (λ k c. BitIs c.a true k)  -- 29 interrupt: set bit a
    ∷ silent (λ k c. BitIs c.a false k)  -- 30 interrupt: clear bit a
    ∷ (λ k c value. CreatedFlag value k)  -- 31 create flag
    ∷ silent (λ k c. MadeFlag c.a false k)  -- 32 destroy flag a
    ∷ silent (λ k c. PendedFlag c.a c.c k)  -- 33 pend flag a, timeout c
    ∷ silent (λ k c. PostedFlag c.a k)  -- 34 post flag a
    ∷ []

-- the law of a call's kind
unfoldable pub law_of : Law
law_of k c = get_or laws_of_kinds c.kind no_law k c
