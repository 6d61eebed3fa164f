-- Regions: two levels, and nothing else.
use Rattle.std.specs.Prelude.{ℕ, ◌≡◌}
use Rattle.spec_kernel.specs.declared.records.Kernel.{Kernel}
use Rattle.spec_laws.specs.Words.{SameThreads, SameMessages, SameEvents}

-- The levels are these, and all else is as it was [01, calls: Regions 1].
pub record Levels (unscheduled critical : ℕ) (k k' : Kernel) : Type 0 where
  pub unscheduled_is : k'.unscheduled ≡ unscheduled
  pub critical_is : k'.critical ≡ critical
  pub threads : SameThreads k k'
  pub semaphores : k'.semaphores ≡ k.semaphores
  pub events : SameEvents k k'
  pub flags : k'.flags ≡ k.flags
  pub messages : SameMessages k k'
  pub uptime : k'.uptime ≡ k.uptime
  pub runner : k'.runner ≡ k.runner
