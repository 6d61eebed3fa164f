-- The number of each refusal, and of an accepted call's answer [01, table].
use Rattle.std.specs.Prelude.{ℕ, Option, Some, None}
use Rattle.spec_refusals.specs.declared.refusal.Refusal.{Refusal}
use Rattle.spec_refusals.specs.declared.refusal.Refusal.TheVariants.{Unknown, NoCaller, InterruptsOff, BadId, BadNumber, BlocksInRegion}
use Rattle.spec_refusals.specs.declared.refusal.Refusal.TheVariants.{NoneFree, NotOwner, InChannel, HasWaiters, PopsNothing, NotPeriodic}

abbrev pub number : Refusal → ℕ
number Unknown = 1
number NoCaller = 2
number InterruptsOff = 3
number BadId = 4
number BadNumber = 5
number BlocksInRegion = 6
number NoneFree = 7
number NotOwner = 8
number InChannel = 9
number HasWaiters = 10
number PopsNothing = 11
number NotPeriodic = 12

-- 0 where there is none
abbrev pub number_in : Option Refusal → ℕ
number_in None = 0
number_in (Some r) = number r
