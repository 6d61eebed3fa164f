-- Who runs after a call, from what is at hand: the levels, who ran, the first place and its record. `scheduled` says it of a whole state.
use Rattle.std.specs.Prelude.{ℕ, ◌+◌, cond, eqb, ltb}
use Rattle.spec_kernel.specs.declared.records.Thread.{Thread}
use Rattle.spec_kernel.specs.Conditions.{of_semaphores}
use Rattle.spec_kernel.specs.Places.{home_of, home}

unfoldable pub runner_of : ℕ → ℕ → ℕ → ℕ → Thread → ℕ
runner_of unscheduled critical runner first r =
    cond (eqb (unscheduled + critical) 0) (cond (ltb (home_of r) (home of_semaphores 0)) first 255) runner
