-- The kinds 8 to 13: levels go up and down, and the caller, who is ready, runs.
use Prim.Native.Nat.{ℕ, ◌-◌}
use mathlib.Core.Path.{◌≡◌}
use mathlib.Core.Bool.{true}
use Rattle.spec_kernel.specs.declared.records.Kernel.{Kernel}
use Rattle.spec_calls.specs.declared.call.Call.{Call}
use Rattle.spec_calls.specs.Kinds.{kind_of, from_thread}
use Rattle.spec_moves.specs.States.{with_levels}
use Rattle.spec_regions.specs.Regions.{one_more, push_unscheduled, pop_unscheduled}
use Rattle.spec_regions.specs.Regions.{pop_all_unscheduled, push_critical, pop_critical, pop_all_critical}
use Rattle.proof_rules.proofs.Core.{scheduler_core}
use Rattle.proof_rules.proofs.Ends.{Good, Before}
use Rattle.proof_rules.proofs.Accepted.{Accepted}
use Rattle.proof_rules.proofs.Steps.{caller_ready}

module _ {k : Kernel} (B : Before k) {c : Call} (A : Accepted k c) where
  levels_good : from_thread c ≡ true → (unscheduled critical : ℕ) → Good (with_levels unscheduled critical k)
  levels_good f unscheduled critical = record {
    core = scheduler_core B.core k.uptime unscheduled critical k.runner;
    runs = λ _. caller_ready B A f;
  }

  pub kind_8 : c.kind ≡ 8 → Good (push_unscheduled k c)
  unfolding push_unscheduled from_thread kind_of
  kind_8 e = levels_good (rw e) (one_more k.unscheduled) k.critical

  pub kind_9 : c.kind ≡ 9 → Good (pop_unscheduled k c)
  unfolding pop_unscheduled from_thread kind_of
  kind_9 e = levels_good (rw e) (k.unscheduled - 1) k.critical

  pub kind_10 : c.kind ≡ 10 → Good (pop_all_unscheduled k c)
  unfolding pop_all_unscheduled from_thread kind_of
  kind_10 e = levels_good (rw e) 0 k.critical

  pub kind_11 : c.kind ≡ 11 → Good (push_critical k c)
  unfolding push_critical from_thread kind_of
  kind_11 e = levels_good (rw e) k.unscheduled (one_more k.critical)

  pub kind_12 : c.kind ≡ 12 → Good (pop_critical k c)
  unfolding pop_critical from_thread kind_of
  kind_12 e = levels_good (rw e) k.unscheduled (k.critical - 1)

  pub kind_13 : c.kind ≡ 13 → Good (pop_all_critical k c)
  unfolding pop_all_critical from_thread kind_of
  kind_13 e = levels_good (rw e) k.unscheduled 0
