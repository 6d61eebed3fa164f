-- Regions: what a push and a pop change, and that they change nothing else.
use mathlib.Core.Path.{refl}
use Prim.Native.Nat.{ℕ, ◌+◌, ◌-◌, ◌<◌}
use borrow.Author.Tests.{lt-ltb}
use Rattle.spec_kernel.specs.declared.records.Kernel.{Kernel}
use Rattle.spec_calls.specs.declared.call.Call.{Call}
use Rattle.spec_moves.specs.States.{with_levels}
use Rattle.spec_regions.specs.Regions.{push_unscheduled, pop_unscheduled, pop_all_unscheduled, push_critical, pop_critical, pop_all_critical}
use Rattle.spec_laws.specs.OfRegions.{Levels}

levels_only : (k : Kernel) (unscheduled critical : ℕ) → Levels unscheduled critical k (with_levels unscheduled critical k)
levels_only k unscheduled critical =
    record {
      unscheduled_is = refl;
      critical_is = refl;
      threads = record { records = refl; places = refl; time = refl };
      semaphores = refl;
      events = record { records = refl; bits = refl };
      flags = refl;
      messages = record { records = refl; posted = refl };
      uptime = refl;
      runner = refl;
    }

module _ (k : Kernel) (c : Call) where
  -- a push adds one level (at 255 it is refused)
  pub push_unscheduled_lem : k.unscheduled < 255 → Levels (k.unscheduled + 1) k.critical k (push_unscheduled k c)
  unfolding push_unscheduled
  push_unscheduled_lem h = rw (lt-ltb k.unscheduled 255 h) (levels_only k (k.unscheduled + 1) k.critical)

  pub push_critical_lem : k.critical < 255 → Levels k.unscheduled (k.critical + 1) k (push_critical k c)
  unfolding push_critical
  push_critical_lem h = rw (lt-ltb k.critical 255 h) (levels_only k k.unscheduled (k.critical + 1))

  -- A pop leaves its level one lower, a pop all at 0; the other level stays [01, calls: Regions 1].
  pub pop_unscheduled_lem : Levels (k.unscheduled - 1) k.critical k (pop_unscheduled k c)
  unfolding pop_unscheduled
  pop_unscheduled_lem = levels_only k (k.unscheduled - 1) k.critical

  pub pop_all_unscheduled_lem : Levels 0 k.critical k (pop_all_unscheduled k c)
  unfolding pop_all_unscheduled
  pop_all_unscheduled_lem = levels_only k 0 k.critical

  pub pop_critical_lem : Levels k.unscheduled (k.critical - 1) k (pop_critical k c)
  unfolding pop_critical
  pop_critical_lem = levels_only k k.unscheduled (k.critical - 1)

  pub pop_all_critical_lem : Levels k.unscheduled 0 k (pop_all_critical k c)
  unfolding pop_all_critical
  pop_all_critical_lem = levels_only k k.unscheduled 0
