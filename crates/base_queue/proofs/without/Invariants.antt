-- `base_queue::without` meets its contract: the rest is what is kept of the members passed.
use mathlib.Core.Path.{◌≡◌}
use lib.ListN.{length, take}
use Prim.Native.Nat.{◌≤◌}
use Rattle.base_queue.specs.Lists.{without}
use Rattle.base_queue.specs.Queues.{capacity, pack}
use Rattle.base_queue.proofs.without.Given as goal

abbrev pub invariant-loop-y : goal.invariant-loop-y
invariant-loop-y l = (length l.y-items ≤ capacity) × (length (without l.x (take l.y-index l.y-items)) ≤ l.y-index) × (l.rest ≡ pack (without l.x (take l.y-index l.y-items)))
