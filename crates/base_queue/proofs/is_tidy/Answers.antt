-- `base_queue::is_tidy` meets its contract: the test of the unused places is the library's, over all that stand behind the first n.
use Prim.Native.Nat.{ℕ, ◌-◌}
use mathlib.Core.Path.{◌≡◌}
use mathlib.Core.List.{List}
use native.Mathlib.Omega.{arith}
use lib.ListN.{length, take, drop, length-drop}
use lib.Seq.{take_all}
use borrow.Author.Tests.{le-leb, lt-leb}
use Rattle.base_queue.specs.Queues.{capacity, is_tidy}
use Rattle.base_queue.proofs.Lists.{zeros_all}
use Rattle.base_queue.proofs.is_tidy.Goals as goal

pub returns-then-fits : goal.returns-then-fits
unfolding is_tidy
returns-then-fits c =
    let n : ℕ = c.args.q.n in
    let at : List ℕ = c.args.q.at in
    let e : take (length at - n) (drop n at) ≡ drop n at = take_all (length at - n) (drop n at) (rw length-drop (omega arith)) in
    rw (le-leb _ _ c.if-fits.true, zeros_all (drop n at)) (rw e at c.all_zero.ensures)

pub returns-else-fits : goal.returns-else-fits
unfolding is_tidy
returns-else-fits c = rw (lt-leb c.args.q.n capacity (omega arith))
