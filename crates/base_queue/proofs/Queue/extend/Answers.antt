-- `base_queue::Queue::extend` meets its contract: the store behind the members was zeros, whose first places are filled at once.
use Prim.Native.Nat.{ℕ, ◌+◌, ◌-◌}
use mathlib.Core.Path.{◌≡◌, ap}
use mathlib.Core.List.{List}
use native.Mathlib.Omega.{arith}
use lib.ListN.{length, length-append}
use Rattle.base_queue.specs.declared.Queue.{Queue}
use Rattle.base_queue.specs.Queues.{items, pad}
use Rattle.base_queue.proofs.Queues.{size_tidy, pad_extend, queue_eq}
use Rattle.base_queue.proofs.Queue.extend.Goals as goal

pub returns-then-more-n : goal.returns-then-more-n
returns-then-more-n c = λ t h.
    let q : Queue = c.args.self.now in
    let m : List ℕ = c.args.more.now in
    let l : List ℕ = items q in
    let s : q.n ≡ length l = size_tidy q t in
    let p : pad l ≡ q.at = ap (λ (r : Queue). r.at) t in
    let e = rw (p, ← s) at (pad_extend l m (q.n + length m - q.n) (omega arith)) in
    queue_eq (rw length-append (omega arith)) (rw c.copy_from_slice.ensures.after e)
