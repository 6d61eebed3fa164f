-- `base_queue::with_at` meets its contract: those in front, x, and those behind, one after the other.
use Prim.Native.Nat.{ℕ, ◌-◌, min}
use mathlib.Core.Path.{◌≡◌, sym}
use mathlib.Core.List.{List, [], ◌∷◌, ◌++◌}
use native.Mathlib.Omega.{arith}
use lib.ListN.{length, take, drop, length-take, length-drop, length-append}
use lib.Seq.{take_all}
use borrow.Author.Rules.{rules}
use borrow.Author.Tests.{lt-ltb, le-ltb}
use Rattle.std.proofs.lemmas.List.{append_assoc}
use Rattle.base_queue.specs.declared.Queue.{Queue}
use Rattle.base_queue.specs.Queues.{capacity, items, room_for}
use Rattle.base_queue.proofs.Lists.{with_at_min}
use Rattle.base_queue.proofs.Queues.{length_items, pad_full, queue_eq, pushed_on, extended_by}
use Rattle.base_queue.proofs.with_at.Goals as goal

pub returns-then-n-eq-CAPACITY : goal.returns-then-n-eq-CAPACITY
unfolding room_for
returns-then-n-eq-CAPACITY c =
    let q : Queue = c.args.q in
    let e : length (items q) ≡ capacity = rw (← c.members-members.ensures) c.if-n-eq-CAPACITY.true in
    let s : length q.at ≡ capacity = search rules in
    let t : items q ≡ q.at = take_all q.n q.at (omega (arith, rw length-take at e)) in
    rw (le-ltb (length (items q)) capacity (omega arith)) (queue_eq (sym e) (rw t (sym (pad_full q.at s))))

pub returns : goal.returns
unfolding room_for
returns c =
    let a = c.args in
    let m : List ℕ = c.members-members.result.now in
    let n : ℕ = length m in
    let p : ℕ = c.min-place.result in
    let front : List ℕ = take p m in
    let rest : List ℕ = take (n - p) (drop p m) in
    let s : length a.q.at ≡ capacity = search rules in
    let h = rw (← c.members-members.ensures) at (length_items a.q s) in
    let e = extended_by [] _ _ c.empty-next.ensures front (rw length-take (omega arith)) c.extend.ensures in
    let f = pushed_on front _ _ e a.x (rw length-take (omega arith)) c.push.ensures in
    let z : rest ≡ drop p m = take_all (n - p) (drop p m) (rw length-drop (omega arith)) in
    let g = extended_by (front ++ a.x ∷ []) _ _ f rest (rw (length-append, length-append, length-take, z, length-drop) (omega arith)) c.extend-2.ensures in
    let j : min a.i n ≡ p = omega arith in
    rw (← c.members-members.ensures, lt-ltb n capacity (omega arith), with_at_min a.x a.i m, j)
    (rw (z, append_assoc front (a.x ∷ []) (drop p m)) at g)
