-- `base_queue::without` meets its contract: the rest is what is kept of the members passed.
use Prim.Native.Nat.{ℕ}
use mathlib.Core.List.{List, append-nil}
use native.Mathlib.Omega.{arith}
use lib.ListN.{take, length-append}
use lib.Seq.{take_all}
use borrow.Author.Rules.{rules}
use borrow.Author.Tests.{eq-eqb, ne_eqb}
use Rattle.base_queue.specs.Lists.{is_not, without}
use Rattle.base_queue.proofs.Lists.{keep_next}
use Rattle.base_queue.proofs.Queues.{pushed_on, length_items}
use Rattle.base_queue.proofs.without.Goals as goal
use Rattle.base_queue.proofs.without.Goals.{then-y-x, else-y-x}

pub loop-y-init : goal.loop-y-init
loop-y-init c = (rw c.members-y-items.ensures (length_items c.args.q (search rules)), omega arith, c.empty-rest.ensures)

pub loop-y-preserved : goal.loop-y-preserved
loop-y-preserved c =
    let x : ℕ = c.args.x in
    let l = c.loop-y in
    let i = l.invariant in
    let m : List ℕ = c.members-y-items.result.now in
    let w : List ℕ = without x (take l.y-index m) in
    let n = keep_next (is_not x) 0 m l.y-index (omega arith) in
    elim c.if-y-x.branch [
      | then-y-x b ↦
          let e = rw (ne_eqb _ _ b.if-y-x.true) at n in
          let p = pushed_on w _ _ i.2 _ (omega arith) b.push.ensures in
          (i.0, rw (e, length-append) (omega arith), rw (b.rest-is, e) p)
      | else-y-x b ↦
          let e = rw (eq-eqb _ _ b.if-y-x.false, append-nil) at n in
          (i.0, rw e (omega arith), rw (b.rest-is, e) i.2)
    ]

pub returns : goal.returns
returns c =
    let l = c.loop-y in
    let m : List ℕ = c.members-y-items.result.now in
    rw (← c.members-y-items.ensures) (rw (take_all l.y-index m (omega arith)) at l.invariant.2)
