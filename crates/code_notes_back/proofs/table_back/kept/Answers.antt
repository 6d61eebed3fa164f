-- `code_notes_back::table_back::kept` meets its contract: the rest is those of the members passed that nobody touched.
use Prim.Native.Nat.{ℕ}
use mathlib.Core.Path.{◌≡◌}
use mathlib.Core.Bool.{true, false}
use mathlib.Core.List.{List, append-nil}
use native.Mathlib.Omega.{arith}
use lib.ListN.{length, get_or, take, length-append}
use lib.Seq.{take_all}
use borrow.Author.Rules.{rules}
use borrow.Author.Tests.{eq-eqb, ne_eqb}
use Rattle.base_queue.specs.Lists.{keep}
use Rattle.base_queue.specs.Queues.{capacity}
use Rattle.base_queue.proofs.Lists.{keep_next}
use Rattle.base_queue.proofs.Queues.{length_items, pushed_on}
use Rattle.code_notes_back.proofs.Merging.{untouched}
use Rattle.code_notes_back.proofs.table_back.kept.Goals as goal
use Rattle.code_notes_back.proofs.table_back.kept.Goals.{then-stays, else-stays}

pub loop-x-init : goal.loop-x-init
loop-x-init c =
    let q = c.args.q in
    let e : length q.at ≡ capacity = search rules in
    (rw c.members-x-items.ensures (length_items q e), omega arith, c.empty-rest.ensures)

pub loop-x-preserved : goal.loop-x-preserved
loop-x-preserved c =
    let l = c.loop-x in
    let i = l.invariant in
    let xs : List ℕ = c.members-x-items.result.now in
    let x : ℕ = get_or xs l.x-index 0 in
    let stays = untouched c.args.out.now in
    let next = keep_next stays 0 xs l.x-index c.loop-x-test.true in
    elim c.if-stays.branch [
      | then-stays w ↦
          let t : stays x ≡ true = rw c.byte_at-stays.ensures at (eq-eqb _ _ w.if-stays.true) in
          let e = rw t at next in
          let p = pushed_on (keep stays (take l.x-index xs)) _ _ i.2 _ (omega arith) w.push.ensures in
          (i.0, rw (e, length-append) (omega arith), rw (w.rest-is, e) p)
      | else-stays w ↦
          let t : stays x ≡ false = rw c.byte_at-stays.ensures at (ne_eqb _ _ w.if-stays.false) in
          let e = rw (t, append-nil) at next in
          (i.0, rw e (omega arith), rw (w.rest-is, e) i.2)
    ]

pub returns : goal.returns
returns c =
    let l = c.loop-x in
    let xs : List ℕ = c.members-x-items.result.now in
    rw (← c.members-x-items.ensures) (rw (take_all l.x-index xs c.loop-x-test.false) at l.invariant.2)
