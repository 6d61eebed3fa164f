-- `code_notes_back::table_back::merged` meets its contract: i places are filled, with j of those that stayed.
use Prim.Native.Nat.{ℕ}
use mathlib.Core.Path.{refl, ◌∙◌}
use mathlib.Core.List.{List}
use native.Mathlib.Omega.{arith}
use lib.ListN.{length-set}
use Rattle.base_queue.specs.Queues.{capacity}
use Rattle.base_rows.proofs.RowTurns.{filled_next}
use Rattle.code_notes_back.proofs.Merging.{noted_next, stayed_next, merge_end, merge_over, store_next, store_done}
use Rattle.code_notes_back.proofs.table_back.merged.Goals as goal
use Rattle.code_notes_back.proofs.table_back.merged.Goals.{then-x, else-x+then-j-stayed}

pub loop-i-init : goal.loop-i-init
loop-i-init c = (refl, refl, refl)

pub returns-else-j-stayed : goal.returns-else-j-stayed
returns-else-j-stayed c =
    let l = c.loop-i in
    let m : List ℕ = c.members-stayed.result.now in
    rw (← c.members-stayed.ensures)
    (store_done l.a l.i l.invariant.0 l.invariant.1 _ _ l.i refl (omega arith) l.invariant.2
    (merge_end c.args.at.now m l.i l.j (omega arith) (omega arith) (omega arith)))

pub loop-i-preserved : goal.loop-i-preserved
loop-i-preserved c =
    let l = c.loop-i in
    let at : List ℕ = c.args.at.now in
    let m : List ℕ = c.members-stayed.result.now in
    elim c.if-x.branch [
      | then-x w ↦ rw (w.a-is, w.j-is) (
        simp length-set l.invariant.0,
        store_next l.a l.i l.invariant.0 l.invariant.1 _ (omega arith),
        l.invariant.2 ∙ rw (noted_next at m l.i l.j (omega arith) (omega arith)) (filled_next l.a l.i _ _ (omega arith)),
      )
      | else-x+then-j-stayed w ↦ rw (w.a-is, w.j-is) (
        simp length-set l.invariant.0,
        store_next l.a l.i l.invariant.0 l.invariant.1 _ (omega arith),
        l.invariant.2 ∙ rw (stayed_next at m l.i l.j (omega arith) (omega arith) (omega arith)) (filled_next l.a l.i _ _ (omega arith)),
      )
    ]

pub returns : goal.returns
returns c =
    let l = c.loop-i in
    rw (← c.members-stayed.ensures)
    (store_done l.a l.i l.invariant.0 l.invariant.1 _ _ capacity (omega arith) (omega arith) l.invariant.2
    (merge_over c.args.at.now _ l.i (omega arith)))
