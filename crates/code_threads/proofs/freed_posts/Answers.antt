-- `code_threads::freed_posts` meets its contract: the rest is those of the members passed that t doesn't own.
use Prim.Native.Nat.{◌+◌, ◌≤◌}
use mathlib.Core.Path.{◌≡◌}
use mathlib.Core.Bool.{not, cond}
use mathlib.Core.List.{[], ◌∷◌, ◌++◌, append-nil}
use native.Mathlib.Omega.{arith}
use lib.ListN.{length, get_or, length-append}
use borrow.Author.Rules.{rules}
use Rattle.base_queue.specs.Queues.{capacity}
use Rattle.base_queue.proofs.Lists.{keep_next}
use Rattle.base_queue.proofs.Queues.{length_items, pushed_on}
use Rattle.code_threads.proofs.freed_posts.Invariants.{kept, stays}
use Rattle.code_threads.proofs.freed_posts.Goals as goal
use Rattle.code_threads.proofs.freed_posts.Goals.{After-owns, then-not-owns, else-not-owns}

-- the next member, by what `owns` says of its message
goes_on : (c : After-owns)
    → let a = c.args in
    let l = c.members-m-items.result.now in
    let i = c.loop-m.m-index in
    kept a.messages a.t l (i + 1) ≡ kept a.messages a.t l i ++ cond (not c.owns.result) (get_or l i 0 ∷ []) []
goes_on c =
    let a = c.args in
    rw (c.owns.ensures, c.record_at.ensures, c.no_message.ensures)
    (keep_next (stays a.messages a.t) 0 c.members-m-items.result.now c.loop-m.m-index (omega arith))

pub loop-m-preserved : goal.loop-m-preserved
loop-m-preserved c =
    let a = c.args in
    let l = c.loop-m in
    let all = c.members-m-items.result.now in
    let room : length all ≤ capacity = rw l.invariant.0 (length_items a.posted (search rules)) in
    let n = goes_on (goal.at.loop-m-preserved c).After-owns in
    let i = l.invariant in
    elim c.if-not-owns.branch [
      | then-not-owns w ↦
          let e = rw w.if-not-owns.true at n in
          let p = pushed_on (kept a.messages a.t all l.m-index) _ _ i.2 _ (omega arith) w.push.ensures in
          (i.0, rw (e, length-append) (omega arith), rw (w.rest-is, e) p)
      | else-not-owns w ↦
          let e = rw (w.if-not-owns.false, append-nil) at n in
          (i.0, rw e (omega arith), rw (w.rest-is, e) i.2)
    ]
