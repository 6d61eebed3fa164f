-- `code_time::due_woken` meets its contract: of the members passed, those with one tick left have woken.
use mathlib.Core.Path.{◌≡◌, ap}
use native.Mathlib.Omega.{arith}
use lib.ListN.{get_or}
use borrow.Author.Tests.{eq-eqb, ne_eqb}
use Rattle.spec_kernel.specs.declared.records.Thread.{Thread}
use Rattle.spec_kernel.specs.Records.{no_thread}
use Rattle.code_threads.proofs.Walks.{walk_does, walk_skips, walk_ends}
use Rattle.spec_time.specs.Time.{time_up, due}
use Rattle.code_time.proofs.due_woken.Invariants.{is_due}
use Rattle.code_time.proofs.due_woken.Goals as goal
use Rattle.code_time.proofs.due_woken.Goals.{After-record_at, then-record_at-eq1, else-record_at-eq1}

-- what the member at hand has left
left : (c : After-record_at)
    → c.record_at.result.ticks ≡ (get_or c.args.p.records (get_or c.members-t-items.result.now c.loop-t.t-index 0) no_thread).ticks
left c = rw (← c.no_thread.ensures) (ap (λ (r : Thread). r.ticks) c.record_at.ensures)

pub loop-t-preserved : goal.loop-t-preserved
loop-t-preserved c =
    let p = c.args.p in
    let all = c.members-t-items.result.now in
    let so-far = c.loop-t.invariant.1 in
    let e = left (goal.at.loop-t-preserved c).After-record_at in (
      c.loop-t.invariant.0,
      elim c.if-record_at-eq1.branch [
        | then-record_at-eq1 w ↦
            rw (w.next-is, w.time_up-next.ensures)
            (walk_does time_up (is_due p.records) p all so-far (omega arith) (eq-eqb _ _ (omega (arith, e, w.if-record_at-eq1.true))))
        | else-record_at-eq1 w ↦
            rw w.next-is
            (walk_skips time_up (is_due p.records) p all so-far (omega arith) (ne_eqb _ _ (omega (arith, e, w.if-record_at-eq1.false))))
      ],
    )

pub returns : goal.returns
unfolding due
returns c =
    let p = c.args.p in
    rw (← c.loop-t.invariant.0) (walk_ends time_up (is_due p.records) p c.members-t-items.result.now c.loop-t.invariant.1 (omega arith))
