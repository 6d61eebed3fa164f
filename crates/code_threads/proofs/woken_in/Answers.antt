-- `code_threads::woken_in` meets its contract: of the members passed, those whose home is h have woken.
use mathlib.Core.Path.{◌≡◌, sym, ◌∙◌}
use native.Mathlib.Omega.{arith}
use lib.ListN.{get_or}
use borrow.Author.Tests.{eq-eqb, ne_eqb}
use Rattle.spec_kernel.specs.Records.{no_thread}
use Rattle.spec_kernel.specs.Places.{home_of}
use Rattle.code_kernel_find.proofs.OfHomes.{is_home}
use Rattle.spec_threads.specs.Threads.{wake_in, woken_in}
use Rattle.code_threads.proofs.Walks.{walk_does, walk_skips, walk_ends}
use Rattle.code_threads.proofs.woken_in.Goals as goal
use Rattle.code_threads.proofs.woken_in.Goals.{After-home_of, then-home_of-h, else-home_of-h}

-- the home of the member at hand
homes : (c : After-home_of) → c.home_of.result ≡ home_of (get_or c.args.p.records (get_or c.members-t-items.result.now c.loop-t.t-index 0) no_thread)
homes c = rw (← c.no_thread.ensures, ← c.record_at.ensures) c.home_of.ensures

pub loop-t-preserved : goal.loop-t-preserved
unfolding wake_in
loop-t-preserved c =
    let a = c.args in
    let g = is_home a.p.records a.h in
    let e = homes (goal.at.loop-t-preserved c).After-home_of in (
      c.loop-t.invariant.0,
      elim c.if-home_of-h.branch [
        | then-home_of-h w ↦
            rw (w.next-is, w.woken-next.ensures)
            (walk_does wake_in g a.p c.members-t-items.result.now c.loop-t.invariant.1 (omega arith) (eq-eqb _ _ (sym e ∙ w.if-home_of-h.true)))
        | else-home_of-h w ↦
            rw w.next-is
            (walk_skips wake_in g a.p c.members-t-items.result.now c.loop-t.invariant.1 (omega arith) (ne_eqb _ _ (λ z. w.if-home_of-h.false (e ∙ z))))
      ],
    )

pub returns : goal.returns
unfolding woken_in
returns c =
    let a = c.args in
    rw (← c.loop-t.invariant.0) (walk_ends wake_in (is_home a.p.records a.h) a.p c.members-t-items.result.now c.loop-t.invariant.1 (omega arith))
