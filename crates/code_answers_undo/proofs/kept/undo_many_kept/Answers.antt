-- `code_answers_undo::kept::undo_many_kept` meets its contract: after i turns i notes are undone, and the others are still to come.
use Prim.Native.Nat.{ℕ}
use mathlib.Core.Path.{◌≡◌, sym, ap, ◌∙◌}
use native.Mathlib.Omega.{arith}
use borrow.Author.Rules.{rules}
use Rattle.spec_answers.specs.declared.Logged.{Logged}
use Rattle.spec_answers.specs.Logs.{reached}
use Rattle.code_answers_undo.proofs.Turns.{begin, led, turn, stop, end}
use Rattle.code_answers_undo.proofs.kept.undo_many_kept.Goals as goal

pub loop-i-init : goal.loop-i-init
loop-i-init c = (search rules, let a = c.args in begin a.n a.k a.log.now a.used)

pub returns-then-l-ne0 : goal.returns-then-l-ne0
returns-then-l-ne0 c =
    let a = c.args in
    c.reaching.ensures
    ∙ sym (stop a.n c.loop-i.i _ _ _ c.loop-i-test.true c.undo_kept-l.result
    c.undo_kept-l.ensures.result c.if-l-ne0.true)
    ∙ sym c.loop-i.invariant.1

pub loop-i-preserved : goal.loop-i-preserved
loop-i-preserved c =
    let u = c.undo_kept-l in
    let h = c.loop-i-test.true in (
      led _ _ _ u.result u.ensures.result c.if-l-ne0.false,
      c.loop-i.invariant.1 ∙ turn _ _ _ _ _ h u.result u.ensures.result c.if-l-ne0.false,
    )

pub returns : goal.returns
returns c =
    let l = c.loop-i in
    let e : l.i ≡ c.args.n = omega arith in
    c.reaching-2.ensures ∙ ap (λ (i : ℕ). reached l.l i) (sym e) ∙ ap (λ (x : Logged). reached x l.i) l.invariant.0
    ∙ sym (end _ _ _ _ _ c.loop-i-test.false)
    ∙ sym l.invariant.1
