-- `replay::undos::undo_many` meets its contract: what comes back is the definition's, and of that everything is proved in spec_answers.
use mathlib.Core.Path.{◌≡◌, sym, ap, ◌∙◌}
use mathlib.Core.Bool.{true, false}
use native.Mathlib.Omega.{arith}
use Rattle.spec_rules.specs.Tests.{keeps_rules}
use Rattle.spec_rules.proofs.Exactly.{rules_mean}
use Rattle.spec_notes.specs.Within.{AreBytes}
use Rattle.spec_answers.specs.declared.Logged.{Logged}
use Rattle.spec_answers.specs.Logs.{reached, undone_many}
use Rattle.spec_answers.proofs.ManyUndos.{many_kept, undoes_many}
use Rattle.spec_answers.proofs.FromTypes.{of_types}
use Rattle.replay.proofs.undos.undo_many.Goals as goal

pub returns-then-not-keeps_rules : goal.returns-then-not-keeps_rules
unfolding undone_many
returns-then-not-keeps_rules c =
    let a = c.args in
    let broken : keeps_rules a.k ≡ false = sym c.keeps_rules.ensures ∙ c.if-not-keeps_rules.true in
    let b : AreBytes a.log.now = λ i. omega (arith, c.type_inv.log i) in
    let e : c.reaching.result ≡ undone_many a.n a.k a.log.now a.used =
    rw broken (c.reaching.ensures ∙ ap (λ (x : Logged). reached x 0) c.refused.ensures) in
    rw e (undoes_many a.n a.k a.log.now a.used (of_types a.k _ c.well_formed.0) b)

pub returns : goal.returns
unfolding undone_many
returns c =
    let a = c.args in
    let good : keeps_rules a.k ≡ true = sym c.keeps_rules.ensures ∙ c.if-not-keeps_rules.false in
    let b : AreBytes a.log.now = λ i. omega (arith, c.type_inv.log i) in
    let T = of_types a.k _ c.well_formed.0 in
    let kept = many_kept a.log.now b a.n a.k a.used T (rules_mean a.k T.sized good) in
    let e : c.undo_many_kept.result ≡ undone_many a.n a.k a.log.now a.used = rw good (c.undo_many_kept.ensures ∙ sym kept) in
    rw e (undoes_many a.n a.k a.log.now a.used T b)
