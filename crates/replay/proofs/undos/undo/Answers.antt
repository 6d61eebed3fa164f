-- `replay::undos::undo` meets its contract: what comes back is the definition's, and of that everything is proved in spec_answers.
use mathlib.Core.Path.{◌≡◌, sym, ◌∙◌}
use mathlib.Core.Bool.{true, false}
use native.Mathlib.Omega.{arith}
use Rattle.spec_rules.specs.Tests.{keeps_rules}
use Rattle.spec_rules.proofs.Exactly.{rules_mean}
use Rattle.spec_notes.specs.Within.{AreBytes}
use Rattle.spec_answers.specs.Logs.{undone}
use Rattle.spec_answers.proofs.Undos.{undoes_so}
use Rattle.spec_answers.proofs.FromTypes.{of_types}
use Rattle.replay.proofs.undos.undo.Goals as goal

pub returns-then-not-keeps_rules : goal.returns-then-not-keeps_rules
unfolding undone
returns-then-not-keeps_rules c =
    let a = c.args in
    let broken : keeps_rules a.k ≡ false = sym c.keeps_rules.ensures ∙ c.if-not-keeps_rules.true in
    let b : AreBytes a.log.now = λ i. omega (arith, c.type_inv.log i) in
    let e : c.refused.result ≡ undone a.k a.log.now a.used = rw broken c.refused.ensures in
    rw e (undoes_so a.k a.log.now a.used (of_types a.k _ c.well_formed.0) b)

pub returns : goal.returns
returns c =
    let a = c.args in
    let good : keeps_rules a.k ≡ true = sym c.keeps_rules.ensures ∙ c.if-not-keeps_rules.false in
    c.undo_kept.ensures.promised (rules_mean a.k (of_types a.k _ c.well_formed.0).sized good)
