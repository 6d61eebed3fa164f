-- `replay::logs::called` meets its contract: what comes back is the definition's, and of that everything is proved in spec_answers.
use Prim.Native.Nat.{ℕ}
use mathlib.Core.Path.{◌≡◌, sym, ◌∙◌}
use mathlib.Core.Bool.{true, false}
use mathlib.Core.List.{List}
use Rattle.spec_rules.specs.Tests.{keeps_rules}
use Rattle.spec_answers.specs.declared.Logged.{Logged}
use Rattle.spec_answers.specs.Logs.{called_with, log_called}
use Rattle.spec_answers.specs.Promises.{Answered}
use Rattle.spec_answers.proofs.WithLogs.{answers}
use Rattle.spec_answers.proofs.FromTypes.{of_types, is_record}
use Rattle.replay.proofs.logs.called.Goals.{Start}
use Rattle.replay.proofs.logs.called.Goals as goal

-- what is promised of the definition's result
promised : (s : Start) (r : Logged) (log' : List ℕ)
    → (let a = s.args in r ≡ called_with a.k a.bytes a.log.now a.used)
    → (let a = s.args in log' ≡ log_called a.k a.bytes a.log.now a.used)
    → (let a = s.args in Answered a.k a.bytes a.log.now a.used r log')
promised s r log' e f =
    let a = s.args in
    rw (e, f) (answers a.k a.bytes a.log.now a.used (of_types a.k _ s.well_formed.0) (is_record a.bytes _ s.well_formed.1.0))

pub returns-then-not-keeps_rules : goal.returns-then-not-keeps_rules
unfolding called_with log_called
returns-then-not-keeps_rules c =
    let broken : keeps_rules c.args.k ≡ false = sym c.keeps_rules.ensures ∙ c.if-not-keeps_rules.true in
    promised (goal.at.returns-then-not-keeps_rules c).Start _ _ (rw broken c.refused.ensures) (rw broken)

pub returns : goal.returns
unfolding called_with log_called
returns c =
    let good : keeps_rules c.args.k ≡ true = sym c.keeps_rules.ensures ∙ c.if-not-keeps_rules.false in
    let r = c.recorded.ensures in
    promised (goal.at.returns c).Start _ _ (rw good r.result) (rw good r.written)
