-- `code_images::writing::write` meets its contract: a state that keeps the rules is written whole or not at all.
use mathlib.Core.Path.{◌≡◌, ap, sym, ◌∙◌}
use mathlib.Core.Bool.{true}
use Rattle.spec_rules.specs.Tests.{keeps_rules}
use Rattle.spec_images.specs.OnImages.{written}
use Rattle.code_images.proofs.ImageWritten.{stored_broken, lent_then_lem, stored_none, stored_whole}
use Rattle.code_images.proofs.writing.write.Goals as goal
use Rattle.code_images.proofs.writing.write.Goals.{After-put_whole-n}

pub returns-then-not-keeps_rules : goal.returns-then-not-keeps_rules
returns-then-not-keeps_rules c =
    let a = c.args in
    let t = c.keeps_rules in
    stored_broken a.k a.room.now (sym t.ensures ∙ c.if-not-keeps_rules.true)

kept : (c : After-put_whole-n) → keeps_rules c.args.k ≡ true
kept c =
    let t = c.keeps_rules in
    sym t.ensures ∙ c.if-not-keeps_rules.false

pub returns-then-n-eq0 : goal.returns-then-n-eq0
returns-then-n-eq0 c =
    let r = (goal.at.returns-then-n-eq0 c).After-put_whole-n in
    let a = c.args in
    let e = c.put_whole-n.ensures in
    (stored_none a.k a.room.now (kept r) (sym e.0 ∙ c.if-n-eq0.true), e.1 ∙ lent_then_lem a.k a.room.now (kept r))

pub returns : goal.returns
returns c =
    let r = (goal.at.returns c).After-put_whole-n in
    let a = c.args in
    let e = c.put_whole-n.ensures in (
      ap (written 0) e.0 ∙ stored_whole a.k a.room.now (kept r) (λ z. c.if-n-eq0.false (e.0 ∙ z)),
      e.1 ∙ lent_then_lem a.k a.room.now (kept r),
    )
