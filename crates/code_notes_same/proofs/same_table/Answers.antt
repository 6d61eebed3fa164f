-- `code_notes_same::same_table` meets its contract: two lengths, then record by record.
use mathlib.Core.Path.{◌∙◌}
use borrow.Author.Rules.{rules}
use borrow.Author.Tests.{tests, ne_eqb}
use Rattle.std.proofs.lemmas.Iterator.{YieldsList-from_slice, YieldsList-from_zip}
use Rattle.std.proofs.lemmas.Iterator.Search.{all_from_yields_List}
use Rattle.code_notes_same.proofs.Pairs.{paired, unpaired}
use Rattle.code_notes_same.proofs.same_table.Goals as goal

pub returns-then-a-b : goal.returns-then-a-b
returns-then-a-b g c =
    let a = c.args in
    all_from_yields_List (λ p. g.T.Record.test p.0 p.1) c.all.new.self _ _ c.all.ensures.ran
    (YieldsList-from_zip (YieldsList-from_slice a.a.now (cc)) (YieldsList-from_slice a.b.now (cc)))
    (λ x b q k. search (rules, tests))
    ∙ paired g.T.Record.test a.a.now a.b.now c.if-a-b.true

pub returns-else-a-b : goal.returns-else-a-b
returns-else-a-b g c = rw (ne_eqb _ _ c.if-a-b.false) (unpaired g.T.Record.test c.args.a.now c.args.b.now c.if-a-b.false)
