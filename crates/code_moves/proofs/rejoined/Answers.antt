-- `code_moves::rejoined` meets its contract: it leaves, and where it stays it joins again before the first that comes after.
use Rattle.spec_moves.proofs.Joins.{leaves, joins}
use Rattle.code_moves.proofs.rejoined.Goals as goal

pub returns-then-not-stays : goal.returns-then-not-stays
returns-then-not-stays g c test says =
    let a = c.args in
    leaves a.id a.q _ c.without-out.ensures test c.if-not-stays.true

pub returns : goal.returns
returns g c test says =
    let a = c.args in
    joins a.id a.q _ c.without-out.ensures test c.if-not-stays.false _ _ (c.place_behind-i.ensures test says) c.with_at.ensures
