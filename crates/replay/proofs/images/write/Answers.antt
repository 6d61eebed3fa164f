-- `replay::images::write` meets its contract: what is written is the definition's, and of that everything is proved in spec_images.
use Rattle.spec_answers.proofs.FromTypes.{of_types}
use Rattle.spec_images.proofs.Writing.{stores}
use Rattle.replay.proofs.images.write.Goals as goal

pub returns : goal.returns
returns c =
    let a = c.args in
    let e = c.write.ensures in
    rw (e.0, e.1) (stores a.k a.room.now (of_types a.k _ c.well_formed.0))
