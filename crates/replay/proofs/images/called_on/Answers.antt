-- `replay::images::called_on` meets its contract: what comes back is the definition's, and of that everything is proved in spec_images.
use native.Mathlib.Omega.{arith}
use Rattle.spec_notes.specs.Within.{AreBytes}
use Rattle.spec_answers.proofs.FromTypes.{is_record}
use Rattle.spec_images.proofs.OnImages.{answers_on}
use Rattle.replay.proofs.images.called_on.Goals as goal

pub returns : goal.returns
returns c =
    let a = c.args in
    let b : AreBytes a.room.now = λ i. omega (arith, c.slice_known-1.given i) in
    let e = c.called_on.ensures in
    rw (e.0, e.1, e.2) (answers_on a.room.now a.length a.bytes a.log.now a.used b (is_record a.bytes _ c.well_formed.1.1.0))
