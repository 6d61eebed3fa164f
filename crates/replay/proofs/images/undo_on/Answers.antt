-- `replay::images::undo_on` meets its contract: what comes back is the definition's, and of that everything is proved in spec_images.
use native.Mathlib.Omega.{arith}
use Rattle.spec_notes.specs.Within.{AreBytes}
use Rattle.spec_images.proofs.OnImages.{undoes_on}
use Rattle.replay.proofs.images.undo_on.Goals as goal

pub returns : goal.returns
returns c =
    let a = c.args in
    let b : AreBytes a.room.now = λ i. omega (arith, c.slice_known-1.given i) in
    let l : AreBytes a.log.now = λ i. omega (arith, c.type_inv.log i) in
    let e = c.undo_on.ensures in
    rw (e.0, e.1) (undoes_on a.room.now a.length a.log.now a.used b l)
