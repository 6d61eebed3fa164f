-- `replay::images::read` meets its contract: what comes back is the definition's, and of that everything is proved in spec_images.
use native.Mathlib.Omega.{arith}
use Rattle.spec_notes.specs.Within.{AreBytes}
use Rattle.spec_images.proofs.Reading.{reads}
use Rattle.replay.proofs.images.read.Goals as goal

pub returns : goal.returns
returns c =
    let bytes = c.args.bytes.now in
    let b : AreBytes bytes = λ i. omega (arith, c.type_inv.bytes i) in
    rw c.read.ensures (reads bytes b)
