-- `code_images::reading::nothing` meets its contract.
use mathlib.Core.Path.{ap}
use Rattle.spec_images.specs.Images.{recalled}
use Rattle.code_images.proofs.reading.nothing.Goals as goal

pub returns : goal.returns
returns c = ap (recalled 16) c.fresh.ensures
