-- `code_images::reading::read_at` meets its contract.
use mathlib.Core.Path.{sym}
use lib.ListN.{length}
use lib.Seq.{length-take-le}
use borrow.Author.Tests.{le-leb, lt-leb}
use Rattle.spec_images.specs.Images.{read_from}
use Rattle.spec_images.specs.OnImages.{holds_image}
use Rattle.code_images.proofs.reading.read_at.Goals as goal

pub returns-then-s-n : goal.returns-then-s-n
unfolding holds_image
returns-then-s-n c =
    let a = c.args in
    rw (lt-leb a.n (length a.s.now) c.if-s-n.true) c.nothing.ensures

pub slice_bounds-read-end : goal.slice_bounds-read-end
slice_bounds-read-end c = sym (length-take-le _ _ c.if-s-n.false)

pub returns : goal.returns
unfolding holds_image read_from
returns c =
    let a = c.args in
    rw (le-leb a.n (length a.s.now) c.if-s-n.false) c.read.ensures
