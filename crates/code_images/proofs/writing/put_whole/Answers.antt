-- `code_images::writing::put_whole` meets its contract: the image is written to a scratch array that is long enough, and from there whole
-- or not at all.
use mathlib.Core.Path.{ap, ◌∙◌}
use Rattle.base_bytes.specs.Logs.{noted, ends}
use Rattle.code_notes.proofs.ScratchParts.{Held, held_length, held}
use Rattle.spec_images.specs.Images.{image_of}
use Rattle.spec_images.proofs.Lengths.{image_short}
use Rattle.code_images.proofs.writing.put_whole.Goals as goal
use Rattle.code_images.proofs.writing.put_whole.Goals.{After-put_image-n}

image_held : (c : After-put_image-n) → Held c.put_image-n.new.room c.put_image-n.result (image_of c.args.k)
image_held c = held (image_short c.args.k) c.put_image-n.ensures

pub slice_bounds-scratch-end : goal.slice_bounds-scratch-end
slice_bounds-scratch-end c = (image_held (goal.at.slice_bounds-scratch-end c).After-put_image-n).within

pub slice_bounds-write-end : goal.slice_bounds-write-end
slice_bounds-write-end c = held_length (image_held (goal.at.slice_bounds-write-end c).After-put_image-n)

pub returns : goal.returns
returns c =
    let r = (goal.at.returns c).After-put_image-n in
    let lent = c.args.room.now in
    (c.write.ensures.1 ∙ ap (ends lent 0) (image_held r).bytes, c.write.ensures.0 ∙ ap (noted lent 0) (image_held r).bytes)
