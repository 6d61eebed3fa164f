-- `code_images::writing::put_flag_part` meets its contract: the part is written to a scratch array that is long enough, and then
-- behind its length.
use native.Mathlib.Omega.{arith}
use Rattle.code_notes.proofs.ScratchParts.{Held, held_length, held}
use Rattle.spec_images.specs.Images.{flags_stored}
use Rattle.spec_images.proofs.Lengths.{flags_below}
use Rattle.code_images.proofs.writing.put_flag_part.Goals as goal
use Rattle.code_images.proofs.writing.put_flag_part.Goals.{After-put_number-n}

-- what the scratch array holds is the part
written : (c : After-put_number-n) → Held c.put_number-n.new.log c.put_number-n.result (flags_stored c.args.flags)
unfolding flags_stored
written c =
    held {n = 2} (omega (arith, flags_below c.args.flags)) c.put_number-n.ensures

pub slice_bounds-scratch-end : goal.slice_bounds-scratch-end
slice_bounds-scratch-end c = (written (goal.at.slice_bounds-scratch-end c).After-put_number-n).within

pub slice_bounds-put_section-end : goal.slice_bounds-put_section-end
slice_bounds-put_section-end c = held_length (written (goal.at.slice_bounds-put_section-end c).After-put_number-n)

pub returns : goal.returns
returns c = rw (← (written (goal.at.returns c).After-put_number-n).bytes) c.put_section.ensures
