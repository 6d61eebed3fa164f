-- `code_images::writing::put_scheduler_part` meets its contract: the part is written to a scratch array that is long enough, and then
-- behind its length.
use native.Mathlib.Omega.{arith}
use Rattle.base_bytes.proofs.Writing.{puts_append}
use Rattle.code_notes.proofs.ScratchParts.{Held, held_length, held}
use Rattle.spec_images.specs.Images.{scheduler_stored}
use Rattle.spec_images.proofs.Lengths.{scheduler_below}
use Rattle.code_images.proofs.writing.put_scheduler_part.Goals as goal
use Rattle.code_images.proofs.writing.put_scheduler_part.Goals.{After-put_all-n}

-- what the scratch array holds is the part
written : (c : After-put_all-n) → Held c.put_all-n.new.log c.put_all-n.result (scheduler_stored c.args.k)
unfolding scheduler_stored
written c =
    held {n = 7} (omega (arith, scheduler_below c.args.k))
    (rw (c.put_all-n.ensures, c.put_number-p.ensures, puts_append))

pub slice_bounds-scratch-end : goal.slice_bounds-scratch-end
slice_bounds-scratch-end c = (written (goal.at.slice_bounds-scratch-end c).After-put_all-n).within

pub slice_bounds-put_section-end : goal.slice_bounds-put_section-end
slice_bounds-put_section-end c = held_length (written (goal.at.slice_bounds-put_section-end c).After-put_all-n)

pub returns : goal.returns
returns c = rw (← (written (goal.at.returns c).After-put_all-n).bytes) c.put_section.ensures
