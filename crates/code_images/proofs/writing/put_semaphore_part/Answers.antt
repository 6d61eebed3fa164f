-- `code_images::writing::put_semaphore_part` meets its contract: the part is written to a scratch array that is long enough, and then
-- behind its length.
use Rattle.code_notes.proofs.ScratchParts.{Held, held_length}
use Rattle.spec_images.specs.Images.{semaphores_stored}
use Rattle.spec_images.proofs.Lengths.{semaphores_below}
use Rattle.code_images.proofs.StoredParts.{held_as, semaphores_stored_lem}
use Rattle.code_images.proofs.writing.put_semaphore_part.Goals as goal
use Rattle.code_images.proofs.writing.put_semaphore_part.Goals.{After-put_semaphores-n}

-- what the scratch array holds is the part
written : (c : After-put_semaphores-n)
    → Held c.put_semaphores-n.new.log c.put_semaphores-n.result (semaphores_stored c.args.k)
written c =
    let k = c.args.k in
    held_as (semaphores_below k)
    (semaphores_stored_lem k c.fresh.ensures c.no_call.ensures) c.put_semaphores-n.ensures

pub slice_bounds-scratch-end : goal.slice_bounds-scratch-end
slice_bounds-scratch-end c = (written (goal.at.slice_bounds-scratch-end c).After-put_semaphores-n).within

pub slice_bounds-put_section-end : goal.slice_bounds-put_section-end
slice_bounds-put_section-end c = held_length (written (goal.at.slice_bounds-put_section-end c).After-put_semaphores-n)

pub returns : goal.returns
returns c = rw (← (written (goal.at.returns c).After-put_semaphores-n).bytes) c.put_section.ensures
