-- `code_images::writing::put_thread_part` meets its contract: the part is written to a scratch array that is long enough, and then
-- behind its length.
use Rattle.code_notes.proofs.ScratchParts.{Held, held_length}
use Rattle.spec_images.specs.Images.{threads_stored}
use Rattle.spec_images.proofs.Lengths.{threads_below}
use Rattle.code_images.proofs.StoredParts.{held_as, threads_stored_lem}
use Rattle.code_images.proofs.writing.put_thread_part.Goals as goal
use Rattle.code_images.proofs.writing.put_thread_part.Goals.{After-put_threads-n}

-- what the scratch array holds is the part
written : (c : After-put_threads-n) → Held c.put_threads-n.new.log c.put_threads-n.result (threads_stored c.args.k)
written c =
    let k = c.args.k in
    held_as (threads_below k)
    (threads_stored_lem k c.fresh.ensures c.no_call.ensures) c.put_threads-n.ensures

pub slice_bounds-scratch-end : goal.slice_bounds-scratch-end
slice_bounds-scratch-end c = (written (goal.at.slice_bounds-scratch-end c).After-put_threads-n).within

pub slice_bounds-put_section-end : goal.slice_bounds-put_section-end
slice_bounds-put_section-end c = held_length (written (goal.at.slice_bounds-put_section-end c).After-put_threads-n)

pub returns : goal.returns
returns c = rw (← (written (goal.at.returns c).After-put_threads-n).bytes) c.put_section.ensures
