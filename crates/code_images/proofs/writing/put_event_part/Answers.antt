-- `code_images::writing::put_event_part` meets its contract: the part is written to a scratch array that is long enough, and then
-- behind its length.
use Rattle.code_notes.proofs.ScratchParts.{Held, held_length, held}
use Rattle.spec_images.specs.Images.{events_stored}
use Rattle.spec_images.proofs.Lengths.{events_below}
use Rattle.code_images.proofs.StoredParts.{events_put}
use Rattle.code_images.proofs.writing.put_event_part.Goals as goal
use Rattle.code_images.proofs.writing.put_event_part.Goals.{After-put_events-n}

-- what the scratch array holds is the part
written : (c : After-put_events-n) → Held c.put_events-n.new.log c.put_events-n.result (events_stored c.args.k)
written c =
    let k = c.args.k in
    held (events_below k)
    (events_put k c.fresh.ensures _ c.put_events-n.ensures
    c.put_number-p.ensures)

pub slice_bounds-scratch-end : goal.slice_bounds-scratch-end
slice_bounds-scratch-end c = (written (goal.at.slice_bounds-scratch-end c).After-put_events-n).within

pub slice_bounds-put_section-end : goal.slice_bounds-put_section-end
slice_bounds-put_section-end c = held_length (written (goal.at.slice_bounds-put_section-end c).After-put_events-n)

pub returns : goal.returns
returns c = rw (← (written (goal.at.returns c).After-put_events-n).bytes) c.put_section.ensures
