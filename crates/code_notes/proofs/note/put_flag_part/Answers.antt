-- `code_notes::note::put_flag_part` meets its contract: the part is written to a scratch array that is long enough, and then behind its
-- length.
use Rattle.spec_notes.specs.Predicted.{predicted_flags}
use Rattle.spec_notes.specs.Sections.{flags_noted}
use Rattle.spec_notes.proofs.EntriesShort.{flags_short}
use Rattle.code_notes.proofs.ScratchParts.{Held, held_length, held}
use Rattle.code_notes.proofs.note.put_flag_part.Goals as goal
use Rattle.code_notes.proofs.note.put_flag_part.Goals.{After-put_flags-n}

-- what the scratch array holds is the part
written : (c : After-put_flags-n) → let a = c.args in
    Held c.put_flags-n.new.log c.put_flags-n.result (flags_noted a.old (predicted_flags a.c a.new))
written c =
    let a = c.args in
    held (flags_short a.old (predicted_flags a.c a.new)) c.put_flags-n.ensures

pub slice_bounds-scratch-end : goal.slice_bounds-scratch-end
slice_bounds-scratch-end c = (written (goal.at.slice_bounds-scratch-end c).After-put_flags-n).within

pub slice_bounds-put_section-end : goal.slice_bounds-put_section-end
slice_bounds-put_section-end c = held_length (written (goal.at.slice_bounds-put_section-end c).After-put_flags-n)

pub returns : goal.returns
returns c = rw (← (written (goal.at.returns c).After-put_flags-n).bytes) c.put_section.ensures
