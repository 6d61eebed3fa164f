-- `code_notes::note::put_start` meets its contract: the record, and the part behind its length from a scratch array that is long enough.
use mathlib.Core.Path.{◌∙◌}
use Rattle.spec_notes.specs.Sections.{scheduler_section}
use Rattle.spec_notes.proofs.EntriesShort.{scheduler_short}
use Rattle.code_notes.proofs.ScratchParts.{Held, held_length, held}
use Rattle.code_notes.proofs.note.put_start.Goals as goal
use Rattle.code_notes.proofs.note.put_start.Goals.{After-put_scheduler-n}

-- what the scratch array holds is the part
written : (c : After-put_scheduler-n) → let a = c.args in
    Held c.put_scheduler-n.new.log c.put_scheduler-n.result (scheduler_section a.k a.c a.k2)
unfolding scheduler_section
written c =
    let a = c.args in
    held (scheduler_short a.k a.c a.k2) c.put_scheduler-n.ensures

pub slice_bounds-scratch-end : goal.slice_bounds-scratch-end
slice_bounds-scratch-end c = (written (goal.at.slice_bounds-scratch-end c).After-put_scheduler-n).within

pub slice_bounds-put_section-end : goal.slice_bounds-put_section-end
slice_bounds-put_section-end c = held_length (written (goal.at.slice_bounds-put_section-end c).After-put_scheduler-n)

pub shape_of-log : goal.shape_of-log
shape_of-log c = c.put_section.auto.log ∙ c.put_all-first.auto.log

pub returns : goal.returns
returns c = rw (c.put_section.ensures, (written (goal.at.returns c).After-put_scheduler-n).bytes, c.put_all-first.ensures)
