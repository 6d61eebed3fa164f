-- `code_notes::note::put_semaphore_part` meets its contract: the part is written to a scratch array that is long enough, and then behind
-- its length.
use native.Mathlib.Omega.{arith}
use Rattle.spec_kernel.specs.Sizes.{semaphore_count}
use Rattle.base_bytes.specs.Bytes.{le}
use Rattle.spec_notes.specs.Sections.{semaphore_entries}
use Rattle.code_notes_spans.specs.Spans.{in_span, semaphore_span}
use Rattle.code_notes.proofs.Sizes.{semaphores_short, semaphore_inside}
use Rattle.code_notes.proofs.ScratchParts.{Held, held_length, held_in, nobody, first_inside}
use Rattle.code_notes.proofs.note.put_semaphore_part.Goals as goal
use Rattle.code_notes.proofs.note.put_semaphore_part.Goals.{After-put_semaphores-n}

pub returns-then-s-eq0 : goal.returns-then-s-eq0
unfolding le
returns-then-s-eq0 c = rw (nobody c.semaphore_span-s.ensures c.if-s-eq0.true) c.put_number.ensures

pub overflow_cast-first : goal.overflow_cast-first
overflow_cast-first c =
    let a = c.args in
    omega (arith, first_inside c.semaphore_span-s.ensures semaphore_count (semaphore_inside a.c a.value))

-- what the scratch array holds is the part
written : (c : After-put_semaphores-n) → let a = c.args in
    Held c.put_semaphores-n.new.log c.put_semaphores-n.result
    (in_span (semaphore_span a.c a.value) (semaphore_entries a.c a.k.semaphores a.k2.semaphores))
written c =
    let a = c.args in
    let old = a.k.semaphores in
    let new = a.k2.semaphores in
    held_in c.semaphore_span-s.ensures (semaphore_entries a.c old new)
    (semaphores_short a.c old new a.value) c.put_semaphores-n.ensures

pub slice_bounds-scratch-end : goal.slice_bounds-scratch-end
slice_bounds-scratch-end c = (written (goal.at.slice_bounds-scratch-end c).After-put_semaphores-n).within

pub slice_bounds-put_section-end : goal.slice_bounds-put_section-end
slice_bounds-put_section-end c = held_length (written (goal.at.slice_bounds-put_section-end c).After-put_semaphores-n)

pub returns : goal.returns
returns c = rw (← (written (goal.at.returns c).After-put_semaphores-n).bytes) c.put_section.ensures
