-- `code_notes::note::put_thread_part` meets its contract: the part is written to a scratch array that is long enough, and then behind its
-- length.
use Rattle.base_bytes.specs.Bytes.{le}
use Rattle.spec_moves.specs.Standing.{threads_of}
use Rattle.spec_notes.specs.Sections.{thread_entries}
use Rattle.code_notes_spans.specs.Spans.{in_span, thread_span}
use Rattle.code_notes.proofs.Sizes.{threads_short}
use Rattle.code_notes.proofs.ScratchParts.{Held, held_length, held_in, nobody}
use Rattle.code_notes.proofs.note.put_thread_part.Goals as goal
use Rattle.code_notes.proofs.note.put_thread_part.Goals.{After-put_threads-n}

pub returns-then-s-eq0 : goal.returns-then-s-eq0
unfolding le
returns-then-s-eq0 c = rw (nobody c.thread_span-s.ensures c.if-s-eq0.true) c.put_number.ensures

-- what the scratch array holds is the part
written : (c : After-put_threads-n) → let a = c.args in
    Held c.put_threads-n.new.log c.put_threads-n.result
    (in_span (thread_span a.c a.k.runner a.value a.waiter)
    (thread_entries a.c a.k.runner (threads_of a.k) a.k2.threads))
written c =
    let a = c.args in
    let old = threads_of a.k in
    let new = a.k2.threads in
    held_in c.thread_span-s.ensures (thread_entries a.c a.k.runner old new)
    (threads_short a.c a.k.runner a.waiter old new a.value) c.put_threads-n.ensures

pub slice_bounds-scratch-end : goal.slice_bounds-scratch-end
slice_bounds-scratch-end c = (written (goal.at.slice_bounds-scratch-end c).After-put_threads-n).within

pub slice_bounds-put_section-end : goal.slice_bounds-put_section-end
slice_bounds-put_section-end c = held_length (written (goal.at.slice_bounds-put_section-end c).After-put_threads-n)

pub returns : goal.returns
returns c = rw (← (written (goal.at.returns c).After-put_threads-n).bytes) c.put_section.ensures
