-- `code_notes::note::put_message_part` meets its contract: the part is written to a scratch array that is long enough, and then behind its
-- length.
use native.Mathlib.Omega.{arith}
use Rattle.spec_kernel.specs.Sizes.{message_count}
use Rattle.base_bytes.specs.Bytes.{le}
use Rattle.spec_moves.specs.Standing.{posts_of}
use Rattle.spec_notes.specs.Sections.{message_entries}
use Rattle.code_notes_spans.specs.Spans.{in_span, message_span}
use Rattle.code_notes.proofs.Sizes.{messages_short, message_inside}
use Rattle.code_notes.proofs.ScratchParts.{Held, held_length, held_in, nobody, first_inside}
use Rattle.code_notes.proofs.note.put_message_part.Goals as goal
use Rattle.code_notes.proofs.note.put_message_part.Goals.{After-put_messages-n}

pub returns-then-s-eq0 : goal.returns-then-s-eq0
unfolding le
returns-then-s-eq0 c = rw (nobody c.message_span-s.ensures c.if-s-eq0.true) c.put_number.ensures

pub overflow_cast-first : goal.overflow_cast-first
overflow_cast-first c =
    let a = c.args in
    omega (arith, first_inside c.message_span-s.ensures message_count (message_inside a.c a.value))

-- what the scratch array holds is the part
written : (c : After-put_messages-n) → let a = c.args in
    Held c.put_messages-n.new.log c.put_messages-n.result
    (in_span (message_span a.c a.value) (message_entries a.c a.k2.runner (posts_of a.k) a.k2.messages))
written c =
    let a = c.args in
    let old = posts_of a.k in
    let new = a.k2.messages in
    held_in c.message_span-s.ensures (message_entries a.c a.k2.runner old new)
    (messages_short a.c a.k2.runner old new a.value) c.put_messages-n.ensures

pub slice_bounds-scratch-end : goal.slice_bounds-scratch-end
slice_bounds-scratch-end c = (written (goal.at.slice_bounds-scratch-end c).After-put_messages-n).within

pub slice_bounds-put_section-end : goal.slice_bounds-put_section-end
slice_bounds-put_section-end c = held_length (written (goal.at.slice_bounds-put_section-end c).After-put_messages-n)

pub returns : goal.returns
returns c = rw (← (written (goal.at.returns c).After-put_messages-n).bytes) c.put_section.ensures
