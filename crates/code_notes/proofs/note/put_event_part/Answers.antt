-- `code_notes::note::put_event_part` meets its contract: the part is written to a scratch array that is long enough, and then behind its
-- length.
use Prim.Native.Nat.{ℕ}
use mathlib.Core.Path.{◌≡◌, ap, ◌∙◌}
use mathlib.Core.List.{List, ◌++◌}
use native.Mathlib.Omega.{arith}
use lib.ListN.{replicate}
use Rattle.spec_kernel.specs.Sizes.{event_count}
use Rattle.base_bytes.proofs.Writing.{puts_append}
use Rattle.base_bytes.specs.Pens.{pen, puts}
use Rattle.spec_notes.specs.Sections.{bit_noted, event_entries}
use Rattle.code_notes_spans.specs.Spans.{in_span, event_span}
use Rattle.code_notes.proofs.Sizes.{events_short, event_inside}
use Rattle.code_notes.proofs.ScratchParts.{Held, held_length, held_in, first_inside}
use Rattle.code_notes.proofs.note.put_event_part.Goals as goal
use Rattle.code_notes.proofs.note.put_event_part.Goals.{After-put_events-n}

pub overflow_cast-first : goal.overflow_cast-first
overflow_cast-first c = omega (arith, first_inside c.event_span-s.ensures event_count (event_inside c.args.c))

-- what the scratch array holds is the part
written : (c : After-put_events-n) → let a = c.args in
    Held c.put_events-n.new.log c.put_events-n.result
    (bit_noted a.k.bits a.k2.bits ++ in_span (event_span a.c) (event_entries a.k.events a.k2.events))
written c =
    let a = c.args in
    let old = a.k.events in
    let new = a.k2.events in
    let bits : List ℕ = bit_noted a.k.bits a.k2.bits in
    let s = c.event_span-s in
    let entries = event_entries old new s.result.first s.result.count in
    let both : pen c.put_events-n.new.log c.put_events-n.result ≡ puts (pen (replicate 89 0) 0) (bits ++ entries) =
    rw puts_append (c.put_events-n.ensures ∙ ap (λ q. puts q entries) c.put_bits-p.ensures) in
    held_in s.ensures (λ i n. bits ++ event_entries old new i n)
    (events_short a.c a.k.bits a.k2.bits old new) both

pub slice_bounds-scratch-end : goal.slice_bounds-scratch-end
slice_bounds-scratch-end c = (written (goal.at.slice_bounds-scratch-end c).After-put_events-n).within

pub slice_bounds-put_section-end : goal.slice_bounds-put_section-end
slice_bounds-put_section-end c = held_length (written (goal.at.slice_bounds-put_section-end c).After-put_events-n)

pub returns : goal.returns
returns c = rw (← (written (goal.at.returns c).After-put_events-n).bytes) c.put_section.ensures
