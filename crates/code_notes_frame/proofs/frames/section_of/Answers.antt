-- `code_notes_frame::frames::section_of` meets its contract: behind the sections before it, and its two bytes of length.
use Prim.Native.Nat.{ℕ, ◌+◌, ◌-◌}
use mathlib.Core.Path.{◌≡◌, sym, ◌∙◌}
use mathlib.Core.List.{List}
use native.Mathlib.Omega.{arith}
use lib.ListN.{drop}
use Rattle.base_bytes.specs.Bytes.{un}
use Rattle.spec_notes.specs.Notes.{section_count}
use Rattle.code_notes_frame.specs.Meant.{part_of}
use Rattle.code_notes_frame.proofs.Framing.{section_at, section_none}
use Rattle.code_notes_frame.proofs.frames.section_of.Goals as goal

pub returns-then-i-ge-SECTIONS : goal.returns-then-i-ge-SECTIONS
returns-then-i-ge-SECTIONS c = let a = c.args in sym (section_none a.s.now section_count a.i c.if-i-ge-SECTIONS.true)

pub returns : goal.returns
unfolding part_of
returns c =
    let a = c.args in
    let s : List ℕ = a.s.now in
    let at : ℕ = c.start_of-at.result in
    let n : ℕ = c.number_at-n.result in
    let r : at + 2 + n - (at + 2) ≡ n = omega arith in
    let e : n ≡ un 2 (drop at s) = c.number_at-n.ensures in
    c.part_of.ensures ∙ rw (r, e, c.start_of-at.ensures.0) (sym (section_at s section_count a.i 0 (omega arith)))
