-- `code_notes_frame::frames::part_of` meets its contract: a place past the end is as good as the end.
use Rattle.code_notes_frame.specs.Meant.{part_of}
use Prim.Native.Nat.{◌-◌, min}
use mathlib.Core.Path.{◌≡◌}
use native.Mathlib.Omega.{arith}
use lib.ListN.{length}
use Rattle.code_notes_frame.proofs.Framing.{part_least}
use Rattle.code_notes_frame.proofs.frames.part_of.Goals as goal

pub returns-then-to-from : goal.returns-then-to-from
unfolding part_of
returns-then-to-from c =
    let a = c.args in
    let l = part_least a.p.from a.p.to a.note.now in
    let z : min a.p.to (length a.note.now) - min a.p.from (length a.note.now) ≡ 0 =
    omega (arith, c.least-to.ensures, c.least-from.ensures) in
    rw z at l

pub returns : goal.returns
unfolding part_of
returns c =
    let a = c.args in
    rw (c.least-to.ensures, c.least-from.ensures) (part_least a.p.from a.p.to a.note.now)
