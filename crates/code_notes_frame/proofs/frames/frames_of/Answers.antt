-- `code_notes_frame::frames::frames_of` meets its contract: the sections fill their part exactly where the last one ends with it.
use mathlib.Core.Path.{◌≡◌, sym, ◌∙◌}
use lib.ListN.{length}
use Rattle.spec_notes.specs.Notes.{section_count}
use Rattle.code_notes_frame.specs.Meant.{start_from}
use Rattle.code_notes_frame.proofs.Framing.{frames_fit, frames_none, frames_short}
use Rattle.code_notes_frame.proofs.frames.frames_of.Goals as goal

pub returns-then-note-lt-LEAST : goal.returns-then-note-lt-LEAST
returns-then-note-lt-LEAST c = frames_short c.args.note.now c.if-note-lt-LEAST.true

pub returns-then-start_of-s : goal.returns-then-start_of-s
returns-then-start_of-s c =
    let p = c.part_of-s.ensures in
    frames_none c.args.note.now
    (λ h. c.if-start_of-s.true (c.start_of.ensures.0 ∙ rw p h))

pub returns : goal.returns
returns c =
    let p = c.part_of-s.ensures in
    let e : start_from c.part_of-s.result.now section_count 0 ≡ length c.part_of-s.result.now =
    sym c.start_of.ensures.0 ∙ c.if-start_of-s.false in
    frames_fit c.args.note.now (rw p at e)
