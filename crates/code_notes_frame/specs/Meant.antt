-- What the numbers of a decoded frame mean: which bytes of the note its sections are.
use Rattle.std.specs.Prelude.{ℕ, zero, suc, ◌+◌, ◌-◌, cond, List, ◌++◌, length, take, drop, replicate}
use Rattle.base_bytes.specs.Bytes.{un}
use Rattle.spec_notes.specs.Notes.{section_count}
use Rattle.spec_notes.specs.Frames as note
use Rattle.code_notes_frame.specs.declared.frames.Part.{Part}
use Rattle.code_notes_frame.specs.declared.frames.Decoded.{Decoded}
use Rattle.code_notes_frame.specs.declared.frames.Decoded.TheVariants.{Nothing, Sections}

-- the bytes from one place to another
unfoldable pub part_of : Part → List ℕ → List ℕ
part_of p note = take (p.to - p.from) (drop p.from note)

-- where a section begins behind n others, of which the first begins at p
unfoldable pub start_from : List ℕ → ℕ → ℕ → ℕ
start_from s zero p = p
start_from s (suc n) p = start_from s n (p + 2 + un 2 (drop p s))

-- what is read of a note: the part between the call record and the whole length, where its sections fill that
unfoldable pub decoded : List ℕ → Decoded
decoded bytes =
    cond (note.are_whole section_count (note.section_bytes bytes)) (Sections (record { from = 16; to = length bytes - 2 })) Nothing

abbrev pub meant : Decoded → List ℕ → note.Decoded
meant Nothing bytes = note.nothing
meant (Sections p) bytes = note.sections (note.sections_at section_count (part_of p bytes))

-- the call record in front of a note, with zeros for bytes that it lacks
unfoldable pub record_of : List ℕ → List ℕ
record_of note = take 16 (note ++ replicate 16 0)
