-- The frame of a note, read back from its bytes: its sections, or nothing where they don't make a note.
use Rattle.std.specs.Prelude.{ℕ, zero, suc, ◌+◌, ◌-◌, Bool, cond, ◌&&◌, List, [], ◌∷◌, eqb, leb, length, take, drop}
use Rattle.base_bytes.specs.Bytes.{un}
use Rattle.spec_notes.specs.Notes.{section_count}

-- what a note's bytes hold
pub data Decoded : Type 0 where
  nothing : Decoded
  sections : List (List ℕ) → Decoded

-- ---- the first section of these bytes: two bytes of length, then so many
unfoldable pub is_whole : List ℕ → Bool
is_whole s = leb (2 + un 2 s) (length s)

unfoldable pub first_section : List ℕ → List ℕ
first_section s = take (un 2 s) (drop 2 s)

unfoldable pub behind_section : List ℕ → List ℕ
behind_section s = drop (2 + un 2 s) s

-- ---- n of them, one after the other
unfoldable pub sections_at : ℕ → List ℕ → List (List ℕ)
sections_at zero s = []
sections_at (suc n) s = first_section s ∷ sections_at n (behind_section s)

-- each is whole, and nothing is left behind the last
unfoldable pub are_whole : ℕ → List ℕ → Bool
are_whole zero s = eqb (length s) 0
are_whole (suc n) s = is_whole s && are_whole n (behind_section s)

-- ---- the note: its sections stand between the call record and the two bytes of its length
unfoldable pub section_bytes : List ℕ → List ℕ
section_bytes note = take (length note - 2 - 16) (drop 16 note)

unfoldable pub frames_of : List ℕ → Decoded
frames_of note =
    cond (are_whole section_count (section_bytes note)) (sections (sections_at section_count (section_bytes note))) nothing

-- the sections, none where there is nothing
abbrev pub sections_in : Decoded → List (List ℕ)
sections_in nothing = []
sections_in (sections x) = x
