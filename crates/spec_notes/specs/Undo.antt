-- The last note of a log, and what it means that an earlier state and a call yield an end state and a note.
use Rattle.std.specs.Prelude.{ℕ, ◌-◌, ◌<◌, ◌≡◌, Bool, cond, ◌&&◌, List, [], leb, length, get_or, take, drop}
use Rattle.base_bytes.specs.Bytes.{un}
use Rattle.spec_kernel.specs.declared.records.Kernel.{Kernel}
use Rattle.spec_rules.specs.Rules.{Sized, Rules}
use Rattle.spec_calls.specs.Calls.{call_of}
use Rattle.spec_refusals.specs.Refusals.{number_of}
use Rattle.spec_moves.specs.States.{scheduled}
use Rattle.spec_effects.specs.Effects.{effect}
use Rattle.spec_notes.specs.Notes.{note_of, least_note}
use Rattle.spec_notes.specs.Within.{Within}

-- The length of the last note, read from the last two of the used bytes [01, notes 2].
unfoldable pub last_length : List ℕ → ℕ → ℕ
last_length log used = un 2 (drop (used - 2) log)

-- whether the used bytes are there, and hold as many as their last two say, which are enough for a note
unfoldable pub has_last : List ℕ → ℕ → Bool
has_last log used = leb 2 used && leb used (length log) && leb least_note (last_length log used) && leb (last_length log used) used

-- the last note of the first `used` bytes; empty where there is none
unfoldable pub last_note : List ℕ → ℕ → List ℕ
last_note log used = cond (has_last log used) (take (last_length log used) (drop (used - last_length log used) log)) []

-- the state k and the call in these bytes yield the end state k' and the note
pub record Yields (k : Kernel) (bytes : List ℕ) (k' : Kernel) (note : List ℕ) : Type 0 where
  pub sized : Sized k
  pub inside : Within k
  pub rules : Rules k
  pub sixteen : length bytes ≡ 16
  pub small : (i : ℕ) → get_or bytes i 0 < 256
  pub accepted : number_of k (call_of bytes) ≡ 0
  pub state : scheduled (effect k (call_of bytes)) ≡ k'
  pub noted : note_of k bytes k' ≡ note
