-- A note behind the used part of a log: written whole, or not at all. Assumes nothing.
use Rattle.std.specs.Prelude.{ℕ, ◌+◌, List, [], ◌++◌, Bool, cond, leb, length, take, drop}

-- Whether the note fits behind the first `used` bytes.
abbrev pub room : List ℕ → ℕ → List ℕ → Bool
room log used note = leb (used + length note) (length log)

-- The log with the note behind its first `used` bytes.
abbrev pub with_note : List ℕ → ℕ → List ℕ → List ℕ
with_note log used note = take used log ++ (note ++ drop (used + length note) log)

-- The log with the note where it fits, else as it was.
unfoldable pub noted : List ℕ → ℕ → List ℕ → List ℕ
noted log used note = cond (room log used note) (with_note log used note) log

-- Where the used part ends then.
unfoldable pub ends : List ℕ → ℕ → List ℕ → ℕ
ends log used note = cond (room log used note) (used + length note) used

-- What was written: the note, or nothing.
unfoldable pub shown : List ℕ → ℕ → List ℕ → List ℕ
shown log used note = cond (room log used note) note []
