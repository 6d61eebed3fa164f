-- Bytes that are written one behind the other into a log of fixed length. A full log drops bytes. Assumes nothing.
use Rattle.std.specs.Prelude.{ℕ, ◌+◌, List, [], ◌∷◌, cond, ltb, length, set}

-- A log, and the place where the next byte goes.
pub record Pen : Type 0 where
  pub log : List ℕ
  pub at : ℕ

abbrev pub pen : List ℕ → ℕ → Pen
pen l k = record { log = l; at = k }

-- One byte written; past the end of the log, nothing.
unfoldable pub put : Pen → ℕ → Pen
put p b = cond (ltb p.at (length p.log)) (pen (set p.log p.at b) (p.at + 1)) p

-- All of them written, one behind the other.
unfoldable pub puts : Pen → List ℕ → Pen
puts p [] = p
puts p (b ∷ bytes) = puts (put p b) bytes
