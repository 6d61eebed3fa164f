-- A row is a list of numbers, one for each field of a record, beside a list of widths in bytes. Of an old row only what is not as
-- predicted is written: a bit for each field that is not, and those fields. Assumes nothing.
use Rattle.std.specs.Prelude.{ℕ, ◌+◌, ◌*◌, ◌/◌, ◌%◌, ◌^◌, ◌<◌, min, List, [], ◌∷◌, ◌++◌, Bool, cond, eqb, drop}
use Rattle.base_bytes.specs.Bytes.{le, un}

-- 0 for a field that is as predicted, else 1.
abbrev pub flag_of : ℕ → ℕ → ℕ
flag_of old predicted = cond (eqb old predicted) 0 1

-- The bytes of a field that is not as predicted.
abbrev pub field_of : ℕ → ℕ → ℕ → List ℕ
field_of w old predicted = cond (eqb old predicted) [] (le w old)

-- A bit for each field that is not as predicted, the first field's lowest.
unfoldable pub flags_of : List ℕ → List ℕ → ℕ
flags_of [] ps = 0
flags_of (o ∷ os) [] = 0
flags_of (o ∷ os) (p ∷ ps) = flag_of o p + 2 * flags_of os ps

-- The old fields that are not as predicted, each in its width.
unfoldable pub body_of : List ℕ → List ℕ → List ℕ → List ℕ
body_of [] os ps = []
body_of (w ∷ ws) [] ps = []
body_of (w ∷ ws) (o ∷ os) [] = []
body_of (w ∷ ws) (o ∷ os) (p ∷ ps) = field_of w o p ++ body_of ws os ps

-- Whether the first field is flagged.
abbrev pub first_flagged : ℕ → Bool
first_flagged flags = eqb (flags % 2) 1

-- How many bytes the first field takes.
abbrev pub taken : ℕ → ℕ → ℕ
taken w flags = cond (first_flagged flags) w 0

-- The row read back: a flagged field from the bytes, another as predicted.
unfoldable pub row_from : List ℕ → ℕ → List ℕ → List ℕ → List ℕ
row_from [] flags ps s = []
row_from (w ∷ ws) flags [] s = []
row_from (w ∷ ws) flags (p ∷ ps) s = cond (first_flagged flags) (un w s) p ∷ row_from ws (flags / 2) ps (drop (taken w flags) s)

-- How many bytes the flagged fields take.
unfoldable pub used_by : List ℕ → ℕ → ℕ
used_by [] flags = 0
used_by (w ∷ ws) flags = taken w flags + used_by ws (flags / 2)

-- The widths, with 4 for those above it: the code reads no wider number.
unfoldable pub cut : List ℕ → List ℕ
cut [] = []
cut (w ∷ ws) = min w 4 ∷ cut ws

-- What the widths make together.
unfoldable pub sum : List ℕ → ℕ
sum [] = 0
sum (w ∷ ws) = w + sum ws

-- Each field as far as its width goes: all of it, where it fits.
unfoldable pub fitted : List ℕ → List ℕ → List ℕ
fitted [] xs = []
fitted (w ∷ ws) [] = []
fitted (w ∷ ws) (x ∷ xs) = x % 256 ^ w ∷ fitted ws xs

-- There are as many fields as widths, and each fits its own.
abbrev pub Fit : List ℕ → List ℕ → Type 0
Fit [] [] = Unit {0}
Fit [] (x ∷ xs) = ⊥
Fit (w ∷ ws) [] = ⊥
Fit (w ∷ ws) (x ∷ xs) = (x < 256 ^ w) × Fit ws xs
