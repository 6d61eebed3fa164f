-- An entry is a head byte and what it says follows: a code where it isn't as predicted, and of an old row the flags and fields that aren't
-- as predicted, where any isn't. The head holds an id below 64. Entries stand one behind the other. Assumes nothing.
use Rattle.std.specs.Prelude.{ℕ, zero, suc, ◌+◌, ◌*◌, ◌/◌, ◌%◌, min, List, [], ◌∷◌, ◌++◌, cond, eqb, length, get_or, drop}
use Rattle.base_rows.specs.Rows.{flag_of, flags_of, body_of, first_flagged, taken, row_from, used_by}

-- ---- written
-- The flags of what isn't as predicted, and those fields.
abbrev pub flags_and_fields : List ℕ → List ℕ → List ℕ → List ℕ
flags_and_fields widths old predicted = flags_of old predicted ∷ body_of widths old predicted

-- The same, and nothing where all is as predicted.
abbrev pub unless_predicted : List ℕ → List ℕ → List ℕ → List ℕ
unless_predicted widths old predicted = cond (eqb (flags_of old predicted) 0) [] (flags_and_fields widths old predicted)

-- A code that isn't as predicted.
abbrev pub code_noted : ℕ → ℕ → List ℕ
code_noted code told = cond (eqb code told) [] (code ∷ [])

-- The id, 64 where the code isn't as predicted, and 128 where any flag is set.
unfoldable pub head_of : ℕ → ℕ → ℕ → ℕ → ℕ
head_of id code told flags = id % 64 + 64 * flag_of code told + 128 * flag_of flags 0

-- What stands behind the head.
unfoldable pub tail_of : List ℕ → ℕ → ℕ → List ℕ → List ℕ → List ℕ
tail_of widths code told old predicted = code_noted code told ++ unless_predicted widths old predicted

abbrev pub entry_of : List ℕ → ℕ → ℕ → ℕ → List ℕ → List ℕ → List ℕ
entry_of widths id code told old predicted = head_of id code told (flags_of old predicted) ∷ tail_of widths code told old predicted

-- ---- read, of a head and the bytes behind it, whatever they are
unfoldable pub id_of : ℕ → ℕ
id_of head = head % 64

-- How many bytes stand before the flags, and before the fields.
abbrev pub flags_from : ℕ → ℕ
flags_from head = taken 1 (head / 64)

unfoldable pub fields_from : ℕ → ℕ
fields_from head = flags_from head + taken 1 (head / 128)

unfoldable pub code_in : ℕ → ℕ → List ℕ → ℕ
code_in told head s = cond (first_flagged (head / 64)) (get_or s 0 0) told

unfoldable pub flags_in : ℕ → List ℕ → ℕ
flags_in head s = cond (first_flagged (head / 128)) (get_or s (flags_from head) 0) 0

unfoldable pub row_in : List ℕ → List ℕ → ℕ → List ℕ → List ℕ
row_in widths predicted head s = row_from widths (flags_in head s) predicted (drop (fields_from head) s)

-- How many bytes behind the head are the entry's.
unfoldable pub own_in : List ℕ → ℕ → List ℕ → ℕ
own_in widths head s = fields_from head + used_by widths (flags_in head s)

-- How many bytes the first entry of these has; no more than there are.
abbrev pub size_in : List ℕ → List ℕ → ℕ
size_in widths e = min (1 + own_in widths (get_or e 0 0) (drop 1 e)) (length e)

-- At most n entries: how many bytes behind its head each has, and what it does.
unfoldable pub read_entries : {A : Type 0} → (ℕ → List ℕ → ℕ) → (ℕ → List ℕ → A → A) → ℕ → List ℕ → A → A
read_entries own does zero s a = a
read_entries own does (suc n) [] a = a
read_entries own does (suc n) (head ∷ s) a = read_entries own does n (drop (own head s) s) (does head s a)
