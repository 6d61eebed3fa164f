-- An ordered table of places: who belongs there stands there once, in the order of a key, behind its equals.
-- A queue of document 01 is a run of such a table, `keep` of those whose home it is.
use Rattle.std.specs.Prelude.{ℕ, suc, ◌≡◌, List, [], ◌∷◌, Bool, true, false, cond, ◌&&◌, eqb, leb, length}
use Rattle.base_queue.specs.Lists.{every_from, without, count, has, place_of, behind, below}

abbrev pub one : Bool → ℕ
one true = 1
one false = 0

-- each that belongs stands there once, and nobody else stands there
abbrev pub Placed : (ℕ → Bool) → List ℕ → Type 0
Placed belongs l = (x : ℕ) → count x l ≡ one (belongs x)

-- the same as a test over the records: what a record says of itself decides whether it belongs
unfoldable pub is_placed : {A : Type 0} → (A → Bool) → List A → List ℕ → Bool
is_placed belongs records l = below (length records) l && every_from (λ x r. eqb (count x l) (one (belongs r))) 0 records

-- every key is at least `low`, and none is less than the one before
abbrev pub is_ordered_from : ℕ → (ℕ → ℕ) → List ℕ → Bool
is_ordered_from low key [] = true
is_ordered_from low key (x ∷ l) = let r = is_ordered_from (key x) key l in leb low (key x) && r

-- x leaves its place, and where it stays in the table it joins behind its equals
unfoldable pub moved : Bool → (ℕ → Bool) → ℕ → List ℕ → List ℕ
moved stays after x l = let m = without x l in cond stays (behind after x m) m

-- how many stand before the first that comes after
abbrev pub place_behind : (ℕ → Bool) → List ℕ → ℕ
place_behind after [] = 0
place_behind after (y ∷ l) = let r = place_behind after l in cond (after y) 0 (suc r)

-- the place of x, or 255 where it has none
abbrev pub old_place : ℕ → List ℕ → ℕ
old_place x l = cond (has x l) (place_of x l) 255
