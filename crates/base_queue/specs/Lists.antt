-- Lists of numbers, as the queues hold them: what the contracts of this crate and of those above say of a list.
-- A definition is total: past the end `get_or` gives the default, and an absent member is not there to be taken out.
use Rattle.std.specs.Prelude.{ℕ, suc, ◌≤◌, List, [], ◌∷◌, ◌++◌, Bool, true, false, not, cond, ◌&&◌, take, drop, eqb, ltb}

module _ {A : Type 0} where
  -- the members that f holds of, in their order
  abbrev pub keep : (A → Bool) → List A → List A
  keep f [] = []
  keep f (x ∷ l) = let r = keep f l in cond (f x) (x ∷ r) r

  -- the test f passes at each member and its place, counted from k
  abbrev pub every_from : (ℕ → A → Bool) → ℕ → List A → Bool
  every_from f k [] = true
  every_from f k (x ∷ l) = let r = every_from f (suc k) l in f k x && r

abbrev pub is_not : ℕ → ℕ → Bool
is_not x y = not (eqb y x)

-- l without x
abbrev pub without : ℕ → List ℕ → List ℕ
without x l = keep (is_not x) l

-- how often x stands in l
abbrev pub count : ℕ → List ℕ → ℕ
count x [] = 0
count x (y ∷ l) = let r = count x l in cond (eqb y x) (suc r) r

-- the place of the first x, counted from 0; where there is none, the length
abbrev pub place_of : ℕ → List ℕ → ℕ
place_of x [] = 0
place_of x (y ∷ l) = let r = place_of x l in cond (eqb y x) 0 (suc r)

-- whether x stands in l
abbrev pub has : ℕ → List ℕ → Bool
has x l = ltb 0 (count x l)

-- the first, or 255 for none
abbrev pub first_of : List ℕ → ℕ
first_of [] = 255
first_of (x ∷ l) = x

abbrev pub is_empty : List ℕ → Bool
is_empty [] = true
is_empty (x ∷ l) = false

-- l with x at place i; past the end, last
abbrev pub with_at : ℕ → ℕ → List ℕ → List ℕ
with_at i x l = take i l ++ x ∷ drop i l

-- l with x before the first member that comes `after` it: behind its equals
abbrev pub behind : (ℕ → Bool) → ℕ → List ℕ → List ℕ
behind after x [] = x ∷ []
behind after x (y ∷ l) = let r = behind after x l in cond (after y) (x ∷ y ∷ l) (y ∷ r)

-- every key is at least `low`, and none is less than the one before
abbrev pub OrderedFrom : ℕ → (ℕ → ℕ) → List ℕ → Type 0
OrderedFrom low key [] = Unit {0}
OrderedFrom low key (x ∷ l) = (low ≤ key x) × OrderedFrom (key x) key l

-- l is in the order of the keys
abbrev pub Ordered : (ℕ → ℕ) → List ℕ → Type 0
Ordered key l = OrderedFrom 0 key l

-- every member is below n
abbrev pub below : ℕ → List ℕ → Bool
below n l = every_from (λ _ x. ltb x n) 0 l

-- every member is 0
abbrev pub all_zero : List ℕ → Bool
all_zero l = every_from (λ _ x. eqb x 0) 0 l
