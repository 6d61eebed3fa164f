-- Members and how often they stand in a list: what `keep`, `without`, `with_at` and `behind` make of them.
-- A member is a number x with 0 < count x l.
use mathlib.Core.Path.{◌≡◌, refl, sym, ap}
use mathlib.Core.Bool.{Bool, true, false, cond, ◌&&◌, and_comm, and-eq-true_iff}
use mathlib.Core.List.{List, [], ◌∷◌, ◌++◌}
use Prim.Native.Nat.{ℕ, zero, suc, ◌+◌, ◌≤◌, ◌<◌}
use native.Mathlib.Omega.{arith}
use lib.ListN.{length, take, drop, get_or, take-append-drop}
use lib.Dec.{eqb, ltb}
use borrow.Author.Tests.{eqb-true, eqb-false, eq-eqb, ne_eqb, ltb-true, ltb-false, not-true}
use borrow.Table.Steps.{cases}
use Rattle.base_queue.specs.Lists.{keep, every_from, is_not, without, count, place_of, with_at, behind, below}
use Rattle.base_queue.proofs.Lists.{keep_append, count_append}
use Rattle.base_queue.specs.Tables.{place_behind}

-- the test of a number with itself
pub same : (x : ℕ) → eqb x x ≡ true
same x = eq-eqb x x refl

-- ---- members
-- the first is a member
pub count_head : (x : ℕ) (l : List ℕ) → 0 < count x (x ∷ l)
count_head x l = rw same (omega arith)

-- a member of the rest is a member
pub count_rest : (x y : ℕ) (l : List ℕ) → 0 < count x l → 0 < count x (y ∷ l)
count_rest x y l c = cases (eqb y x) (λ e. rw e (omega arith)) (λ e. rw e c)

-- what stands at a place is a member
pub count_at : (l : List ℕ) (i : ℕ) → i < length l → 0 < count (get_or l i 0) l
count_at [] i h = absurd (omega arith)
count_at (y ∷ l) zero h = count_head y l
count_at (y ∷ l) (suc i) h = count_rest (get_or l i 0) y l (count_at l i (omega arith))

-- a member stands at its place
pub place_of_there : (x : ℕ) (l : List ℕ) → 0 < count x l → (place_of x l < length l) × (get_or l (place_of x l) 0 ≡ x)
place_of_there x [] c = absurd (omega arith)
place_of_there x (y ∷ l) c =
    cases (eqb y x) (λ e. rw e (omega arith, eqb-true y x e))
    (λ e. let r = place_of_there x l (rw e at c) in rw e (omega arith, r.1))

-- the place of what stands at i, where it stands once, is i
pub place_of_at : (l : List ℕ) (i : ℕ) → i < length l → count (get_or l i 0) l ≤ 1 → place_of (get_or l i 0) l ≡ i
place_of_at [] i h c = absurd (omega arith)
place_of_at (y ∷ l) zero h c = rw same
place_of_at (y ∷ l) (suc i) h c =
    let m = count_at l i (omega arith) in
    cases (eqb y (get_or l i 0)) (λ e. absurd (omega (arith, rw e at c))) (λ e. rw e (ap suc (place_of_at l i (omega arith) (rw e at c))))

-- where all pass a test, it holds of each member
pub every_member : (p : ℕ → Bool) (k : ℕ) (l : List ℕ) → every_from (λ _ x. p x) k l ≡ true → (x : ℕ) → 0 < count x l → p x ≡ true
every_member p k [] h x c = absurd (omega arith)
every_member p k (y ∷ l) h x c =
    let (first, rest) = (and-eq-true_iff (p y) (every_from (λ _ u. p u) (suc k) l)).0 h in
    cases (eqb y x) (λ e. rw (eqb-true y x e) at first) (λ e. every_member p (suc k) l rest x (rw e at c))

-- where it holds of each member, all pass
pub member_every : (p : ℕ → Bool) (k : ℕ) (l : List ℕ) → ((x : ℕ) → 0 < count x l → p x ≡ true) → every_from (λ _ x. p x) k l ≡ true
member_every p k [] h = refl
member_every p k (y ∷ l) h = rw (h y (count_head y l)) (member_every p (suc k) l (λ x c. h x (count_rest x y l c)))

-- where every member is below n, nobody from n on is there
pub below_count : (n : ℕ) (l : List ℕ) {x : ℕ} → below n l ≡ true → n ≤ x → count x l ≡ 0
below_count n l {x} h b =
    cases (ltb 0 (count x l))
    (λ e. let t = every_member (λ y. ltb y n) 0 l h x (omega (arith, ltb-true)) in absurd (omega (arith, ltb-true)))
    (λ e. omega (arith, ltb-false))

-- where nobody from n on is there, every member is below n
pub count_below : (n : ℕ) (l : List ℕ) → ((x : ℕ) → n ≤ x → count x l ≡ 0) → below n l ≡ true
count_below n l h =
    member_every (λ y. ltb y n) 0 l (λ x c. cases (ltb x n) (λ e. e) (λ e. absurd (omega (arith, h x (omega (arith, ltb-false))))))

-- ---- what a test keeps
-- each that f holds of stands there as often as before, and nobody else does
pub count_keep : (x : ℕ) (f : ℕ → Bool) (l : List ℕ) → count x (keep f l) ≡ cond (f x) (count x l) 0
count_keep x f [] = cases (f x) (λ e. rw e) (λ e. rw e)
count_keep x f (y ∷ l) =
    cases (eqb y x)
    (λ e. rw (eqb-true y x e) (cases (f x) (λ g. simp (g, same, count_keep x f l)) (λ g. simp (g, count_keep x f l))))
    (λ e. cases (f y) (λ g. simp (g, e, count_keep x f l)) (λ g. simp (g, e, count_keep x f l)))

-- f holds of the kept, and they were there
pub kept : (f : ℕ → Bool) (l : List ℕ) {x : ℕ} → 0 < count x (keep f l) → (f x ≡ true) × (0 < count x l)
kept f l {x} c = let d = rw count_keep at c in cases (f x) (λ e. (e, rw e at d)) (λ e. absurd (omega (arith, rw e at d)))

-- tests that agree on the members keep the same
pub keep_same : {f g : ℕ → Bool} (l : List ℕ) → ((x : ℕ) → 0 < count x l → f x ≡ g x) → keep f l ≡ keep g l
keep_same [] h = refl
keep_same (y ∷ l) h = rw (h y (count_head y l), keep_same l (λ x c. h x (count_rest x y l c)))

-- a test that holds of the members keeps them all
pub keep_all : {f : ℕ → Bool} (l : List ℕ) → ((x : ℕ) → 0 < count x l → f x ≡ true) → keep f l ≡ l
keep_all [] h = refl
keep_all (y ∷ l) h = rw (h y (count_head y l), keep_all l (λ x c. h x (count_rest x y l c)))

-- two tests, one after the other, keep what both hold of
pub keep_keep : (f g : ℕ → Bool) (l : List ℕ) → keep f (keep g l) ≡ keep (λ x. g x && f x) l
keep_keep f g [] = refl
keep_keep f g (y ∷ l) = cases (g y) (λ e. simp (e, keep_keep f g l)) (λ e. simp (e, keep_keep f g l))

-- in either order
pub keep_keep_swap : (f g : ℕ → Bool) (l : List ℕ) → keep f (keep g l) ≡ keep g (keep f l)
keep_keep_swap f g l = simp keep_keep (keep_same l (λ x _. and_comm (g x) (f x)))

-- ---- without x
-- x is gone
pub count_without_same : (x : ℕ) (l : List ℕ) → count x (without x l) ≡ 0
count_without_same x l = rw (count_keep, same)

-- the others stand there as often as before
pub count_without_other : {u x : ℕ} (l : List ℕ) → (u ≡ x → ⊥) → count u (without x l) ≡ count u l
count_without_other {u} {x} l h = rw (count_keep, ne_eqb u x)

-- whoever is left is not x
pub not_without : (x : ℕ) (l : List ℕ) {u : ℕ} → 0 < count u (without x l) → u ≡ x → ⊥
not_without x l {u} c = eqb-false u x (not-true (eqb u x) (kept (is_not x) l c).0)

-- where x is absent, nothing is taken out
pub without_absent : (x : ℕ) (l : List ℕ) → count x l ≡ 0 → without x l ≡ l
without_absent x l z = keep_all l (λ u c. rw (ne_eqb u x (λ e. omega (arith, rw e at c))))

-- the length counts x, as often as it stands there, and the others
pub length_without : (x : ℕ) (l : List ℕ) → length l ≡ count x l + length (without x l)
length_without x [] = refl
length_without x (y ∷ l) = let r = length_without x l in cases (eqb y x) (λ e. rw e (omega arith)) (λ e. rw e (omega arith))

-- x may be taken out before or after
pub keep_without : (f : ℕ → Bool) (x : ℕ) (l : List ℕ) → keep f (without x l) ≡ without x (keep f l)
keep_without f x l = keep_keep_swap f (is_not x) l

-- a test that does not hold of x does not see it go
pub keep_past : (f : ℕ → Bool) (x : ℕ) (l : List ℕ) → f x ≡ false → keep f (without x l) ≡ keep f l
keep_past f x l h = rw keep_keep (keep_same l (λ u _. cases (eqb u x) (λ e. rw (e, eqb-true u x e, h)) (λ e. rw e)))

-- different numbers below n are at most n
pub pigeon : (n : ℕ) (l : List ℕ) → ((x : ℕ) → count x l ≤ 1) → ((x : ℕ) → n ≤ x → count x l ≡ 0) → length l ≤ n
pigeon zero [] h z = omega arith
pigeon zero (y ∷ l) h z = absurd (omega (arith, count_head y l, z y (omega arith)))
pigeon (suc n) l h z =
    let r =
    pigeon n (without n l) (λ x. cases (eqb x n) (λ e. rw (count_keep, e) (omega arith)) (λ e. rw (count_keep, e) (h x)))
    (λ x b. cases (eqb x n) (λ e. rw (count_keep, e)) (λ e. rw (count_keep, e) (z x (omega (arith, eqb-false x n e))))) in
    omega (arith, length_without n l, h n)

-- each stands there as often as if x had joined in front
pub count_with_at : (u i x : ℕ) (l : List ℕ) → count u (with_at i x l) ≡ count u (x ∷ l)
count_with_at u i x l =
    let r = rw count_append at (ap (count u) (take-append-drop i l)) in
    rw count_append (cases (eqb x u) (λ e. rw e (omega arith)) (λ e. rw e (omega arith)))

-- x once more
pub count_with_at_same : (i x : ℕ) (l : List ℕ) → count x (with_at i x l) ≡ suc (count x l)
count_with_at_same i x l = rw (count_with_at, same)

-- the others as often as before
pub count_with_at_other : (i : ℕ) {u x : ℕ} (l : List ℕ) → (u ≡ x → ⊥) → count u (with_at i x l) ≡ count u l
count_with_at_other i {u} {x} l h = rw (count_with_at, ne_eqb x u (λ e. h (sym e)))

-- a test that does not hold of x does not see it come
pub keep_with_at_past : (f : ℕ → Bool) (i x : ℕ) (l : List ℕ) → f x ≡ false → keep f (with_at i x l) ≡ keep f l
keep_with_at_past f i x l h = rw (keep_append, h, ← keep_append f (take i l) (drop i l), take-append-drop)

-- ---- x joins before the first that comes after
-- that is at a place
pub behind_place : (after : ℕ → Bool) (x : ℕ) (l : List ℕ) → behind after x l ≡ with_at (place_behind after l) x l
behind_place after x [] = refl
behind_place after x (y ∷ l) = cases (after y) (λ e. rw e) (λ e. rw (e, behind_place after x l))

module _ (after : ℕ → Bool) (x : ℕ) (l : List ℕ) where
  -- x once more
  pub count_behind_same : count x (behind after x l) ≡ suc (count x l)
  count_behind_same = rw (behind_place after x l, count_with_at_same)

  -- the others as often as before
  pub count_behind_other : {u : ℕ} → (u ≡ x → ⊥) → count u (behind after x l) ≡ count u l
  count_behind_other h = rw (behind_place after x l, count_with_at_other)

  -- a test that does not hold of x does not see it come
  pub keep_behind_past : (f : ℕ → Bool) → f x ≡ false → keep f (behind after x l) ≡ keep f l
  keep_behind_past f h = rw (behind_place after x l, keep_with_at_past)

-- where nobody comes after, x is last
pub behind_last : {after : ℕ → Bool} (x : ℕ) (l : List ℕ) → ((u : ℕ) → 0 < count u l → after u ≡ false) → behind after x l ≡ l ++ x ∷ []
behind_last x [] h = refl
behind_last x (y ∷ l) h = rw (h y (count_head y l), behind_last x l (λ u c. h u (count_rest u y l c)))

-- where everybody comes after, x is first
pub behind_first : {after : ℕ → Bool} (x : ℕ) (l : List ℕ) → ((u : ℕ) → 0 < count u l → after u ≡ true) → behind after x l ≡ x ∷ l
behind_first x [] h = refl
behind_first x (y ∷ l) h = rw (h y (count_head y l))
