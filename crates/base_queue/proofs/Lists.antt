-- Laws on lists, for the proofs here and in the crates above: a loop's next turn and its end, what a test of every member
-- means, and a list with one member more or one fewer.
use Prim.Native.Nat.{ℕ, zero, suc, ◌+◌, ◌≤◌, ◌<◌, min}
use mathlib.Core.Path.{◌≡◌, refl, sym, ap, ◌∙◌}
use mathlib.Core.List.{List, [], ◌∷◌, ◌++◌}
use mathlib.Core.Bool.{Bool, true, false, not, cond, ◌&&◌, false≢true}
use native.Mathlib.Nat.{add-zero, add-suc, suc-add, zero-min, min-zero, suc-min-suc}
use native.Mathlib.Numerals.{add-one, one-add}
use native.Mathlib.Omega.{arith}
use lib.Dec.{eqb, ltb, leb-suc-suc}
use lib.ListN.{length, take, drop, get_or, replicate}
use lib.ListN.{length-append, length-take, length-drop, length-replicate, get_or-replicate, drop_of_length-le}
use lib.Seq.{take-suc, drop-cons, get_or-take, take_at, get_or_at, length-take-le, ext_get_or}
use borrow.Author.Tests.{eq-eqb, lt-ltb, ltb-false, eqb-true}
use Rattle.std.specs.Prelude.{unwrap_or, position}
use Rattle.std.specs.List.{position_or_len, list_all}
use Rattle.std.proofs.lemmas.List.Sums.{prefix_len-le-length}
use Rattle.std.proofs.lemmas.List.Recursion.{is_position_or_len}
use Rattle.base_bits.proofs.Digits.{either}
use Rattle.base_queue.specs.Lists.{keep, every_from, count, place_of, has, with_at, all_zero}

pub and_both : (a b : Bool) → (a && b) ≡ true → (a ≡ true) × (b ≡ true)
and_both true b e = (refl, e)
and_both false b e = absurd (false≢true e)

module _ {A : Type 0} where
  -- the first n, of which there may be fewer
  pub take_size : (n : ℕ) (l : List A) → take (length (take n l)) l ≡ take n l
  take_size zero l = refl
  take_size (suc n) [] = refl
  take_size (suc n) (x ∷ l) = ap {B = List A} (λ r. x ∷ r) (take_size n l)

  pub take_front : (i : ℕ) (l m : List A) → i ≤ length l → take i (take i l ++ m) ≡ take i l
  take_front i l m h = take_at (take i l) m i (length-take-le i l h)

  -- what a walk over the first n has before it at k: the member there and the rest; at the end, nothing
  pub rest_next : (d : A) (l : List A) (n k : ℕ) → k < n → k < length l → drop k (take n l) ≡ get_or l k d ∷ drop (k + 1) (take n l)
  rest_next d l n k h e = rw (add-one, drop-cons (take n l) k d (rw length-take (omega arith)), get_or-take n l k d h)

  pub rest_end : (l : List A) (n k : ℕ) → min n (length l) ≤ k → drop k (take n l) ≡ []
  rest_end l n k h =
      let e : length (take n l) ≤ k = rw length-take h in
      drop_of_length-le (take n l) e

  module _ (f : A → Bool) where
    pub keep_append : (l m : List A) → keep f (l ++ m) ≡ keep f l ++ keep f m
    keep_append [] m = refl
    keep_append (x ∷ l) m = go (f x) (keep_append l m)
      where
        go : (b : Bool) → keep f (l ++ m) ≡ keep f l ++ keep f m
            → cond b (x ∷ keep f (l ++ m)) (keep f (l ++ m)) ≡ cond b (x ∷ keep f l) (keep f l) ++ keep f m
        go true e = ap {B = List A} (λ r. x ∷ r) e
        go false e = e

    pub keep_next : (d : A) (l : List A) (k : ℕ) → k < length l
        → keep f (take (k + 1) l) ≡ keep f (take k l) ++ cond (f (get_or l k d)) (get_or l k d ∷ []) []
    keep_next d l k h = rw (add-one, take-suc l k d h, keep_append)

  module _ (f : ℕ → A → Bool) (d : A) where
    -- a test of every member says so of each
    pub every_at : (k : ℕ) (l : List A) → every_from f k l ≡ true → (i : ℕ) → i < length l → f (k + i) (get_or l i d) ≡ true
    every_at k [] e i h = absurd (omega arith)
    every_at k (x ∷ l) e zero h = rw add-zero (and_both _ _ e).0
    every_at k (x ∷ l) e (suc i) h = rw (add-suc, ← suc-add) (every_at (suc k) l (and_both (f k x) _ e).1 i (omega arith))

    pub every_intro : (k : ℕ) (l : List A) → ((i : ℕ) → i < length l → f (k + i) (get_or l i d) ≡ true) → every_from f k l ≡ true
    every_intro k [] g = refl
    every_intro k (x ∷ l) g =
        let z : f k x ≡ true = rw add-zero at (g 0 (omega arith)) in
        let r : every_from f (suc k) l ≡ true = every_intro (suc k) l (λ i h. rw (suc-add, ← add-suc) (g (suc i) (omega arith))) in
        rw (z, r)

  -- a test that does not look at the place may count from anywhere
  pub every_anywhere : (f : A → Bool) (j k : ℕ) (l : List A) → every_from (λ _. f) j l ≡ every_from (λ _. f) k l
  every_anywhere f j k [] = refl
  every_anywhere f j k (x ∷ l) = ap (λ (r : Bool). f x && r) (every_anywhere f (suc j) (suc k) l)

-- the library's test of every member
pub zeros_all : (l : List ℕ) → all_zero l ≡ list_all (λ x. eqb x 0) l
zeros_all [] = refl
zeros_all (x ∷ l) = ap (λ r. eqb x 0 && r) (every_anywhere (λ x. eqb x 0) 1 0 l ∙ zeros_all l)

-- a search that ends at the length where it finds nothing
pub found_or_len : {A : Type 0} (p : A → Bool) (l : List A) → unwrap_or (position p l) (length l) ≡ position_or_len p l
found_or_len p l =
    let n : ℕ = position_or_len p l in
    either (ltb n (length l))
    (λ e. rw e refl)
    (λ e. rw e (omega (arith, prefix_len-le-length (λ x. not (p x)) l, ltb-false n (length l) e)))

module _ (x : ℕ) where
  pub count_append : (l m : List ℕ) → count x (l ++ m) ≡ count x l + count x m
  count_append [] m = omega arith
  count_append (y ∷ l) m = go (eqb y x) (count_append l m)
    where
      go : (b : Bool) → count x (l ++ m) ≡ count x l + count x m
          → cond b (suc (count x (l ++ m))) (count x (l ++ m)) ≡ cond b (suc (count x l)) (count x l) + count x m
      go true e = omega arith
      go false e = e

  -- the search that the code makes
  pub place_found : (l : List ℕ) → unwrap_or (position (λ y. eqb y x) l) (length l) ≡ place_of x l
  place_found l =
      let p : ℕ → Bool = λ y. eqb y x in
      let e : place_of x l ≡ position_or_len p l = is_position_or_len (place_of x) p refl (λ y ys. rw (one-add) refl) l in
      rw e (found_or_len p l)

  -- who stands in a list has a place there
  pub has_place : (l : List ℕ) → ltb (place_of x l) (length l) ≡ has x l
  has_place [] = refl
  has_place (y ∷ l) = go (eqb y x) (has_place l)
    where
      go : (b : Bool) → ltb (place_of x l) (length l) ≡ has x l
          → ltb (cond b 0 (suc (place_of x l))) (suc (length l)) ≡ ltb 0 (cond b (suc (count x l)) (count x l))
      go true e = lt-ltb 0 (suc (length l)) (omega arith) ∙ sym (lt-ltb 0 (suc (count x l)) (omega arith))
      go false e = leb-suc-suc (suc (place_of x l)) (length l) ∙ e

  -- x is put in: itself, and those after it
  pub with_at_here : (i : ℕ) (l : List ℕ) → i ≤ length l → get_or (with_at i x l) i 0 ≡ x
  with_at_here i l h = get_or_at (take i l) x (drop i l) 0 i (length-take-le i l h)

  pub with_at_after : (i k : ℕ) (l : List ℕ) → i ≤ k → get_or (with_at i x l) (suc k) 0 ≡ get_or l k 0
  with_at_after zero k l h = refl
  with_at_after (suc i) k [] h = refl
  with_at_after (suc i) zero (y ∷ l) h = absurd (omega arith)
  with_at_after (suc i) (suc k) (y ∷ l) h = with_at_after i k l (omega arith)

  -- past the end is at the end
  pub with_at_min : (i : ℕ) (l : List ℕ) → with_at i x l ≡ with_at (min i (length l)) x l
  with_at_min zero l = rw zero-min
  with_at_min (suc i) [] = rw min-zero
  with_at_min (suc i) (y ∷ l) = rw suc-min-suc (ap {B = List ℕ} (λ r. y ∷ r) (with_at_min i l))

  pub length_with_at : (i : ℕ) (l : List ℕ) → length (with_at i x l) ≡ length l + 1
  length_with_at i l = simp (length-append, length-take, length-drop) (omega arith)

pub zeros_means : (l : List ℕ) → all_zero l ≡ true → l ≡ replicate (length l) 0
zeros_means l e =
    ext_get_or 0 l (replicate (length l) 0) (sym (length-replicate (length l) 0))
    (λ i h. eqb-true _ _ (every_at (λ _ x. eqb x 0) 0 0 l e i h) ∙ sym (get_or-replicate (length l) i 0 0 h))

pub zeros_hold : (n : ℕ) → all_zero (replicate n 0) ≡ true
zeros_hold n =
    every_intro (λ _ x. eqb x 0) 0 0 (replicate n 0)
    (λ i h. eq-eqb _ _ (get_or-replicate n i 0 0 (rw length-replicate at h)))
