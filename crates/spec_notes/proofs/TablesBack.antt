-- A table of places, back from those that stayed there in their order and the old places of those that were touched.
use Prim.Native.Nat.{ℕ, zero, suc, ◌≤◌, ◌<◌}
use mathlib.Core.Path.{◌≡◌, refl, sym, ap, ap₂, ◌∙◌}
use mathlib.Core.Bool.{Bool, true, false, not, cond}
use mathlib.Core.List.{List, [], ◌∷◌}
use native.Mathlib.Numerals.{one-add}
use native.Mathlib.Omega.{arith}
use lib.Dec.{eqb, ltb}
use lib.ListN.{length, get_or, set, drop, replicate, length-replicate, get_or-replicate, get_or-eq_default}
use lib.Seq.{get_or-drop}
use borrow.Author.Tests.{ne_eqb, lt-ltb, ltb-true, ltb-false}
use borrow.Table.Steps.{cases}
use Rattle.base_queue.specs.declared.Queue.{Queue}
use Rattle.base_queue.specs.Lists.{keep, count, has, place_of}
use Rattle.base_queue.specs.Queues.{capacity, items, pack, Tidy}
use Rattle.base_queue.specs.Tables.{one, Placed, old_place}
use Rattle.base_queue.proofs.Counts.{count_head, count_rest, count_at, place_of_there, place_of_at, keep_same}
use Rattle.base_queue.proofs.Tables.{placed_once, placed_past, placed_short}
use Rattle.spec_notes.specs.Back.{fill_place, merge, put_back_all}
use Rattle.spec_notes.proofs.EntriesBack.{get_or_any, each, each_stays, each_at, marked}

-- a noted member goes to its place
place_noted : (x : ℕ) (l : List ℕ) (go : List ℕ → List ℕ) → eqb x 255 ≡ false → fill_place x l go ≡ x ∷ go l
place_noted x [] go e = rw e
place_noted x (y ∷ l) go e = rw e

-- a place is a byte
pub place_below : (x : ℕ) (l : List ℕ) → length l ≤ capacity → old_place x l < 256
place_below x l s =
    cases (has x l) (λ e. rw e (omega (arith, (place_of_there x l (ltb-true 0 (count x l) e)).0))) (λ e. rw e (omega arith))

-- who isn't touched isn't marked
unmarked : (b : Bool) → eqb (one b) 0 ≡ not b
unmarked true = refl
unmarked false = refl

module _ (touched : ℕ → Bool) where
  -- what is noted at the place of a member: the member, if it was touched
  abbrev noted : ℕ → ℕ
  noted x = cond (touched x) x 255

  noted_none : noted 255 ≡ 255
  noted_none = cases (touched 255) (λ e. rw e) (λ e. rw e)

  -- the noted ones at their places, the others in their order
  merge_back : (n : ℕ) (at l : List ℕ) → length l ≤ n → ((x : ℕ) → 0 < count x l → x < 255)
      → ((j : ℕ) → j < n → get_or at j 255 ≡ noted (get_or l j 255)) → merge n at (keep (λ x. not (touched x)) l) ≡ l
  merge_back zero at [] s b h = refl
  merge_back (suc n) at [] s b h = rw (h 0 (omega arith), noted_none)
  merge_back zero at (x ∷ l) s b h = absurd (omega arith)
  merge_back (suc n) at (x ∷ l) s b h =
      let r =
      merge_back n (drop 1 at) l (omega arith) (λ y c. b y (count_rest y x l c))
      (λ j k. get_or-drop 1 at j 255 ∙ rw one-add (h (suc j) (omega arith))) in
      let z = h 0 (omega arith) in
      cases (touched x)
      (λ e. let there = ne_eqb x 255 (λ z. omega (arith, b x (count_head x l))) in
      rw (z, e, place_noted x (keep (λ y. not (touched y)) l) (merge n (drop 1 at)) there, r))
      (λ e. rw (z, e, r))

  -- ---- l is the table before, of ids below n that stand there once; m is the number of places
  module _ (n m : ℕ) (l : List ℕ) (once : (x : ℕ) → count x l ≤ 1) (ids : (x : ℕ) → 0 < count x l → x < n)
      (s : length l ≤ m) (few : m ≤ 255) where
    abbrev old : List ℕ
    old = each touched (λ i at. set at (old_place i l) i) 0 n (replicate m 255)

    -- who comes to a place stood there
    old_only : (j : ℕ) → j < m → (i : ℕ) → touched i ≡ true → old_place i l ≡ j → i ≡ noted (get_or l j 255)
    old_only j b i t p =
        cases (has i l)
        (λ e. let (h, is) = place_of_there i l (ltb-true 0 (count i l) e) in
        let q : place_of i l ≡ j = rw e at p in
        rw (← q, get_or_any l (place_of i l) 255 0 h, is, t))
        (λ e. absurd (omega (arith, rw e at p)))

    -- a member stood at its place
    old_place_lem : (j : ℕ) → j < length l → (get_or l j 255 < n) × (old_place (get_or l j 255) l ≡ j)
    old_place_lem j h =
        let c = count_at l j h in
        let p = place_of_at l j h (once (get_or l j 0)) in
        rw (get_or_any l j 255 0 h, lt-ltb 0 _ c) (ids (get_or l j 0) c, p)

    old_noted : (j : ℕ) → j < m → get_or old j 255 ≡ noted (get_or l j 255)
    old_noted j b =
        let full = length-replicate {A = ℕ} m 255 in
        let x = get_or l j 255 in
        cases (ltb j (length l))
        (λ h. let (low, p) = old_place_lem j (ltb-true j (length l) h) in
        each_at touched (λ i. old_place i l) (λ i. i) 255 j (noted x) (old_only j b) x n (replicate m 255) (omega arith) low p
        (λ t. get_or-replicate m j 255 255 b ∙ rw t))
        (λ h. each_stays touched (λ i. old_place i l) (λ i. i) 255 j (noted x) (old_only j b) 0 n (replicate m 255) (omega arith)
        (get_or-replicate m j 255 255 b ∙ sym (rw (get_or-eq_default l 255 {n = j} (ltb-false j (length l) h)) noted_none)))

    -- all of it, where `out` marks those that were touched
    merged : (l' : List ℕ) → n ≤ m → ((x : ℕ) → 0 < count x l' → x < n) → keep (λ x. not (touched x)) l' ≡ keep (λ x. not (touched x)) l
        → merge m old (keep (λ x. eqb (get_or (each touched (λ i out. set out i 1) 0 n (replicate m 0)) x 0) 0) l') ≡ l
    merged l' b ids' framed =
        ap (merge m old) (keep_same l' (λ x c. rw (marked touched n m b x (ids' x c)) (unmarked (touched x))) ∙ framed)
        ∙ merge_back m old l s (λ x c. omega (arith, ids x c)) old_noted

-- ---- records that say of themselves whether they belong into the table
module _ {A : Type 0} (belongs : A → Bool) (none : A) (out : belongs none ≡ false) (n : ℕ) (few : n ≤ capacity) where
  abbrev member : List A → ℕ → Bool
  member records x = belongs (get_or records x none)

  past : (records : List A) → length records ≡ n → (x : ℕ) → n ≤ x → member records x ≡ false
  past records s x h = ap belongs (get_or-eq_default records none (omega arith)) ∙ out

  ids : (records : List A) (l : List ℕ) → length records ≡ n → Placed (member records) l → (x : ℕ) → 0 < count x l → x < n
  ids records l s P x c =
      cases (ltb x n) (ltb-true x n) (λ e. absurd (omega (arith, placed_past (member records) l n (past records s) P x (ltb-false x n e))))

  -- the table is back: q before, q' after
  pub table_back : (touched : ℕ → Bool) (old new : List A) (q q' : Queue) {out at : List ℕ} → length old ≡ n → length new ≡ n → Tidy q
      → Placed (member old) (items q) → Placed (member new) (items q')
      → keep (λ x. not (touched x)) (items q') ≡ keep (λ x. not (touched x)) (items q)
      → out ≡ each touched (λ i l. set l i 1) 0 n (replicate capacity 0)
      → at ≡ each touched (λ i l. set l (old_place i (items q)) i) 0 n (replicate capacity 255) → put_back_all out at q' ≡ q
  unfolding put_back_all
  table_back touched old new q q' s s' tidy P P' framed o a =
      let l = items q in
      let short = placed_short (member old) l n (past old s) P in
      ap₂ (λ out at. put_back_all out at q') o a
      ∙ ap pack
      (merged touched n capacity l (placed_once (member old) l P) (ids old l s P) (omega arith) (omega arith) (items q') few
      (ids new (items q') s' P') framed)
      ∙ tidy
