-- Laws on a table that is put back place by place.
use Prim.Native.Nat.{ℕ, suc, ◌+◌, ◌≤◌, ◌<◌}
use mathlib.Core.Path.{◌≡◌, sym, ap, ◌∙◌}
use mathlib.Core.Bool.{Bool, false}
use mathlib.Core.List.{List, [], ◌∷◌, ◌++◌, append-nil}
use native.Mathlib.Numerals.{add-one}
use native.Mathlib.Omega.{arith}
use lib.Dec.{eqb}
use lib.ListN.{length, get_or, take, drop, set, drop_of_length-le}
use lib.Seq.{drop-cons, take-suc-set, length-take-le}
use borrow.Author.Tests.{eq-eqb, ne_eqb}
use Rattle.base_queue.specs.Queues.{capacity, pad, pack}
use Rattle.base_queue.proofs.Queues.{pad_push, queue_eq}
use Rattle.spec_notes.specs.Back.{fill_place, merge}

-- the places from i on
abbrev pub merge_from : ℕ → List ℕ → List ℕ → List ℕ
merge_from i at m = merge (length (drop i at)) (drop i at) m

-- a place x with a noted member
place_noted : (x : ℕ) (l : List ℕ) (go : List ℕ → List ℕ) → eqb x 255 ≡ false → fill_place x l go ≡ x ∷ go l
place_noted x [] go p = rw p
place_noted x (y ∷ l) go p = rw p

-- of those that stayed, m, j are placed
module _ (at m : List ℕ) (i j : ℕ) (h : i < length at) where
  abbrev x : ℕ
  x = get_or at i 0

  first : (r : List ℕ) → merge_from i at r ≡ fill_place x r (merge_from (i + 1) at)
  first r = rw (add-one, drop-cons at i 0 h)

  -- one place: the noted member, or the next that stayed
  pub noted_next : (x ≡ 255 → ⊥) → merge_from i at (drop j m) ≡ x ∷ merge_from (i + 1) at (drop j m)
  noted_next e = first (drop j m) ∙ place_noted x (drop j m) (merge_from (i + 1) at) (ne_eqb x 255 e)

  pub stayed_next : x ≡ 255 → j < length m → merge_from i at (drop j m) ≡ get_or m j 0 ∷ merge_from (i + 1) at (drop (j + 1) m)
  stayed_next e g = let n : suc j ≡ j + 1 = omega arith in rw (first (drop j m), drop-cons m j 0 g, eq-eqb x 255 e, n)

  -- neither: the end
  pub merge_end : x ≡ 255 → length m ≤ j → merge_from i at (drop j m) ≡ []
  merge_end e g = rw (first (drop j m), drop_of_length-le m g, eq-eqb x 255 e)

pub merge_over : (at m : List ℕ) (i : ℕ) → length at ≤ i → merge_from i at m ≡ []
merge_over at m i h = rw (drop_of_length-le at h)

-- a store of 64 that holds its first i, and zeros behind them
module _ (a : List ℕ) (i : ℕ) (e : length a ≡ capacity) (p : a ≡ pad (take i a)) where
  pub store_next : (v : ℕ) → i < capacity → set a i v ≡ pad (take (i + 1) (set a i v))
  store_next v h =
      let g : i < length a = omega arith in
      rw (add-one, take-suc-set a i v g) (ap (λ (z : List ℕ). set z i v) p ∙ pad_push (take i a) i v (length-take-le i a (omega arith)) h)

  pub store_done : (t r : List ℕ) (n : ℕ) → n ≡ i → i ≤ capacity → t ≡ take i a ++ r → r ≡ [] → record { n = n; at = a } ≡ pack t
  store_done t r n q h f g =
      let w : t ≡ take i a = f ∙ rw g (append-nil (take i a)) in
      rw w (queue_eq (q ∙ sym (length-take-le i a (omega arith))) p)

-- whether nobody touched x
abbrev pub untouched : List ℕ → ℕ → Bool
untouched out x = eqb (get_or out x 0) 0
