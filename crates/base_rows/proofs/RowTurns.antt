-- What one turn of each loop over the fields of a row adds, and what is left where it ends.
use Prim.Native.Nat.{ℕ, ◌+◌, ◌*◌, ◌/◌, ◌≤◌, ◌<◌, min}
use mathlib.Core.Path.{◌≡◌}
use mathlib.Core.List.{List, [], ◌∷◌, ◌++◌, append-nil}
use mathlib.Core.Bool.{cond}
use native.Mathlib.Numerals.{add-one}
use native.Mathlib.Omega.{arith}
use lib.ListN.{length, get_or, drop, take, set, length-drop, drop_of_length-le}
use lib.Seq.{drop-cons, drop-drop, take-suc-set, append_snoc, take_all}
use Rattle.base_bytes.specs.Bytes.{un}
use Rattle.base_rows.specs.Rows.{flag_of, field_of, flags_of, body_of, first_flagged, taken, row_from, used_by, cut}
use Rattle.base_rows.proofs.Codec.{flags_small}

-- one field that is compared, from the last on, and one that is written
module _ (os ps : List ℕ) (k j : ℕ) (e : k + 1 ≡ j) (a : k < length os) (b : k < length ps) where
  pub flags_next : flags_of (drop k os) (drop k ps) ≡ flag_of (get_or os k 0) (get_or ps k 0) + 2 * flags_of (drop j os) (drop j ps)
  unfolding flags_of
  flags_next = rw (drop-cons os k 0 a, drop-cons ps k 0 b, ← e, add-one)

  pub body_next : (ws : List ℕ) → k < length ws
      → body_of (drop k ws) (drop k os) (drop k ps) ≡ field_of (get_or ws k 0) (get_or os k 0) (get_or ps k 0) ++ body_of (drop j ws) (drop j os)
      (drop j ps)
  unfolding body_of
  body_next ws h = rw (drop-cons ws k 0 h, drop-cons os k 0 a, drop-cons ps k 0 b, ← e, add-one)

pub flags_byte : (os ps : List ℕ) (k : ℕ) → length os ≤ 8 → flags_of (drop k os) (drop k ps) < 256
flags_byte os ps k h = flags_small 8 (drop k os) (drop k ps) (rw length-drop (omega arith))

pub flags_end : (os ps : List ℕ) (k : ℕ) → length os ≤ k → flags_of (drop k os) (drop k ps) ≡ 0
unfolding flags_of
flags_end os ps k h = rw (drop_of_length-le os h)

pub body_end : (ws os ps : List ℕ) (k : ℕ) → length ws ≤ k → body_of (drop k ws) os ps ≡ []
unfolding body_of
body_end ws os ps k h = rw (drop_of_length-le ws h)

-- one field that is read
pub row_next : (ws ps s : List ℕ) (f k a : ℕ) → k < length ws → k < length ps
    → row_from (cut (drop k ws)) f (drop k ps) (drop a s)
    ≡ cond (first_flagged f) (un (min (get_or ws k 0) 4) (drop a s)) (get_or ps k 0)
    ∷ row_from (cut (drop (k + 1) ws)) (f / 2) (drop (k + 1) ps) (drop (a + taken (min (get_or ws k 0) 4) f) s)
unfolding row_from cut
row_next ws ps s f k a h i = rw (drop-cons ws k 0 h, drop-cons ps k 0 i, drop-drop, add-one)

pub row_end : (ws ps s : List ℕ) (f k : ℕ) → length ws ≤ k → row_from (cut (drop k ws)) f ps s ≡ []
unfolding row_from cut
row_end ws ps s f k h = rw (drop_of_length-le ws h)

pub used_next : (ws : List ℕ) (f k : ℕ) → k < length ws → used_by (drop k ws) f ≡ taken (get_or ws k 0) f + used_by (drop (k + 1) ws) (f / 2)
unfolding used_by
used_next ws f k h = rw (drop-cons ws k 0 h, add-one)

pub used_end : (ws : List ℕ) (f k : ℕ) → length ws ≤ k → used_by (drop k ws) f ≡ 0
unfolding used_by
used_end ws f k h = rw (drop_of_length-le ws h)

-- an array that is filled from the front, beside what is still to come
module _ {A : Type 0} (l : List A) (k : ℕ) where
  pub filled_next : (v : A) (r : List A) → k < length l → take k l ++ v ∷ r ≡ take (k + 1) (set l k v) ++ r
  filled_next v r h = rw (add-one, take-suc-set l k v h, append_snoc)

  pub filled_end : length l ≤ k → take k l ++ [] ≡ l
  filled_end h = rw (append-nil, take_all k l h)
