-- A turn of a reader's loop: from p on stands an entry, which has so many bytes; what it does, and then the entries behind it.
use Prim.Native.Nat.{ℕ, ◌+◌, ◌-◌, ◌≤◌, ◌<◌, min}
use mathlib.Core.Path.{◌≡◌, ◌∙◌}
use mathlib.Core.List.{List}
use native.Mathlib.Omega.{arith}
use lib.ListN.{length, get_or, take, drop, length-drop}
use Rattle.base_rows.proofs.EntriesRead.{from_there, entries_from, entries_turn}

-- the bytes from p on, as a part of the slice has them
abbrev pub part : List ℕ → ℕ → List ℕ
part s p = take (length s - p) (drop p s)

module _ {A : Type 0} (own : ℕ → List ℕ → ℕ) (does : ℕ → List ℕ → A → A) (s : List ℕ) {p size : ℕ} (more : p < length s)
    (e : size ≡ min (1 + own (get_or (part s p) 0 0) (drop 1 (part s p))) (length (part s p))) where
  sized : size ≡ min (1 + own (get_or (drop p s) 0 0) (drop 1 (drop p s))) (length (drop p s))
  sized = e ∙ rw (from_there s p)

  -- the loop goes on, and not past the end
  pub turn_on : (0 < size) × (p + size ≤ length s)
  turn_on = omega (arith, sized, length-drop p s)

  pub turned : {x a' : A} (a : A) → a' ≡ does (get_or (part s p) 0 0) (drop 1 (part s p)) a → x ≡ entries_from own does s p a
      → x ≡ entries_from own does s (p + size) a'
  turned a d f = f ∙ entries_turn own does s p size a more sized ∙ rw (d, from_there s p)
