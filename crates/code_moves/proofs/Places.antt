-- Where one joins a table: the library's search finds the place that the definition counts to.
use Prim.Native.Nat.{ℕ, ◌+◌}
use mathlib.Core.Path.{◌≡◌}
use mathlib.Core.Bool.{Bool}
use mathlib.Core.List.{List, [], ◌∷◌}
use native.Mathlib.Omega.{arith}
use lib.ListN.{length}
use borrow.Table.Steps.{cases}
use Rattle.std.specs.List.{position, position_from}
use Rattle.std.specs.Option.{unwrap_or}
use Rattle.std.proofs.lemmas.Iterator.Adapters.{position_from-zero}
use Rattle.base_queue.specs.Tables.{place_behind}

module _ (after : ℕ → Bool) where
  behind_from : (k n : ℕ) (l : List ℕ) → n ≡ k + length l → unwrap_or (position_from after k l) n ≡ k + place_behind after l
  behind_from k n [] e = e
  behind_from k n (x ∷ l) e =
      cases (after x) (λ t. rw t (omega arith))
      (λ f. let m : n ≡ (k + 1) + length l = omega arith in rw (f, behind_from (k + 1) n l m) (omega arith))

  pub position_behind : (l : List ℕ) → unwrap_or (position after l) (length l) ≡ place_behind after l
  position_behind l = rw (position_from-zero after l) (omega (arith, behind_from 0 (length l) l (omega arith)))
