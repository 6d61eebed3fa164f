-- A section is empty exactly where its length is 0.
use Prim.Native.Nat.{ℕ}
use mathlib.Core.Path.{◌≡◌, refl}
use mathlib.Core.List.{List, [], ◌∷◌}
use native.Mathlib.Omega.{arith}
use lib.Dec.{eqb}
use lib.ListN.{length}
use borrow.Author.Tests.{ne_eqb}
use Rattle.base_queue.specs.Lists.{is_empty}

pub no_length : (l : List ℕ) → eqb (length l) 0 ≡ is_empty l
no_length [] = refl
no_length (x ∷ l) = ne_eqb (length (x ∷ l)) 0 (λ e. omega arith)
