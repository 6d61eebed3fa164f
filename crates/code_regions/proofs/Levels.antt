-- A level of a byte goes up to 255 and no further.
use Prim.Native.Nat.{ℕ, ◌+◌, ◌≤◌, ◌<◌, min}
use mathlib.Core.Path.{◌≡◌}
use native.Mathlib.Omega.{arith}
use lib.Dec.{ltb}
use borrow.Author.Tests.{ltb-true, ltb-false}
use borrow.Table.Steps.{cases}
use Rattle.spec_regions.specs.Regions.{one_more}

pub saturates : (n m : ℕ) → n < 256 → m ≡ min (n + 1) 255 → m ≡ one_more n
saturates n m b e =
    cases (ltb n 255)
    (λ t. let h : n < 255 = ltb-true n 255 t in rw t (omega (arith, e)))
    (λ f. let h : 255 ≤ n = ltb-false n 255 f in rw f (omega (arith, e)))
