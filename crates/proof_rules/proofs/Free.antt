-- The lowest free id, as the refusals leave it: it has a record, and that isn't live.
use Prim.Native.Nat.{◌<◌}
use mathlib.Core.Path.{◌≡◌}
use mathlib.Core.Bool.{Bool, false}
use mathlib.Core.List.{List}
use lib.Dec.{eqb}
use lib.ListN.{length, get_or}
use borrow.Author.Tests.{eqb-false}
use Rattle.spec_kernel.specs.Free.{lowest_free}
use Rattle.spec_kernel.proofs.LowestFree.{free_is_free}

pub free_id : {A : Type 0} (live : A → Bool) (d : A) (l : List A) → eqb (lowest_free live 0 l) 255 ≡ false
    → (lowest_free live 0 l < length l) × (live (get_or l (lowest_free live 0 l) d) ≡ false)
free_id live d l h = free_is_free live d l (eqb-false (lowest_free live 0 l) 255 h)
