-- What a state's image leaves in lent room, by the tests that the code makes: an image isn't empty, so where the writer's end didn't move
-- there was no room.
use Prim.Native.Nat.{ℕ, ◌+◌, ◌<◌}
use mathlib.Core.Path.{◌≡◌}
use mathlib.Core.Bool.{true, false}
use mathlib.Core.List.{List}
use native.Mathlib.Nat.{zero-add}
use native.Mathlib.Omega.{arith}
use lib.ListN.{length}
use borrow.Table.Steps.{cases}
use Rattle.base_bytes.specs.Logs.{noted, ends}
use Rattle.spec_kernel.specs.declared.records.Kernel.{Kernel}
use Rattle.spec_rules.specs.Tests.{keeps_rules}
use Rattle.spec_images.specs.Images.{image_of}
use Rattle.spec_images.specs.OnImages.{written, fits, stored_in, lent_then}

image_some : (k : Kernel) → 0 < length (image_of k)
unfolding image_of
image_some k = omega arith

module _ (k : Kernel) (lent : List ℕ) where
  pub fits_none : ends lent 0 (image_of k) ≡ 0 → fits k lent ≡ false
  unfolding ends
  fits_none h =
      cases (fits k lent) (λ e. let w : 0 + length (image_of k) ≡ 0 = rw e at h in absurd (omega (arith, w, image_some k))) (λ e. e)

  pub fits_some : (ends lent 0 (image_of k) ≡ 0 → ⊥) → (fits k lent ≡ true) × (ends lent 0 (image_of k) ≡ length (image_of k))
  unfolding ends
  fits_some h = cases (fits k lent) (λ e. (e, rw (e, zero-add))) (λ e. absurd (h (rw e)))

  pub stored_broken : keeps_rules k ≡ false → (written 14 0 ≡ stored_in k lent) × (lent ≡ lent_then k lent)
  unfolding stored_in lent_then
  stored_broken e = (rw e, rw e)

  module _ (kept : keeps_rules k ≡ true) where
    pub lent_then_lem : noted lent 0 (image_of k) ≡ lent_then k lent
    unfolding lent_then
    lent_then_lem = rw kept

    pub stored_none : ends lent 0 (image_of k) ≡ 0 → written 13 0 ≡ stored_in k lent
    unfolding stored_in
    stored_none h = rw (kept, fits_none h)

    pub stored_whole : (ends lent 0 (image_of k) ≡ 0 → ⊥) → written 0 (ends lent 0 (image_of k)) ≡ stored_in k lent
    unfolding stored_in
    stored_whole h = let (e, n) = fits_some h in rw (kept, e, n)
