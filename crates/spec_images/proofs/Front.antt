-- An image in front of lent room: whole where it fits, else nothing of it.
use Prim.Native.Nat.{ℕ, ◌≤◌, ◌<◌}
use mathlib.Core.Path.{◌≡◌}
use mathlib.Core.Bool.{true, false}
use mathlib.Core.List.{List, ◌++◌}
use native.Mathlib.Nat.{zero-add}
use native.Mathlib.Omega.{arith}
use lib.ListN.{length, take, drop, length-append, length-drop}
use lib.Seq.{take-append_seam}
use borrow.Author.Tests.{leb-true, leb-false}
use Rattle.base_bytes.specs.Logs.{noted}
use Rattle.spec_kernel.specs.declared.records.Kernel.{Kernel}
use Rattle.spec_images.specs.Images.{image_of}
use Rattle.spec_images.specs.OnImages.{fits}

module _ (k : Kernel) (lent : List ℕ) where
  abbrev image : List ℕ
  image = image_of k

  -- the image, and behind it what was there
  abbrev pub in_front : List ℕ
  in_front = image ++ drop (length image) lent

  pub fits_in : fits k lent ≡ true → (length image ≤ length lent) × (noted lent 0 image ≡ in_front)
  unfolding noted
  fits_in h = let b = rw zero-add at (leb-true _ (length lent) h) in (b, rw (h, zero-add))

  pub fits_not : fits k lent ≡ false → (length lent < length image) × (noted lent 0 image ≡ lent)
  unfolding noted
  fits_not h = let b = rw zero-add at (leb-false _ (length lent) h) in (b, rw h)

  pub front_read : take (length image) in_front ≡ image
  front_read = take-append_seam image (drop (length image) lent)

  pub front_length : length image ≤ length lent → length in_front ≡ length lent
  front_length h = simp (length-append, length-drop) (omega arith)
