-- Laws on numbers as bytes: what is written reads back, and every byte is below 256.
use Prim.Native.Nat.{ℕ, zero, suc, ◌+◌, ◌*◌, ◌/◌, ◌^◌, ◌<◌}
use mathlib.Core.Path.{◌≡◌, refl, ap}
use mathlib.Core.List.{List, ◌++◌}
use native.Mathlib.Nat.{pow-suc}
use native.Mathlib.Omega.{arith}
use lib.ListN.{length, get_or, drop}
use lib.Seq.{drop_at, get_or-drop}
use Rattle.base_bytes.specs.Bytes.{le, un}

pub length_le : (w x : ℕ) → length (le w x) ≡ w
unfolding le
length_le zero x = refl
length_le (suc w) x = ap suc (length_le w (x / 256))

-- Behind a number stands what was written behind it.
pub drop_le : (w x : ℕ) (r : List ℕ) → drop w (le w x ++ r) ≡ r
drop_le w x r = drop_at (le w x) r w (length_le w x)

-- A number that fits its width reads back.
pub un_le : (w x : ℕ) (r : List ℕ) → x < 256 ^ w → un w (le w x ++ r) ≡ x
unfolding le un
un_le zero x r h = omega arith
un_le (suc w) x r h =
    let p : 256 ^ suc w ≡ 256 ^ w * 256 = pow-suc 256 w in
    omega (arith, un_le w (x / 256) r (omega arith))

-- A number that is read from bytes fits its width.
pub un_small : (w : ℕ) (s : List ℕ) → ((i : ℕ) → get_or s i 0 < 256) → un w s < 256 ^ w
unfolding un
un_small zero s h = omega arith
un_small (suc w) s h =
    let p : 256 ^ suc w ≡ 256 ^ w * 256 = pow-suc 256 w in
    omega (arith, h 0, un_small w (drop 1 s) (λ i. rw get_or-drop (h (1 + i))))
