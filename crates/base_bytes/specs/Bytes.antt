-- Numbers as bytes, the lowest first. Assumes nothing.
use Rattle.std.specs.Prelude.{ℕ, zero, suc, ◌+◌, ◌*◌, ◌/◌, ◌%◌, List, [], ◌∷◌, Bool, true, false, ◌&&◌, eqb, get_or, drop}

-- The w lowest bytes of x.
unfoldable pub le : ℕ → ℕ → List ℕ
le zero x = []
le (suc w) x = x % 256 ∷ le w (x / 256)

-- The number in the first w bytes of s, with 0 for bytes that s lacks.
unfoldable pub un : ℕ → List ℕ → ℕ
un zero s = 0
un (suc w) s = get_or s 0 0 + 256 * un w (drop 1 s)

-- Whether s begins with these bytes.
unfoldable pub begins : List ℕ → List ℕ → Bool
begins [] s = true
begins (b ∷ bytes) [] = false
begins (b ∷ bytes) (x ∷ s) = eqb x b && begins bytes s
