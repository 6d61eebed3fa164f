-- Laws on rows: what is written of an old row reads back beside the predicted one, and how many bytes that takes.
use Prim.Native.Nat.{ℕ, zero, suc, ◌+◌, ◌*◌, ◌/◌, ◌%◌, ◌^◌, ◌≤◌, ◌<◌}
use mathlib.Core.Path.{◌≡◌, refl, sym}
use mathlib.Core.List.{List, [], ◌∷◌, ◌++◌, append_assoc}
use mathlib.Core.Bool.{Bool, true, false, cond, not}
use native.Mathlib.Nat.{pow-suc}
use native.Mathlib.Omega.{arith}
use lib.Dec.{eqb}
use lib.Pow.{pow_pos}
use lib.ListN.{length, drop, length-append}
use lib.Seq.{drop_at}
use borrow.Author.Tests.{eqb-true}
use Rattle.base_bytes.specs.Bytes.{le, un}
use Rattle.base_rows.specs.Rows.{flag_of, field_of, flags_of, body_of, first_flagged, row_from, used_by, sum, Fit}
use Rattle.base_bytes.proofs.Numbers.{length_le, un_le}

-- The first field is flagged where it is not as predicted, and behind its flag are the others'.
flags_first : (o p f : ℕ) → (first_flagged (flag_of o p + 2 * f) ≡ not (eqb o p)) × ((flag_of o p + 2 * f) / 2 ≡ f)
flags_first o p f = go (eqb o p)
  where
    go : (b : Bool) → (first_flagged (cond b 0 1 + 2 * f) ≡ not b) × ((cond b 0 1 + 2 * f) / 2 ≡ f)
    go true = let e : (0 + 2 * f) % 2 ≡ 0 = omega arith in (rw e, omega arith)
    go false = let e : (1 + 2 * f) % 2 ≡ 1 = omega arith in (rw e, omega arith)

-- One field: it is short, as long as its flag says, and reads back.
module _ (w o p : ℕ) where
  field_used : length (field_of w o p) ≡ cond (not (eqb o p)) w 0
  field_used = go (eqb o p)
    where
      go : (b : Bool) → length (cond b [] (le w o)) ≡ cond (not b) w 0
      go true = refl
      go false = length_le w o

  field_short : length (field_of w o p) ≤ w
  field_short = go (eqb o p)
    where
      go : (b : Bool) → length (cond b [] (le w o)) ≤ w
      go true = omega arith
      go false = omega (arith, length_le w o)

  field_back : (r : List ℕ) → o < 256 ^ w → cond (not (eqb o p)) (un w (field_of w o p ++ r)) p ≡ o
  field_back r h = go (eqb o p) refl
    where
      go : (b : Bool) → eqb o p ≡ b → cond (not b) (un w (cond b [] (le w o) ++ r)) p ≡ o
      go true e = sym (eqb-true o p e)
      go false e = un_le w o r h

-- So many flags are below that power of two: eight are a byte.
pub flags_small : (k : ℕ) (os ps : List ℕ) → length os ≤ k → flags_of os ps < 2 ^ k
unfolding flags_of
flags_small k [] ps l = pow_pos k
flags_small k (o ∷ os) [] l = pow_pos k
flags_small zero (o ∷ os) (p ∷ ps) l = absurd (omega arith)
flags_small (suc k) (o ∷ os) (p ∷ ps) l = go (eqb o p) (flags_small k os ps (omega arith))
  where
    go : (b : Bool) → flags_of os ps < 2 ^ k → cond b 0 1 + 2 * flags_of os ps < 2 ^ suc k
    go true h = rw (pow-suc 2 k) (omega arith)
    go false h = rw (pow-suc 2 k) (omega arith)

-- It is no longer than the widths together.
pub body_short : (ws os ps : List ℕ) → length (body_of ws os ps) ≤ sum ws
unfolding body_of sum
body_short [] os ps = omega arith
body_short (w ∷ ws) [] ps = omega arith
body_short (w ∷ ws) (o ∷ os) [] = omega arith
body_short (w ∷ ws) (o ∷ os) (p ∷ ps) = rw length-append (omega (arith, field_short w o p, body_short ws os ps))

-- Where nothing is flagged, nothing is used.
used_none : (ws : List ℕ) → used_by ws 0 ≡ 0
unfolding used_by
used_none [] = refl
used_none (w ∷ ws) = rw (used_none ws)

-- The flags alone say how long a body is.
pub used_back : (ws os ps : List ℕ) → length (body_of ws os ps) ≡ used_by ws (flags_of os ps)
unfolding body_of flags_of used_by
used_back [] os ps = refl
used_back (w ∷ ws) [] ps = sym (used_none (w ∷ ws))
used_back (w ∷ ws) (o ∷ os) [] = sym (used_none (w ∷ ws))
used_back (w ∷ ws) (o ∷ os) (p ∷ ps) =
    let f = flags_first o p (flags_of os ps) in
    rw (length-append, field_used w o p, used_back ws os ps, f.0, f.1)

-- Behind a body stands what was written behind it.
pub rest_back : (ws os ps rest : List ℕ) → drop (used_by ws (flags_of os ps)) (body_of ws os ps ++ rest) ≡ rest
rest_back ws os ps rest = drop_at (body_of ws os ps) rest (used_by ws (flags_of os ps)) (used_back ws os ps)

-- A row that fits its widths reads back.
pub row_back : (ws os ps rest : List ℕ) → Fit ws os → length ps ≡ length ws → row_from ws (flags_of os ps) ps (body_of ws os ps ++ rest) ≡ os
unfolding row_from flags_of body_of
row_back [] [] ps rest q e = refl
row_back (w ∷ ws) (o ∷ os) [] rest q e = absurd (omega arith)
row_back (w ∷ ws) (o ∷ os) (p ∷ ps) rest (h, q) e =
    let f = flags_first o p (flags_of os ps) in
    let d = drop_at (field_of w o p) (body_of ws os ps ++ rest) (cond (not (eqb o p)) w 0) (field_used w o p) in
    rw (f.0, f.1, append_assoc, field_back w o p (body_of ws os ps ++ rest) h, d, row_back ws os ps rest q (omega arith))
row_back [] (o ∷ os) ps rest q e = elim q [ ]
row_back (w ∷ ws) [] ps rest q e = elim q [ ]
