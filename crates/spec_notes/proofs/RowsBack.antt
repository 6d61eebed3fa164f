-- A row, written as the flags and the fields that aren't as predicted, reads back.
use Prim.Native.Nat.{ℕ, zero, suc, ◌+◌, ◌*◌, ◌/◌, ◌%◌, ◌^◌, ◌<◌}
use mathlib.Core.Path.{◌≡◌, refl, sym, ◌∙◌}
use mathlib.Core.Bool.{false}
use mathlib.Core.List.{List, [], ◌∷◌, ◌++◌, append_assoc}
use native.Mathlib.Omega.{arith}
use lib.Dec.{eqb}
use lib.ListN.{length, drop, replicate, length-append}
use lib.Seq.{drop-drop, drop-append_seam}
use borrow.Author.Tests.{eqb-true}
use borrow.Table.Steps.{cases}
use Rattle.base_bytes.proofs.Numbers.{length_le, drop_le, un_le}
use Rattle.base_rows.specs.Rows.{flags_of, body_of, used_by, row_from}
use Rattle.base_rows.specs.Entries.{head_of, tail_of, fields_from, row_in, own_in}
use Rattle.base_rows.proofs.EntriesRead.{flags_back, fields_back}

-- ---- a row
-- widths, the old row and the predicted one: an old field that isn't as predicted fits its width
pub data Fit : List ℕ → List ℕ → List ℕ → Type 0 where
  none : Fit [] [] []
  field : {w o p : ℕ} {ws os ps : List ℕ} → (eqb o p ≡ false → o < 256 ^ w) → Fit ws os ps → Fit (w ∷ ws) (o ∷ os) (p ∷ ps)

-- fields that a kind of record doesn't have
pub unused : (n : ℕ) → Fit (replicate n 0) (replicate n 0) (replicate n 0)
unused zero = none
unused (suc n) = field {w = 0} {o = 0} (λ _. omega arith) (unused n)

-- the lowest flag and the others
even : (f : ℕ) → ((0 + 2 * f) % 2 ≡ 0) × ((0 + 2 * f) / 2 ≡ f)
even f = omega arith

odd : (f : ℕ) → ((1 + 2 * f) % 2 ≡ 1) × ((1 + 2 * f) / 2 ≡ f)
odd f = omega arith

pub row_back : {ws os ps : List ℕ} (r : List ℕ) → Fit ws os ps → row_from ws (flags_of os ps) ps (body_of ws os ps ++ r) ≡ os
unfolding row_from flags_of body_of
row_back r none = refl
row_back r (field {w} {o} {p} {ws} {os} {ps} h t) =
    let (z, f) = even (flags_of os ps) in
    let (z', f') = odd (flags_of os ps) in
    cases (eqb o p) (λ e. rw (e, z, f, row_back r t, eqb-true o p e))
    (λ e. rw (e, z', f', append_assoc, un_le w o (body_of ws os ps ++ r) (h e), drop_le w o, row_back r t))

-- the flags say how many bytes the fields take
used_back : {ws os ps : List ℕ} → Fit ws os ps → used_by ws (flags_of os ps) ≡ length (body_of ws os ps)
unfolding used_by flags_of body_of
used_back none = refl
used_back (field {w} {o} {p} {ws} {os} {ps} h t) =
    let (z, f) = even (flags_of os ps) in
    let (z', f') = odd (flags_of os ps) in
    cases (eqb o p) (λ e. rw (e, z, f, used_back t) (omega arith)) (λ e. rw (e, z', f', length-append, length_le, used_back t))

-- an entry reads back, and behind it stands what was written behind it
module _ {ws os ps : List ℕ} (id code told : ℕ) (r : List ℕ) (t : Fit ws os ps) where
  abbrev head : ℕ
  head = head_of id code told (flags_of os ps)

  abbrev behind : List ℕ
  behind = tail_of ws code told os ps ++ r

  pub entry_row : row_in ws ps head behind ≡ os
  unfolding row_in
  entry_row = rw (flags_back ws id code told os ps r, fields_back ws id code told os ps r) (row_back r t)

  pub entry_rest : drop (own_in ws head behind) behind ≡ r
  unfolding own_in
  entry_rest =
      rw (flags_back ws id code told os ps r)
      (sym (drop-drop (used_by ws (flags_of os ps)) (fields_from head) behind)
      ∙ rw (fields_back ws id code told os ps r, used_back t) (drop-append_seam (body_of ws os ps) r))
