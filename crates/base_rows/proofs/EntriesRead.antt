-- Laws on entries: what is written reads back, an entry is as long as its parts, and entries are read one after the other.
use Prim.Native.Nat.{ℕ, zero, suc, ◌+◌, ◌*◌, ◌-◌, ◌/◌, ◌%◌, ◌≤◌, ◌<◌, min}
use mathlib.Core.Path.{◌≡◌, refl, sym, ◌∙◌}
use mathlib.Core.List.{List, [], ◌∷◌, ◌++◌}
use mathlib.Core.Bool.{Bool, true, false, cond, not}
use native.Mathlib.Nat.{le_refl}
use native.Mathlib.Omega.{arith}
use lib.Dec.{eqb}
use lib.ListN.{length, get_or, take, drop, length-append, length-drop, drop_of_length-le}
use lib.Seq.{drop-drop, take_all}
use borrow.Author.Tests.{eqb-true}
use borrow.Table.Steps.{cases}
use Rattle.base_rows.specs.Rows.{flag_of, flags_of, body_of, first_flagged, taken, sum}
use Rattle.base_rows.specs.Entries.{unless_predicted, code_noted, head_of, tail_of, id_of, fields_from, code_in, flags_in}
use Rattle.base_rows.specs.Entries.{read_entries}
use Rattle.base_bytes.proofs.Turns.{drop_least}
use Rattle.base_rows.proofs.Codec.{body_short}
use Rattle.base_rows.proofs.Fitted.{Bytes, drop_bytes}

-- ---- the head
-- a flag is a bit
pub flag_small : (o p : ℕ) → flag_of o p ≤ 1
flag_small o p = cases (eqb o p) (λ e. rw e (omega arith)) (λ e. rw e (omega arith))

pub taken_small : (w flags : ℕ) → taken w flags ≤ w
taken_small w flags = cases (first_flagged flags) (λ e. rw e (omega arith)) (λ e. rw e (omega arith))

pub fields_near : (head : ℕ) → fields_from head ≤ 2
unfolding fields_from
fields_near head = omega (arith, taken_small 1 (head / 64), taken_small 1 (head / 128))

module _ (id code told flags : ℕ) where
  pub id_back : id < 64 → id_of (head_of id code told flags) ≡ id
  unfolding id_of head_of
  id_back h = omega arith

  code_said : first_flagged (head_of id code told flags / 64) ≡ not (eqb code told)
  unfolding head_of
  code_said = go (eqb code told) (eqb flags 0)
    where
      go : (a b : Bool) → first_flagged ((id % 64 + 64 * cond a 0 1 + 128 * cond b 0 1) / 64) ≡ not a
      go true true = let e : (id % 64 + 64 * 0 + 128 * 0) / 64 % 2 ≡ 0 = omega arith in rw e
      go true false = let e : (id % 64 + 64 * 0 + 128 * 1) / 64 % 2 ≡ 0 = omega arith in rw e
      go false true = let e : (id % 64 + 64 * 1 + 128 * 0) / 64 % 2 ≡ 1 = omega arith in rw e
      go false false = let e : (id % 64 + 64 * 1 + 128 * 1) / 64 % 2 ≡ 1 = omega arith in rw e

  flags_said : first_flagged (head_of id code told flags / 128) ≡ not (eqb flags 0)
  unfolding head_of
  flags_said = go (eqb code told) (eqb flags 0)
    where
      go : (a b : Bool) → first_flagged ((id % 64 + 64 * cond a 0 1 + 128 * cond b 0 1) / 128) ≡ not b
      go true true = let e : (id % 64 + 64 * 0 + 128 * 0) / 128 % 2 ≡ 0 = omega arith in rw e
      go true false = let e : (id % 64 + 64 * 0 + 128 * 1) / 128 % 2 ≡ 1 = omega arith in rw e
      go false true = let e : (id % 64 + 64 * 1 + 128 * 0) / 128 % 2 ≡ 0 = omega arith in rw e
      go false false = let e : (id % 64 + 64 * 1 + 128 * 1) / 128 % 2 ≡ 1 = omega arith in rw e

-- no flag, no fields
pub body_none : (ws os ps : List ℕ) → flags_of os ps ≡ 0 → body_of ws os ps ≡ []
unfolding flags_of body_of
body_none [] os ps z = refl
body_none (w ∷ ws) [] ps z = refl
body_none (w ∷ ws) (o ∷ os) [] z = refl
body_none (w ∷ ws) (o ∷ os) (p ∷ ps) z =
    cases (eqb o p) (λ e. rw e (body_none ws os ps (omega (arith, rw e at z)))) (λ e. absurd (omega (arith, rw e at z)))

-- ---- an entry, and what is written behind it
module _ (ws : List ℕ) (id code told : ℕ) (old predicted rest : List ℕ) where
  abbrev flags : ℕ
  flags = flags_of old predicted

  abbrev head : ℕ
  head = head_of id code told flags

  abbrev tail : List ℕ
  tail = tail_of ws code told old predicted

  pub code_back : code_in told head (tail ++ rest) ≡ code
  unfolding code_in tail_of
  code_back =
      rw (code_said id code told flags)
      (cases (eqb code told) (λ e. rw e (sym (eqb-true code told e))) (λ e. rw e))

  pub flags_back : flags_in head (tail ++ rest) ≡ flags
  unfolding flags_in tail_of
  flags_back =
      rw (code_said id code told flags, flags_said id code told flags)
      (cases (eqb flags 0) (λ f. rw f (sym (eqb-true flags 0 f)))
      (λ f. cases (eqb code told) (λ e. rw (e, f)) (λ e. rw (e, f))))

  pub fields_back : drop (fields_from head) (tail ++ rest) ≡ body_of ws old predicted ++ rest
  unfolding fields_from tail_of
  fields_back =
      rw (code_said id code told flags, flags_said id code told flags)
      (cases (eqb flags 0)
      (λ f. let z = body_none ws old predicted (eqb-true flags 0 f) in
      cases (eqb code told) (λ e. rw (e, f, z)) (λ e. rw (e, f, z)))
      (λ f. cases (eqb code told) (λ e. rw (e, f)) (λ e. rw (e, f))))

-- ---- how long an entry is
code_short : (code told : ℕ) → length (code_noted code told) ≤ 1
code_short code told = cases (eqb code told) (λ e. rw e (omega arith)) (λ e. rw e (omega arith))

pub unless_short : (ws old predicted : List ℕ) (n : ℕ) → length (body_of ws old predicted) ≤ n
    → length (unless_predicted ws old predicted) ≤ 1 + n
unless_short ws old predicted n h =
    cases (eqb (flags_of old predicted) 0) (λ e. rw e (omega arith)) (λ e. rw e (omega arith))

-- with a code, without one, and where its fields take no more than n
pub tail_short : (ws : List ℕ) (code told : ℕ) (old predicted : List ℕ) → length (tail_of ws code told old predicted) ≤ 2 + sum ws
unfolding tail_of
tail_short ws code told old predicted =
    rw length-append
    (omega (arith, code_short code told, unless_short ws old predicted (sum ws) (body_short ws old predicted)))

pub fields_short : (ws old predicted : List ℕ) (n : ℕ) → length (body_of ws old predicted) ≤ n
    → length (tail_of ws 0 0 old predicted) ≤ 1 + n
unfolding tail_of
fields_short ws old predicted n h = unless_short ws old predicted n h

-- ---- entries, one after the other
-- all that stands from p on
pub from_there : (s : List ℕ) (p : ℕ) → take (length s - p) (drop p s) ≡ drop p s
from_there s p = take_all (length s - p) (drop p s) (simp length-drop (le_refl _))

module _ {A : Type 0} (own : ℕ → List ℕ → ℕ) (does : ℕ → List ℕ → A → A) where
  -- no entry is empty, so as many steps as there are bytes are enough
  pub enough : (n m : ℕ) (s : List ℕ) (a : A) → length s ≤ n → length s ≤ m → read_entries own does n s a ≡ read_entries own does m s a
  unfolding read_entries
  enough zero zero s a p q = refl
  enough zero (suc m) [] a p q = refl
  enough zero (suc m) (h ∷ s) a p q = absurd (omega arith)
  enough (suc n) zero [] a p q = refl
  enough (suc n) zero (h ∷ s) a p q = absurd (omega arith)
  enough (suc n) (suc m) [] a p q = refl
  enough (suc n) (suc m) (h ∷ s) a p q = enough n m _ _ (simp length-drop (omega arith)) (simp length-drop (omega arith))

  -- all of them, from a place on
  abbrev pub entries_from : List ℕ → ℕ → A → A
  entries_from s p a = read_entries own does (length (drop p s)) (drop p s) a

  -- the first of these bytes' entries, then the others; `size` is how many bytes it has, but no more than there are
  first_entry : (e : List ℕ) (a : A) → 0 < length e
      → read_entries own does (length e) e a ≡ entries_from e (1 + own (get_or e 0 0) (drop 1 e)) (does (get_or e 0 0) (drop 1 e) a)
  unfolding read_entries
  first_entry (h ∷ s) a b =
      let t = drop (own h s) s in
      let e : 1 + own h s ≡ suc (own h s) = omega arith in
      rw e (enough (length s) (length t) t (does h s a) (simp length-drop (omega arith)) (omega arith))
  first_entry [] a b = elim b [ ]

  pub entries_turn : (s : List ℕ) (p size : ℕ) (a : A) → p < length s
      → size ≡ min (1 + own (get_or (drop p s) 0 0) (drop 1 (drop p s))) (length (drop p s))
      → entries_from s p a ≡ entries_from s (p + size) (does (get_or (drop p s) 0 0) (drop 1 (drop p s)) a)
  entries_turn s p size a b e =
      let t = drop p s in
      let d : drop (p + size) s ≡ drop (1 + own (get_or t 0 0) (drop 1 t)) t = sym (drop-drop size p s) ∙ rw e (drop_least t _) in
      first_entry t a (simp length-drop (omega arith)) ∙ rw d

  pub entries_end : (s : List ℕ) (p : ℕ) (a : A) → length s ≤ p → entries_from s p a ≡ a
  unfolding read_entries
  entries_end s p a h = rw (drop_of_length-le s h)

  -- what each of them keeps, whatever it has, and where it has bytes
  pub entries_hold : (P : A → Type 0) → ((h : ℕ) (s : List ℕ) (a : A) → P a → P (does h s a))
      → (n : ℕ) (s : List ℕ) (a : A) → P a → P (read_entries own does n s a)
  unfolding read_entries
  entries_hold P k zero s a p = p
  entries_hold P k (suc n) [] a p = p
  entries_hold P k (suc n) (x ∷ s) a p = entries_hold P k n _ _ (k x s a p)

  pub entries_keep : (P : A → Type 0) → ((h : ℕ) (s : List ℕ) (a : A) → Bytes s → P a → P (does h s a))
      → (n : ℕ) (s : List ℕ) (a : A) → Bytes s → P a → P (read_entries own does n s a)
  unfolding read_entries
  entries_keep P k zero s a h p = p
  entries_keep P k (suc n) [] a h p = p
  entries_keep P k (suc n) (x ∷ s) a h p =
      let h' : Bytes s = λ i. h (suc i) in
      entries_keep P k n _ _ (drop_bytes (own x s) s h') (k x s a h' p)
