-- The entries of a whole table are those of a part of it that has everybody who is touched.
use Prim.Native.Nat.{ℕ, zero, suc, ◌+◌, ◌≤◌, ◌<◌}
use mathlib.Core.Path.{◌≡◌, refl, sym}
use mathlib.Core.Bool.{Bool, true}
use mathlib.Core.List.{List}
use native.Mathlib.Omega.{arith}
use lib.Dec.{eqb, ltb}
use borrow.Author.Tests.{eqb-true, eqb-false, ltb-true, ltb-false}
use borrow.Table.Steps.{cases}
use Rattle.spec_notes.specs.Sections.{entries_from}
use Rattle.spec_notes.proofs.EntriesShort.{entries_none}
use Rattle.code_notes_spans.specs.Spans.{Span, span, alone}

-- who is touched of n ids lies in a span: it has all of them, or at most one is touched, or nobody is
pub data Part (touched : ℕ → Bool) (n : ℕ) : Span → Type 0 where
  whole : Part touched n (span 0 n)
  lone : (x : ℕ) → ((i : ℕ) → touched i ≡ true → i ≡ x) → Part touched n (alone n x)
  none : ((i : ℕ) → touched i ≡ true → ⊥) → Part touched n (span 0 0)

module _ (touched : ℕ → Bool) (entry : ℕ → List ℕ) where
  module _ (x : ℕ) (only : (i : ℕ) → touched i ≡ true → i ≡ x) where
    entries_lone : (i n : ℕ) → i ≤ x → x < i + n → entries_from touched entry i n ≡ entries_from touched entry x 1
    entries_lone i zero a b = absurd (omega arith)
    entries_lone i (suc n) a b =
        cases (eqb i x)
        (λ e. rw (eqb-true i x e, entries_none touched entry (suc x) n (λ j a _ t. omega (arith, only j t))))
        (λ e. let ne = eqb-false i x e in
        let r = entries_lone (suc i) n (omega arith) (omega arith) in
        cases (touched i) (λ t. absurd (ne (only i t))) (λ t. rw t r))

pub part_entries : {touched : ℕ → Bool} {n : ℕ} {s : Span} → Part touched n s → (entry : ℕ → List ℕ)
    → entries_from touched entry s.first s.count ≡ entries_from touched entry 0 n
part_entries whole entry = refl
part_entries {touched} {n} (lone x h) entry =
    cases (ltb x n)
    (λ e. let b = ltb-true x n e in rw e (sym (entries_lone touched entry x h 0 n (omega arith) (omega arith))))
    (λ e. let b = ltb-false x n e in rw e (sym (entries_none touched entry 0 n (λ j _ a t. omega (arith, h j t)))))
part_entries {touched} {n} (none h) entry = sym (entries_none touched entry 0 n (λ j _ _. h j))
