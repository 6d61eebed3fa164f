-- An arm of `effect` by the row of its kind, and the kinds that are left where no arm before has the kind.
use Prim.Native.Nat.{ℕ, zero, suc, ◌≤◌}
use mathlib.Core.Path.{◌≡◌, refl, sym, ◌∙◌}
use mathlib.Core.Bool.{Bool, true, false, ◌||◌, ◌&&◌, and-eq-true_iff, false≢true}
use mathlib.Core.List.{List, [], ◌∷◌}
use mathlib.Core.Logic.{◌⊎◌, ⊎_elim, inl, inr}
use native.Mathlib.Omega.{arith}
use lib.Dec.{eqb}
use lib.ListN.{get_or}
use borrow.Author.Tests.{eqb-true, eqb-false}
use borrow.Table.Steps.{cases}
use Rattle.spec_kernel.specs.declared.records.Kernel.{Kernel}
use Rattle.spec_calls.specs.declared.call.Call.{Call}
use Rattle.spec_calls.proofs.KindRuns.{as_kind}
use Rattle.code_events.specs.Signals.{signalled}
use Rattle.spec_effects.specs.Effects.{effects_of_kinds, nothing, effect}
use Rattle.spec_effects.proofs.ByKind.{does_at}

-- ---- the numbers that no arm has
-- n is one of an arm's numbers
abbrev pub OneOf : ℕ → List ℕ → Type 0
OneOf n [] = ⊥
OneOf n (m ∷ []) = n ≡ m
OneOf n (m ∷ x ∷ l) = n ≡ m ⊎ OneOf n (x ∷ l)

-- n is in none of these arms, the last arm first
abbrev pub NoneOf : ℕ → List (List ℕ) → Type 0
NoneOf n [] = Unit
NoneOf n (arm ∷ arms) = NoneOf n arms × (OneOf n arm → ⊥)

-- the arms of 1 to m, each of one number
abbrev pub singles : ℕ → List (List ℕ)
singles zero = []
singles (suc m) = (suc m ∷ []) ∷ singles m

abbrev is_one_of : ℕ → List ℕ → Bool
is_one_of n [] = false
is_one_of n (m ∷ l) = let r = is_one_of n l in eqb n m || r

abbrev is_in : List (List ℕ) → ℕ → Bool
is_in [] n = false
is_in (arm ∷ arms) n = let r = is_in arms n in is_one_of n arm || r

-- each of 1 to m is in an arm
abbrev pub are_in : List (List ℕ) → ℕ → Bool
are_in arms zero = true
are_in arms (suc m) = let r = are_in arms m in is_in arms (suc m) && r

one_of : (n : ℕ) (l : List ℕ) → OneOf n l ⊎ (is_one_of n l ≡ false)
one_of n [] = inr refl
one_of n (m ∷ []) = cases (eqb n m) (λ e. inl (eqb-true n m e)) (λ e. inr (rw e))
one_of n (m ∷ x ∷ l) =
    cases (eqb n m) (λ e. inl (inl (eqb-true n m e))) (λ e. ⊎_elim (λ o. inl (inr o)) (λ f. inr (rw e f)) (one_of n (x ∷ l)))

none_in : (n : ℕ) (arms : List (List ℕ)) → NoneOf n arms → is_in arms n ≡ false
none_in n [] h = refl
none_in n (arm ∷ arms) h = ⊎_elim (λ o. absurd (h.1 o)) (λ f. rw f (none_in n arms h.0)) (one_of n arm)

all_in : (arms : List (List ℕ)) (n m : ℕ) → are_in arms m ≡ true → 1 ≤ n → n ≤ m → is_in arms n ≡ true
all_in arms n zero h low high = absurd (omega arith)
all_in arms n (suc m) h low high =
    let both = (and-eq-true_iff _ _).0 h in
    cases (eqb n (suc m)) (λ e. rw (eqb-true n (suc m) e) both.0)
    (λ e. all_in arms n m both.1 low (omega (arith, eqb-false n (suc m) e)))

-- of 1 to m, `rest` are all that no arm has
pub left_over : (rest : List ℕ) (arms : List (List ℕ)) (n m : ℕ) → are_in (rest ∷ arms) m ≡ true → NoneOf n arms → 1 ≤ n → n ≤ m
    → OneOf n rest
left_over rest arms n m h none low high = ⊎_elim (λ o. o) (λ f. absurd (false≢true (sym (out f) ∙ within))) (one_of n rest)
  where
    out : is_one_of n rest ≡ false → is_in (rest ∷ arms) n ≡ false
    out f = rw f (none_in n arms none)

    within : is_in (rest ∷ arms) n ≡ true
    within = all_in (rest ∷ arms) n m h low high

-- ---- the arms
module _ (k : Kernel) (c : Call) {r : Kernel} where
  -- an arm does what the table has at the number of its kind
  pub row : (n : ℕ) → c.kind ≡ n → r ≡ get_or effects_of_kinds n nothing k c → r ≡ effect k c
  row n e h = h ∙ does_at k c n e

  -- so does the one arm of the signals, which looks at the kind
  signal : (n : ℕ) → signalled k (as_kind c n) ≡ get_or effects_of_kinds n nothing k (as_kind c n)
      → r ≡ signalled k c → c.kind ≡ n → r ≡ effect k c
  signal n h s e = row n e (s ∙ rw e h)

  pub signals : r ≡ signalled k c → OneOf c.kind (20 ∷ 22 ∷ 23 ∷ 29 ∷ 30 ∷ []) → r ≡ effect k c
  signals s =
      ⊎_elim (signal 20 refl s) (⊎_elim (signal 22 refl s) (⊎_elim (signal 23 refl s) (⊎_elim (signal 29 refl s) (signal 30 refl s))))
