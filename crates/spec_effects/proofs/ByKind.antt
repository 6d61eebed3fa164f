-- What a call does, by the number of its kind, and how a fact of each kind is one of every accepted call.
use Prim.Native.Nat.{ℕ, zero, suc, ◌+◌, ◌≤◌, ◌<◌}
use mathlib.Core.Path.{◌≡◌, refl, sym, ap, ◌∙◌}
use mathlib.Core.Bool.{◌&&◌}
use mathlib.Core.List.{List, [], ◌∷◌}
use native.Mathlib.Nat.{add-zero, add-suc, suc-add}
use native.Mathlib.Omega.{arith}
use lib.Dec.{ltb, leb}
use lib.ListN.{length, get_or}
use borrow.Author.Tests.{ltb-true, leb-true, not-false}
use Rattle.base_queue.proofs.Lists.{and_both}
use Rattle.spec_kernel.specs.declared.records.Kernel.{Kernel}
use Rattle.spec_moves.proofs.Joins.{past_end}
use Rattle.spec_calls.specs.declared.call.Call.{Call}
use Rattle.spec_calls.specs.Kinds.{last_kind, is_known, unused_are_zero}
use Rattle.spec_refusals.specs.Refusals.{unknown}
use Rattle.proof_rules.proofs.Accepted.{Accepted}
use Rattle.spec_effects.specs.Effects.{Does, effects_of_kinds, nothing, effect}

module _ (k : Kernel) (c : Call) where
  pub does_at : (n : ℕ) → c.kind ≡ n → get_or effects_of_kinds n nothing k c ≡ effect k c
  unfolding effect
  does_at n e = rw e

  -- past the last kind nothing is done
  pub does_past : 35 ≤ c.kind → k ≡ effect k c
  does_past h =
      let z = past_end effects_of_kinds nothing {k = 35} {u = c.kind} refl h in
      ap (λ (d : Does). d k c) (sym z) ∙ does_at c.kind refl

-- ---- a fact of each kind, in the table's order
infixr 5 ◌▸◌
pub data Facts (P : ℕ → Does → Type 0) : ℕ → List Does → Type 0 where
  end : {n : ℕ} → Facts P n []
  ◌▸◌ : {n : ℕ} {x : Does} {l : List Does} → P n x → Facts P (suc n) l → Facts P n (x ∷ l)

fact_at : {P : ℕ → Does → Type 0} {n : ℕ} {l : List Does} → Facts P n l → (i : ℕ) → i < length l → P (n + i) (get_or l i nothing)
fact_at end i b = absurd (omega arith)
fact_at {P} {n} (p ▸ f) zero b = rw (add-zero n) p
fact_at {P} {n} (p ▸ f) (suc i) b = rw (add-suc n i, ← suc-add n i) (fact_at f i (omega arith))

-- what holds of what each kind does holds of the effect; 0 is no kind
pub effect_of : {k : Kernel} {c : Call} → Accepted k c → (P : Kernel → Type 0)
    → ((c.kind ≡ 0 → P k) → Facts (λ n x. c.kind ≡ n → P (x k c)) 0 effects_of_kinds) → P (effect k c)
unfolding effect unknown is_known
effect_of {k} {c} A P facts =
    let b = (and_both (is_known c) (unused_are_zero c) (not-false (is_known c && unused_are_zero c) A.known)).0 in
    let (low, high) = and_both (ltb 0 c.kind) (leb c.kind last_kind) b in
    fact_at (facts (λ e. absurd (omega (arith, ltb-true 0 c.kind low)))) c.kind (omega (arith, leb-true c.kind last_kind high))
    (omega arith)
