-- A call without a log on a state that keeps the rules: it is accepted or refused.
use Prim.Native.Nat.{ℕ}
use mathlib.Core.Path.{◌≡◌, refl, sym}
use mathlib.Core.Bool.{true}
use mathlib.Core.List.{List}
use lib.Dec.{eqb}
use borrow.Author.Tests.{eqb-true, eqb-false}
use borrow.Table.Steps.{cases}
use Rattle.spec_kernel.specs.declared.records.Kernel.{Kernel}
use Rattle.spec_rules.specs.Tests.{keeps_rules}
use Rattle.spec_calls.specs.Calls.{call_of}
use Rattle.spec_refusals.specs.Refusals.{number_of}
use Rattle.spec_answers.specs.Steps.{Stepped, accepted, refused, step, called}

module _ (k : Kernel) (bytes : List ℕ) (h : keeps_rules k ≡ true) (P : Stepped → Type 0) where
  pub either : (number_of k (call_of bytes) ≡ 0 → P (accepted k (call_of bytes)))
      → ((number_of k (call_of bytes) ≡ 0 → ⊥) → P (refused (number_of k (call_of bytes)) k)) → P (called k bytes)
  unfolding called step
  either a r =
      let n = number_of k (call_of bytes) in
      cases (eqb n 0) (λ e. rw (h, e) (a (eqb-true n 0 e))) (λ e. rw (h, e) (r (eqb-false n 0 e)))

pub number_is : (k : Kernel) (bytes : List ℕ) → keeps_rules k ≡ true → (called k bytes).answer.number ≡ number_of k (call_of bytes)
number_is k bytes h = either k bytes h (λ s. s.answer.number ≡ number_of k (call_of bytes)) (λ e. sym e) (λ _. refl)
