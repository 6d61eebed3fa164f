-- The number and the value of a call, from what is looked up of it once.
use Prim.Native.Nat.{ℕ}
use mathlib.Core.Path.{◌≡◌, ap, ◌∙◌}
use Rattle.spec_kernel.specs.declared.records.Kernel.{Kernel}
use Rattle.spec_calls.specs.declared.call.Call.{Call}
use Rattle.spec_refusals.specs.declared.named.Named.{Named}
use Rattle.spec_refusals.specs.Named.{value_of, named}
use Rattle.spec_refusals.specs.Refusals.{number_from, number_of}

-- x is the call as the code has it, y as the definitions have it
module _ (k : Kernel) (x y : Call) (n : Named) (looked : n ≡ named k x) (same : x ≡ y) where
  pub number_by : {r : ℕ} → r ≡ number_from k.unscheduled k.critical k.runner n x → r ≡ number_of k y
  unfolding number_from number_of
  number_by e = e ∙ ap (λ m. number_from k.unscheduled k.critical k.runner m x) looked ∙ ap (number_of k) same

  pub value_by : n.found ≡ value_of k y
  unfolding named
  value_by = ap (λ m. m.found) looked ∙ ap (value_of k) same
