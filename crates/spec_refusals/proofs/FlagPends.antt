-- Refusal 6 of a flag's pend in document 02's words: "critical level exactly 1 and unscheduled level 0, else 6" [02 §1].
use Prim.Native.Nat.{ℕ}
use mathlib.Core.Path.{◌≡◌}
use mathlib.Core.Bool.{false, ◌&&◌, and-eq-true_iff}
use mathlib.Core.Logic.{◌↔◌}
use lib.Dec.{eqb}
use borrow.Author.Tests.{eqb-true, not-false}
use Rattle.spec_calls.specs.declared.call.Call.{Call}
use Rattle.spec_refusals.specs.declared.named.Named.{Named}
use Rattle.spec_refusals.specs.Refusals.{blocks_in_region}

-- whoever runs, and whatever the flag is
pub pend_flag_six : (unscheduled critical runner : ℕ) (n : Named) (c : Call) → c.kind ≡ 33
    → (blocks_in_region unscheduled critical runner n c ≡ false) ↔ ((critical ≡ 1) × (unscheduled ≡ 0))
unfolding blocks_in_region
pend_flag_six unscheduled critical runner n c e = (
  λ h. let (u, one) =
      (and-eq-true_iff (eqb unscheduled 0) (eqb critical 1)).0 (not-false (eqb unscheduled 0 && eqb critical 1) (rw e at h)) in
      (eqb-true critical 1 one, eqb-true unscheduled 0 u),
  λ h. rw (e, h.0, h.1),
)
