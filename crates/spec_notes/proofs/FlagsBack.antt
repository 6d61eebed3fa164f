-- The flags' section, read back.
use Prim.Native.Nat.{ℕ, ◌<◌}
use mathlib.Core.Path.{◌≡◌, sym}
use mathlib.Core.Bool.{◌&&◌, and-eq-true_iff}
use mathlib.Core.Logic.{⊎_elim}
use lib.Dec.{eqb, ltb}
use borrow.Author.Tests.{eqb-true, eqb-false, ltb-true}
use borrow.Table.Steps.{cases}
use Rattle.base_bits.proofs.Laws.{with_below}
use Rattle.spec_kernel.specs.declared.records.Kernel.{Kernel}
use Rattle.spec_kernel.specs.Sizes.{flag_count}
use Rattle.spec_calls.specs.declared.call.Call.{Call}
use Rattle.spec_refusals.specs.Refusals.{is}
use Rattle.spec_notes.specs.Predicted.{predicted_flags}
use Rattle.spec_notes.specs.Sections.{flags_section}
use Rattle.spec_notes.specs.Back.{flags_before}
use Rattle.spec_notes.specs.LeftAlone.{LeftAlone}

-- what is predicted is sixteen bits, as the flags are
pub predicted_small : (c : Call) (flags : ℕ) → flags < 65536 → predicted_flags c flags < 65536
unfolding predicted_flags
predicted_small c flags b =
    cases (is c 32 && ltb c.a flag_count)
    (λ e. let a = ltb-true c.a flag_count ((and-eq-true_iff (is c 32) (ltb c.a flag_count)).0 e).1 in
    rw e (with_below flags c.a {n = flag_count} a b))
    (λ e. rw e b)

-- as predicted there is no byte; else the flag that was made is out again
pub flags_back : (k : Kernel) (c : Call) (k' : Kernel) → LeftAlone k c k' → flags_before c k'.flags (flags_section k c k') ≡ k.flags
unfolding flags_before flags_section
flags_back k c k' F =
    cases (eqb k.flags (predicted_flags c k'.flags))
    (λ e. rw e (sym (eqb-true k.flags (predicted_flags c k'.flags) e)))
    (λ e. rw e (⊎_elim (λ is. absurd (eqb-false k.flags (predicted_flags c k'.flags) e is)) sym F.flags))
