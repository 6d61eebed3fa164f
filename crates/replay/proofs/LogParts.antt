-- The part that a call wrote lies between the two used lengths.
use Prim.Native.Nat.{ℕ, ◌-◌, ◌≤◌, ◌<◌}
use mathlib.Core.Path.{◌≡◌, refl}
use mathlib.Core.List.{List, []}
use native.Mathlib.Omega.{arith}
use lib.Dec.{eqb}
use lib.ListN.{length, take, drop}
use borrow.Table.Steps.{cases}
use Rattle.base_bytes.specs.Logs.{room, noted, ends, shown}
use Rattle.base_bytes.proofs.Appending.{shown_between, shown_still, ends_moved}
use Rattle.spec_kernel.specs.declared.records.Kernel.{Kernel}
use Rattle.spec_rules.specs.Tests.{keeps_rules}
use Rattle.spec_calls.specs.Calls.{call_of}
use Rattle.spec_refusals.specs.Refusals.{number_of}
use Rattle.spec_answers.specs.Logs.{note_for, recorded, log_after, part_after, called_with, log_called, part_called}

module _ (k : Kernel) (bytes log : List ℕ) (used : ℕ) where
  -- either a note was written, or nothing
  wrote : (P : ℕ → List ℕ → List ℕ → Type 0)
      → P (ends log used (note_for k bytes)) (noted log used (note_for k bytes)) (shown log used (note_for k bytes)) → P used log []
      → P (called_with k bytes log used).used (log_called k bytes log used) (part_called k bytes log used)
  unfolding called_with log_called part_called recorded log_after part_after ends
  wrote P note none =
      cases (keeps_rules k)
      (λ r. cases (eqb (number_of k (call_of bytes)) 0)
      (λ n. cases (room log used (note_for k bytes)) (λ e. rw (r, n, e) (rw e at note)) (λ e. rw (r, n, e) (rw e at note)))
      (λ n. rw (r, n) none)) (λ r. rw r none)

  pub part_between : take ((called_with k bytes log used).used - used) (drop used (log_called k bytes log used)) ≡ part_called k bytes log used
  part_between =
      wrote (λ u l p. take (u - used) (drop used l) ≡ p) (shown_between log used (note_for k bytes))
      (let e : used - used ≡ 0 = omega arith in rw e)

  pub part_still : (called_with k bytes log used).used ≤ used → part_called k bytes log used ≡ []
  part_still = wrote (λ u l p. u ≤ used → p ≡ []) (shown_still log used (note_for k bytes)) (λ _. refl)

  pub part_moved : used < (called_with k bytes log used).used → (called_with k bytes log used).used ≤ length log
  part_moved = wrote (λ u l p. used < u → u ≤ length log) (ends_moved log used (note_for k bytes)) (λ h. absurd (omega arith))
