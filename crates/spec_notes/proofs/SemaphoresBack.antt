-- The semaphores' section, read back.
use Prim.Native.Nat.{ℕ, suc, ◌<◌}
use mathlib.Core.Path.{◌≡◌, refl, sym, ◌∙◌}
use mathlib.Core.Bool.{Bool, false}
use mathlib.Core.List.{List, ◌++◌, map}
use native.Mathlib.Nat.{le_refl}
use native.Mathlib.Omega.{arith}
use lib.ListN.{set, length-map}
use borrow.Author.Tests.{not-false}
use Rattle.base_rows.specs.Entries.{own_in, read_entries}
use Rattle.base_rows.proofs.EntriesRead.{id_back}
use Rattle.spec_kernel.specs.declared.records.Semaphore.{Semaphore}
use Rattle.spec_kernel.specs.declared.records.Kernel.{Kernel}
use Rattle.spec_kernel.specs.Sizes.{semaphore_count}
use Rattle.spec_kernel.specs.Records.{semaphore, no_semaphore}
use Rattle.spec_rules.specs.Rules.{Sized}
use Rattle.spec_calls.specs.declared.call.Call.{Call}
use Rattle.spec_notes.specs.Rows.{semaphore_row, semaphore_widths}
use Rattle.spec_notes.specs.Touched.{younger_semaphore, touched_semaphore}
use Rattle.spec_notes.specs.Predicted.{predicted_semaphore}
use Rattle.spec_notes.specs.Sections.{semaphore_entry, semaphores_section}
use Rattle.spec_notes.specs.Back.{semaphore_read, semaphores_before}
use Rattle.spec_notes.specs.Within.{Within}
use Rattle.spec_notes.proofs.RowsBack.{Fit, field, unused, entry_row, entry_rest}
use Rattle.spec_notes.proofs.RecordsBack.{flag_below, semaphore_back, same_semaphore_lem}
use Rattle.spec_notes.proofs.EntriesBack.{get_or_map, read_part, records_back}

module _ (k : Kernel) (c : Call) (k' : Kernel) (W : Within k) where
  abbrev touched : ℕ → Bool
  touched = touched_semaphore k c k'

  abbrev entry : ℕ → List ℕ
  entry = semaphore_entry c k.semaphores k'.semaphores

  -- what an entry gives
  abbrev step : ℕ → List Semaphore → List Semaphore
  step i a = set a i (semaphore k i)

  fits : (i : ℕ) → Fit semaphore_widths (semaphore_row (semaphore k i)) (predicted_semaphore c (semaphore k' i))
  unfolding predicted_semaphore
  fits i =
      field (λ _. flag_below (semaphore k i).live)
      (field (λ _. W.count i) (field (λ _. W.maximum i) (field (λ _. W.left i) (field (λ _. W.period i) (unused 3)))))

  next : (n i : ℕ) (rest : List ℕ) (a : List Semaphore) → i < 64
      → read_entries (own_in semaphore_widths) (semaphore_read c k'.semaphores) (suc n) (entry i ++ rest) a
      ≡ read_entries (own_in semaphore_widths) (semaphore_read c k'.semaphores) n rest (step i a)
  unfolding read_entries semaphore_read
  next n i rest a b = rw (id_back i 0 0 _ b, entry_rest i 0 0 rest (fits i), entry_row i 0 0 rest (fits i), semaphore_back)

  module _ (Z : Sized k) (Z' : Sized k') where
    untouched : (i : ℕ) → touched i ≡ false → younger_semaphore c (semaphore k' i) ≡ semaphore k i
    unfolding touched_semaphore
    untouched i h = sym (same_semaphore_lem (semaphore k i) (younger_semaphore c (semaphore k' i)) (not-false _ h))

    pub semaphores_back : semaphores_before c k'.semaphores (semaphores_section k c k') ≡ k.semaphores
    unfolding semaphores_before semaphores_section touched_semaphore
    semaphores_back =
        read_part (own_in semaphore_widths) (semaphore_read c k'.semaphores) touched entry step (λ _. refl) next (λ a. a) step
        (λ _ _. refl) _ semaphore_count _ (omega arith) (le_refl _)
        ∙ records_back touched no_semaphore semaphore_count k.semaphores (map (younger_semaphore c) k'.semaphores) Z.semaphores
        (length-map k'.semaphores _ ∙ Z'.semaphores)
        (λ i b e. get_or_map (younger_semaphore c) k'.semaphores i no_semaphore (rw Z'.semaphores b) ∙ untouched i e)
