-- Laws on the state before: its levels and its runner are read, and it is what the rest makes with them.
use Prim.Native.Nat.{ℕ, ◌≤◌, ◌<◌}
use mathlib.Core.Path.{◌≡◌, refl}
use mathlib.Core.Bool.{true, false, ◌&&◌}
use mathlib.Core.List.{List}
use lib.Dec.{ltb}
use lib.ListN.{get_or}
use borrow.Author.Tests.{lt-ltb, le-ltb}
use Rattle.base_rows.specs.Rows.{cut}
use Rattle.spec_kernel.specs.declared.records.Kernel.{Kernel}
use Rattle.spec_calls.specs.declared.call.Call.{Call}
use Rattle.spec_moves.specs.States.{scheduled}
use Rattle.spec_notes.specs.Rows.{scheduler_widths}
use Rattle.spec_notes.specs.Notes.{scheduler_in}
use Rattle.spec_notes.specs.Back.{levels_before, before_at, state_before}
use Rattle.spec_notes.specs.Undoes.{levels_fit}
use Rattle.code_notes_back.specs.Restored.{back_of}

module _ (c : Call) (k : Kernel) (x : List (List ℕ)) where
  abbrev level : ℕ → ℕ
  level i = get_or (levels_before c k.unscheduled k.critical k.runner (scheduler_in x)) i 0

  fits_at : levels_fit (state_before c k x) ≡ (ltb (level 0) 256 && ltb (level 1) 256)
  unfolding levels_fit state_before scheduled before_at
  fits_at = refl

  -- both levels are bytes, or one isn't
  pub back_fits : level 0 < 256 → level 1 < 256
      → back_of c k x ≡ record { fits = true; kernel = scheduled (before_at c k x (level 0) (level 1) (level 2)) }
  unfolding back_of state_before
  back_fits p q = rw (fits_at, lt-ltb (level 0) 256 p, lt-ltb (level 1) 256 q)

  pub back_first : 256 ≤ level 0 → back_of c k x ≡ record { fits = false; kernel = k }
  unfolding back_of
  back_first p = rw (fits_at, le-ltb (level 0) 256 p)

  pub back_second : level 0 < 256 → 256 ≤ level 1 → back_of c k x ≡ record { fits = false; kernel = k }
  unfolding back_of
  back_second p q = rw (fits_at, lt-ltb (level 0) 256 p, le-ltb (level 1) 256 q)

-- no width is above four
pub cut_scheduler : cut scheduler_widths ≡ scheduler_widths
unfolding cut
cut_scheduler = refl
