-- `code_notes_back::state_back::state_before` meets its contract: levels that aren't bytes are told before anything is put back.
use Prim.Native.Nat.{ℕ, ◌≤◌, ◌<◌}
use mathlib.Core.Path.{◌≡◌, sym, ◌∙◌}
use mathlib.Core.List.{List}
use native.Mathlib.Omega.{arith}
use lib.ListN.{get_or}
use Rattle.spec_notes.specs.Notes.{section_count, scheduler_in}
use Rattle.spec_notes.specs.Frames.{sections_at}
use Rattle.spec_notes.specs.Back.{levels_before}
use Rattle.code_notes_back.proofs.Restoring.{back_fits, back_first, back_second}
use Rattle.code_notes_back.proofs.state_back.state_before.Goals as goal
use Rattle.code_notes_back.proofs.state_back.state_before.Goals.{After-levels_before-row, then-u-gt255-via-then-u-gt255, then-u-gt255-via-else-u-gt255+then-v-gt255}

-- the sections, and the row that is read of the first
abbrev parts : After-levels_before-row → List (List ℕ)
parts c = sections_at section_count c.args.s.now

levels : (c : After-levels_before-row) → let a = c.args in
    c.levels_before-row.result.fields ≡ levels_before a.c a.k.unscheduled a.k.critical a.k.runner (scheduler_in (parts c))
levels c = c.levels_before-row.ensures.0 ∙ rw c.section_of.ensures

pub returns-then-u-gt255 : goal.returns-then-u-gt255
returns-then-u-gt255 c =
    let r = (goal.at.returns-then-u-gt255 c).After-levels_before-row in
    let a = c.args in
    let row : List ℕ = c.levels_before-row.result.fields in
    elim c.then-u-gt255.branch [
      | then-u-gt255-via-then-u-gt255 w ↦
          let h : 256 ≤ get_or row 0 0 = omega (arith, w.if-u-gt255.true) in
          sym (back_first a.c a.k (parts r) (rw (levels r) at h))
      | then-u-gt255-via-else-u-gt255+then-v-gt255 w ↦
          let g : get_or row 0 0 < 256 = omega (arith, w.if-u-gt255.false) in
          let h : 256 ≤ get_or row 1 0 = omega (arith, w.if-v-gt255.true) in
          sym (back_second a.c a.k (parts r) (rw (levels r) at g) (rw (levels r) at h))
    ]

pub returns : goal.returns
returns c =
    let r = (goal.at.returns c).After-levels_before-row in
    let a = c.args in
    let row : List ℕ = c.levels_before-row.result.fields in
    let g : get_or row 0 0 < 256 = omega (arith, c.if-u-gt255.false) in
    let h : get_or row 1 0 < 256 = omega (arith, c.if-v-gt255.false) in
    rw (c.scheduled.ensures, c.before_at-old.ensures, levels r)
    (sym (back_fits a.c a.k (parts r) (rw (levels r) at g) (rw (levels r) at h)))
