-- `code_notes_thread_rows::thread_rows::from_row` meets its contract: each field as far as its width goes.
use Prim.Native.Nat.{ℕ, ◌%◌, ◌^◌}
use mathlib.Core.Path.{◌≡◌}
use mathlib.Core.Bool.{cond}
use native.Mathlib.Omega.{arith}
use lib.Dec.{eqb}
use lib.ListN.{get_or}
use borrow.Table.Steps.{cases}
use Rattle.spec_notes.specs.Rows.{condition_from, thread_from, thread_widths}
use Rattle.code_notes_entries.proofs.RowFields.{fitted_at}
use Rattle.code_notes_thread_rows.proofs.thread_rows.from_row.Goals as goal

-- an id is cut to a byte as often as one likes
condition_cut : (code x : ℕ) → condition_from code (x % 65536) ≡ condition_from code (x % 256 ^ cond (eqb code 5) 2 1)
unfolding condition_from
condition_cut code x =
    let m : x % 65536 % 256 ≡ x % 256 % 256 = omega arith in
    cases (eqb code 5) (λ e. rw e) (λ e. rw (e, m))

pub returns : goal.returns
unfolding thread_from
returns c =
    let row = c.args.row in
    let code = c.args.code in
    rw (
      fitted_at (thread_widths code) row 0,
      fitted_at (thread_widths code) row 1,
      fitted_at (thread_widths code) row 2,
      fitted_at (thread_widths code) row 3,
      fitted_at (thread_widths code) row 4,
      fitted_at (thread_widths code) row 5,
      c.wake_from.ensures,
      c.word.ensures,
      c.condition_from.ensures,
      condition_cut code (get_or row 2 0),
    )
