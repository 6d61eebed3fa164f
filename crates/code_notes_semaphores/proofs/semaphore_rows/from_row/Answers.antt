-- `code_notes_semaphores::semaphore_rows::from_row` meets its contract: each field is cut to its width.
use Rattle.spec_notes.specs.Rows.{semaphore_widths, semaphore_from}
use Rattle.code_notes_entries.proofs.RowFields.{fitted_at}
use Rattle.code_notes_semaphores.proofs.semaphore_rows.from_row.Goals as goal

pub returns : goal.returns
unfolding semaphore_from
returns c =
    rw (
      c.word.ensures,
      c.word-2.ensures,
      fitted_at semaphore_widths c.args.row 0,
      fitted_at semaphore_widths c.args.row 1,
      fitted_at semaphore_widths c.args.row 2,
      fitted_at semaphore_widths c.args.row 3,
      fitted_at semaphore_widths c.args.row 4,
    )
