-- `code_notes_events::event_rows::from_row` meets its contract: each field is cut to its width.
use Rattle.spec_notes.specs.Rows.{event_widths, event_from}
use Rattle.code_notes_entries.proofs.RowFields.{fitted_at}
use Rattle.code_notes_events.proofs.event_rows.from_row.Goals as goal

pub returns : goal.returns
unfolding event_from
returns c =
    rw (
      c.word.ensures,
      c.word-2.ensures,
      fitted_at event_widths c.args.row 0,
      fitted_at event_widths c.args.row 1,
      fitted_at event_widths c.args.row 2,
    )
