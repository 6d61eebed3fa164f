-- What the code's own structs stand for in the definitions of the notes.
use Rattle.code_notes_spans.specs.Spans as notes
use Rattle.code_notes_spans.specs.declared.spans.Span.{Span}

abbrev pub meant : Span → notes.Span
meant s = notes.span s.first s.count
