use Prim.Native.Nat.{min}
use mathlib.Core.Path.{◌≡◌}
use Rattle.spec_notes.specs.Notes.{longest_note}
use Rattle.code_notes.proofs.note.put_end.Goals as goal

pub returns : goal.returns
returns c =
    let l : c.min.result ≡ min c.args.at longest_note =
    c.min.ensures in
    rw (← l) c.put_number.ensures
