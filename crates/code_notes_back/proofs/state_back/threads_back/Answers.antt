-- `code_notes_back::state_back::threads_back` meets its contract, field by field.
use mathlib.Core.Path.{ap}
use Rattle.spec_notes.specs.Back.{Threading, threads_back}
use Rattle.code_notes_back.proofs.state_back.threads_back.Goals as goal

pub returns : goal.returns
unfolding threads_back
returns c =
    let e = c.threads_before-t.ensures in
    rw (
      c.put_back_all.ensures,
      c.put_back_all-2.ensures,
      ap (λ (z : Threading). z.threads) e,
      ap (λ (z : Threading). z.out) e,
      ap (λ (z : Threading). z.at) e,
      ap (λ (z : Threading). z.due) e,
    )
