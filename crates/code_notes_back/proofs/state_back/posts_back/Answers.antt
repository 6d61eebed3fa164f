-- `code_notes_back::state_back::posts_back` meets its contract, field by field.
use mathlib.Core.Path.{ap}
use Rattle.spec_notes.specs.Back.{Filing, posts_back}
use Rattle.code_notes_back.proofs.state_back.posts_back.Goals as goal

pub returns : goal.returns
unfolding posts_back
returns c =
    let e = c.messages_before-m.ensures in
    rw (c.put_back_all.ensures, ap (λ (z : Filing). z.messages) e, ap (λ (z : Filing). z.out) e, ap (λ (z : Filing). z.at) e)
