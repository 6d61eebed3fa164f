-- `code_events::changed` meets its contract: by the kind.
use mathlib.Core.Logic.{⊎_elim, inl, inr}
use borrow.Author.Tests.{ne_eqb}
use Rattle.spec_events.specs.Events.{set_bit, clear_bit}
use Rattle.code_events.proofs.changed.Goals as goal

pub returns-in-22 : goal.returns-in-22
unfolding set_bit
returns-in-22 c = rw c.with_bit.ensures (⊎_elim (λ e. rw e) (λ e. rw e) c.in-22.is)

pub returns-in_default : goal.returns-in_default
unfolding clear_bit
returns-in_default c =
    let r = c.in_default.in_default-own.rest in
    rw (c.without_bit.ensures, ne_eqb _ 20 r.0.1, ne_eqb _ 22 (λ e. r.1 (inl e)), ne_eqb _ 29 (λ e. r.1 (inr e)))
