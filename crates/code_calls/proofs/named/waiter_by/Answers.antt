-- `code_calls::named::waiter_by` meets its contract: the first at home is the first of the queue.
use mathlib.Core.Path.{◌≡◌}
use mathlib.Core.Bool.{true}
use borrow.Author.Rules.{rules}
use Rattle.code_kernel_find.specs.AtHome.{first_at_home}
use Rattle.spec_calls.specs.declared.kinds.Which.TheVariants.{Waiter}
use Rattle.spec_calls.specs.Kinds.{is_which}
use Rattle.spec_refusals.specs.Named.{waiter_by}
use Rattle.code_calls.proofs.named.waiter_by.Goals as goal

pub returns-then-eq : goal.returns-then-eq
unfolding waiter_by first_at_home
returns-then-eq c =
    let r = c.args.r in
    let t : is_which r.row.thread Waiter ≡ true = search rules in
    rw (rw r.is_its at t) (rw c.home_by.ensures at c.first_at_home.ensures)
