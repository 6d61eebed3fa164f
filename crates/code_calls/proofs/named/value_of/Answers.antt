-- `code_calls::named::value_of` meets its contract: no column says new or taken.
use mathlib.Core.Path.{◌≡◌}
use mathlib.Core.Bool.{false}
use borrow.Author.Rules.{rules}
use Rattle.spec_calls.specs.declared.kinds.Which.TheVariants.{New, Taken}
use Rattle.spec_calls.specs.declared.kinds.Kind.{Kind}
use Rattle.spec_calls.specs.Kinds.{is_which}
use Rattle.spec_refusals.specs.Named.{value_of}
use Rattle.code_calls.proofs.named.value_of.Goals as goal

pub returns-else-eq-5 : goal.returns-else-eq-5
unfolding value_of
returns-else-eq-5 c =
    let row : Kind = c.args.r.row in
    let t : is_which row.thread New ≡ false = search rules in
    let s : is_which row.semaphore New ≡ false = search rules in
    let m : is_which row.message New ≡ false = search rules in
    let p : is_which row.message Taken ≡ false = search rules in
    let f : is_which row.flag New ≡ false = search rules in
    rw (← c.args.r.is_its, t, s, m, p, f)
