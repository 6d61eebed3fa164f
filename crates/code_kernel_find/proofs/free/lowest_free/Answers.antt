-- `code_kernel_find::free::lowest_free` meets its contract: the chain finds the place that the definition counts to.
use mathlib.Core.Path.{◌≡◌, refl, ◌∙◌}
use mathlib.Core.Bool.{not}
use borrow.Author.Rules.{rules}
use Rattle.std.proofs.lemmas.Fn.{says_at}
use Rattle.std.proofs.lemmas.Iterator.{YieldsList-from_slice}
use Rattle.std.proofs.lemmas.Iterator.Search.{position_from_yields_List}
use Rattle.std.specs.List.{position}
use Rattle.std.specs.Option.{option_map_or}
use Rattle.code_kernel_find.proofs.Lowest.{position_lowest}
use Rattle.code_kernel_find.proofs.free.lowest_free.Goals as goal

pub returns : goal.returns
returns g c live says =
    let l = c.args.records.now in
    let e : c.position.result ≡ position (λ r. not (live r)) l =
    position_from_yields_List (λ r. not (live r)) _ _ c.position.result c.position.ensures.ran (YieldsList-from_slice l cc) (λ x b q k. (
      g.met.F.Fn.1.step_stays c.args.is_free (x, tt) b q (record { met = k.met }),
      says x.now b (says_at g.F.Fn ((g.met.F.FnMut.1.post_iff c.args.is_free (x, tt) b).1 (q, record { met = k.met })) refl),
    )) in
    let m : c.map_or.result ≡ option_map_or (λ i. i) c.position.result 255 = search rules in
    m ∙ rw e (position_lowest live l)
