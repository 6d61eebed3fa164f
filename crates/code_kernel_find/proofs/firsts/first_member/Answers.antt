-- `code_kernel_find::firsts::first_member` meets its contract: the chain finds the head of those that pass.
use mathlib.Core.Path.{◌≡◌, refl, sym, ◌∙◌}
use Rattle.std.proofs.lemmas.Fn.{says_at}
use Rattle.std.proofs.lemmas.Iterator.{YieldsList-from_slice}
use Rattle.std.proofs.lemmas.Iterator.Adapters.{option_map_id}
use Rattle.std.proofs.lemmas.Iterator.Consumers.{YieldsList-from_copied}
use Rattle.std.proofs.lemmas.Iterator.Search.{find_from_yields_List}
use Rattle.std.specs.List.{find}
use Rattle.std.specs.Option.{option_map}
use Rattle.base_queue.specs.Queues.{items}
use Rattle.code_kernel_find.proofs.OfHomes.{find_first}
use Rattle.code_kernel_find.proofs.firsts.first_member.Goals as goal

pub returns : goal.returns
returns g c test says =
    let l = items c.args.q.now in
    let e : option_map (λ u. u) c.find.result ≡ find test l =
    find_from_yields_List test _ _ c.find.result c.find.ensures.ran (YieldsList-from_copied (YieldsList-from_slice l (cc))) (λ x b q k. (
      g.met.F.Fn.1.step_stays c.args.passes (k.shown, tt) b q (record { met = k.called.met }),
      says x b (rw (← k.shows) (says_at g.F.Fn ((g.met.F.FnMut.1.post_iff c.args.passes (k.shown, tt) b).1 (q, record { met = k.called.met })) refl)),
    )) in
    c.unwrap_or.ensures ∙ rw (sym (option_map_id _) ∙ e) (find_first test l)
