-- `code_moves::place_behind` meets its contract: the chain counts those that stand before the first that comes after.
use mathlib.Core.Path.{◌≡◌, refl, ◌∙◌}
use Rattle.std.proofs.lemmas.Fn.{says_at}
use Rattle.std.proofs.lemmas.Iterator.{YieldsList-from_slice}
use Rattle.std.proofs.lemmas.Iterator.Search.{position_from_yields_List}
use Rattle.std.specs.List.{position}
use Rattle.base_queue.specs.Queues.{items}
use Rattle.code_moves.proofs.Places.{position_behind}
use Rattle.code_moves.proofs.place_behind.Goals as goal

pub returns : goal.returns
returns g c test says =
    let l = items c.args.q.now in
    let e : c.position.result ≡ position test l =
    position_from_yields_List test _ _ c.position.result c.position.ensures.ran (YieldsList-from_slice l (cc))
    (λ x b q k. (
      g.met.F.Fn.1.step_stays c.args.after (x, tt) b q (record { met = k.met }),
      says x.now b (says_at g.F.Fn ((g.met.F.FnMut.1.post_iff c.args.after (x, tt) b).1 (q, record { met = k.met })) refl),
    )) in
    c.unwrap_or.ensures ∙ rw (e, c.members-members.ensures) (position_behind test l)
