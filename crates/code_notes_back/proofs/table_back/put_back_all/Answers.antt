-- `code_notes_back::table_back::put_back_all` meets its contract: those that stayed, then place by place.
use mathlib.Core.Path.{◌≡◌, ◌∙◌}
use borrow.Author.Rules.{rules}
use lib.ListN.{length}
use Rattle.base_queue.specs.Queues.{capacity}
use Rattle.base_queue.proofs.Queues.{items_pack}
use Rattle.spec_notes.specs.Back.{put_back_all}
use Rattle.code_notes_back.proofs.table_back.put_back_all.Goals as goal

pub returns : goal.returns
unfolding put_back_all
returns c =
    let a = c.args in
    let e : length a.at ≡ capacity = search rules in
    c.merged.ensures ∙ rw (c.kept.ensures, items_pack, e)
