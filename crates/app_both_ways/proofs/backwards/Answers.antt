-- `app_both_ways::backwards` meets what its calls require.
use Rattle.spec_answers.proofs.Undos.{rules_go_back}
use Rattle.app_both_ways.proofs.backwards.Goals as goal

pub loop-init : goal.loop-init
loop-init g c = rules_go_back c.undo_kept-l.ensures c.requires

pub loop-preserved : goal.loop-preserved
loop-preserved g c = rules_go_back c.undo_kept-l-in-loop.ensures c.loop.invariant
