-- `code_time::aged_records` meets its contract: the first t threads are as they will be, the others as they were.
use mathlib.Core.Path.{refl, ◌∙◌}
use native.Mathlib.Omega.{arith}
use lib.ListN.{length-set}
use borrow.Author.Rules.{rules}
use Rattle.spec_kernel.specs.Records.{no_thread}
use Rattle.base_queue.proofs.Maps.{map_next, map_end}
use Rattle.spec_time.specs.Time.{aged}
use Rattle.code_time.proofs.aged_records.Goals as goal

pub loop-t-init : goal.loop-t-init
loop-t-init c = (search rules, search rules, refl)

pub loop-t-preserved : goal.loop-t-preserved
loop-t-preserved c =
    let l = c.loop-t in (
      l.invariant.0,
      simp length-set (omega arith),
      rw (c.aged.ensures, l.invariant.2) (map_next aged no_thread c.args.threads l.t (omega arith)),
    )

pub returns : goal.returns
returns c =
    let l = c.loop-t in
    l.invariant.2 ∙ map_end aged c.args.threads l.t (omega arith)
