-- `code_notes_threads::thread_back::all_younger` meets its contract: the first t records are younger, the others as they were.
use mathlib.Core.Path.{refl, ◌∙◌}
use native.Mathlib.Omega.{arith}
use lib.ListN.{length-set}
use borrow.Author.Rules.{rules}
use Rattle.spec_kernel.specs.Records.{no_thread}
use Rattle.base_queue.proofs.Maps.{map_next, map_end}
use Rattle.spec_notes.specs.Touched.{younger_thread}
use Rattle.code_notes_threads.proofs.thread_back.all_younger.Goals as goal

pub loop-t-init : goal.loop-t-init
loop-t-init c = (search rules, search rules, refl)

pub loop-t-preserved : goal.loop-t-preserved
loop-t-preserved c =
    let l = c.loop-t in (
      l.invariant.0,
      simp length-set (omega arith),
      rw (c.younger.ensures, l.invariant.2) (map_next (younger_thread c.args.c) no_thread c.args.new l.t (omega arith)),
    )

pub returns : goal.returns
returns c =
    let l = c.loop-t in
    l.invariant.2 ∙ map_end (younger_thread c.args.c) c.args.new l.t (omega arith)
