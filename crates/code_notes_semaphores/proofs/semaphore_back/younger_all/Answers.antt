-- `code_notes_semaphores::semaphore_back::younger_all` meets its contract: the first i records are younger, the others as they were.
use mathlib.Core.Path.{refl, ◌∙◌}
use native.Mathlib.Omega.{arith}
use lib.ListN.{length-set}
use borrow.Author.Rules.{rules}
use Rattle.spec_kernel.specs.Records.{no_semaphore}
use Rattle.base_queue.proofs.Maps.{map_next, map_end}
use Rattle.spec_notes.specs.Touched.{younger_semaphore}
use Rattle.code_notes_semaphores.proofs.semaphore_back.younger_all.Goals as goal

pub loop-i-init : goal.loop-i-init
loop-i-init c = (search rules, search rules, refl)

pub loop-i-preserved : goal.loop-i-preserved
loop-i-preserved c =
    let l = c.loop-i in (
      l.invariant.0,
      simp length-set (omega arith),
      rw (c.younger.ensures, l.invariant.2) (map_next (younger_semaphore c.args.c) no_semaphore c.args.new l.i (omega arith)),
    )

pub returns : goal.returns
returns c =
    let l = c.loop-i in
    l.invariant.2 ∙ map_end (younger_semaphore c.args.c) c.args.new l.i (omega arith)
