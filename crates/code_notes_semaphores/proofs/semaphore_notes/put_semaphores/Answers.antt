-- `code_notes_semaphores::semaphore_notes::put_semaphores` meets its contract: what is still to write are the entries from i on.
use Prim.Native.Nat.{◌+◌, ◌≤◌, ◌<◌, min}
use mathlib.Core.Path.{sym, ◌∙◌}
use native.Mathlib.Omega.{arith}
use borrow.Author.Rules.{rules}
use Rattle.base_bytes.specs.Pens.{puts}
use Rattle.base_bytes.proofs.Writing.{puts_append}
use Rattle.spec_kernel.specs.Sizes.{semaphore_count}
use Rattle.spec_kernel.specs.Records.{no_semaphore}
use Rattle.spec_notes.specs.Touched.{changed_semaphore}
use Rattle.code_notes_entries.proofs.Entries.{entries_next, entries_past, no_semaphore_lem}
use Rattle.code_notes_semaphores.proofs.semaphore_notes.put_semaphores.Goals as goal

pub loop-i-preserved : goal.loop-i-preserved
loop-i-preserved c =
    let a = c.args in
    let l = c.loop-i in
    let b = c.put_changed_semaphore-p in
    let h : l.i < a.first + a.count = omega (arith, c.min-end.ensures) in
    (b.auto.log ∙ l.invariant.0, l.invariant.1 ∙ rw (entries_next _ _ l.i (a.first + a.count) h, puts_append, b.ensures))

pub returns : goal.returns
unfolding puts
returns c =
    let a = c.args in
    let l = c.loop-i in
    let h : min (a.first + a.count) semaphore_count ≤ l.i = omega (arith, c.min-end.ensures) in
    sym (l.invariant.1 ∙ rw (entries_past (changed_semaphore a.c) a.old a.new no_semaphore _ (a.first + a.count) (search rules) (search rules)
    (no_semaphore_lem a.c) h))
