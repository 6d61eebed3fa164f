-- `code_notes_threads::thread_notes::put_threads` meets its contract: what is still to write are the entries of the ids from t on.
use Prim.Native.Nat.{◌+◌, ◌≤◌, ◌<◌}
use mathlib.Core.Path.{◌≡◌, sym, ◌∙◌}
use native.Mathlib.Omega.{arith}
use lib.ListN.{length}
use borrow.Author.Rules.{rules}
use Rattle.spec_kernel.specs.Sizes.{thread_count}
use Rattle.base_bytes.specs.Pens.{puts}
use Rattle.base_bytes.proofs.Writing.{puts_append}
use Rattle.code_notes_entries.proofs.Entries.{entries_next, entries_done}
use Rattle.code_notes_threads.proofs.ThreadEntries.{entry_here}
use Rattle.code_notes_threads.proofs.thread_notes.put_threads.Goals as goal

pub loop-t-preserved : goal.loop-t-preserved
loop-t-preserved c =
    let a = c.args in
    let l = c.loop-t in
    let b = c.put_touched-p in
    let x : a.c.a < 256 = search rules in
    let y : a.runner < 256 = search rules in
    let e : length a.old.records ≡ thread_count = c.well_formed.1.1.1.1.0.1.1.0.1.0.1 in
    let f : length a.new ≡ thread_count = search rules in
    let h : l.t < a.first + a.count = omega arith in (
      b.auto.log ∙ l.invariant.0,
      l.invariant.1
          ∙ rw (
            entries_next _ _ l.t (a.first + a.count) h,
            puts_append,
            b.ensures,
            c.record_at-before.ensures,
            c.record_at-after.ensures,
            entry_here a.c a.runner a.old a.new l.t x y e f,
          ),
    )

pub returns : goal.returns
unfolding puts
returns c =
    let a = c.args in
    let l = c.loop-t in
    let h : a.first + a.count ≤ l.t = omega arith in
    sym (l.invariant.1 ∙ rw (entries_done _ _ l.t (a.first + a.count) h))
