-- `code_notes_threads::thread_back::threads_before` meets its contract: what is still to read are the entries from p on.
use Prim.Native.Nat.{◌+◌, ◌≤◌, ◌<◌}
use mathlib.Core.Path.{sym, ◌∙◌}
use native.Mathlib.Omega.{arith}
use lib.ListN.{length}
use Rattle.base_rows.proofs.EntriesRead.{entries_end}
use Rattle.spec_notes.specs.Back.{thread_own, thread_read, threads_before}
use Rattle.code_notes_entries.proofs.EntryTurns.{turn_on, turned}
use Rattle.code_notes_threads.specs.ReadThreads.{meant_threads}
use Rattle.code_notes_threads.proofs.thread_back.threads_before.Goals as goal
use Rattle.code_notes_threads.proofs.thread_back.threads_before.Goals.{After-entry_size-p}

on : (c : After-entry_size-p) → (0 < c.entry_size-p.result)
    × (c.loop-p.p + c.entry_size-p.result ≤ length c.args.s.now)
unfolding thread_own
on c =
    let a = c.args in
    turn_on (thread_own a.c a.new) (thread_read a.c a.new) a.s.now c.loop-p-test.true
    c.entry_size-p.ensures

pub loop-p-init : goal.loop-p-init
unfolding threads_before
loop-p-init c = (omega arith, rw c.all_younger-young.ensures)

pub overflow_add-p : goal.overflow_add-p
overflow_add-p c = omega (arith, on (goal.at.overflow_add-p c).After-entry_size-p)

pub loop-p-smaller : goal.loop-p-smaller
loop-p-smaller c = omega (arith, on (goal.at.loop-p-smaller c).After-entry_size-p)

pub loop-p-preserved : goal.loop-p-preserved
unfolding thread_own
loop-p-preserved c =
    let a = c.args in
    let l = c.loop-p in (
      (on (goal.at.loop-p-preserved c).After-entry_size-p).1,
      turned (thread_own a.c a.new) (thread_read a.c a.new) a.s.now c.loop-p-test.true
          c.entry_size-p.ensures
          (meant_threads l.a)
          c.entry_back-a.ensures
          l.invariant.1,
    )

pub returns : goal.returns
returns c =
    let l = c.loop-p in
    sym (l.invariant.1 ∙ entries_end _ _ c.args.s.now l.p (meant_threads l.a) c.loop-p-test.false)
