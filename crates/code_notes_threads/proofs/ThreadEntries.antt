-- A thread id above 255 has no entry: nobody's record is changed, and the ids that a call names are bytes.
use Prim.Native.Nat.{ℕ, ◌<◌}
use mathlib.Core.Path.{◌≡◌, sym, ap}
use mathlib.Core.Bool.{Bool, true, false, cond, and-false}
use mathlib.Core.List.{List, []}
use native.Mathlib.Omega.{arith}
use lib.Dec.{ltb}
use lib.ListN.{length, get_or}
use borrow.Author.Tests.{ltb-true, ne_eqb}
use borrow.Table.Steps.{cases}
use Rattle.spec_kernel.specs.declared.records.Thread.{Thread}
use Rattle.spec_moves.specs.declared.parts.Threads.{Threads}
use Rattle.spec_kernel.specs.Sizes.{thread_count}
use Rattle.spec_kernel.specs.Records.{no_thread}
use Rattle.spec_moves.specs.Moves.{thread_in}
use Rattle.spec_moves.proofs.Joins.{past_end}
use Rattle.spec_calls.specs.declared.call.Call.{Call}
use Rattle.spec_refusals.specs.Refusals.{is}
use Rattle.spec_notes.specs.Touched.{same_thread, younger_thread, changed_thread}
use Rattle.spec_notes.specs.Sections.{thread_entry}
use Rattle.code_notes_threads.specs.ThreadEntries.{entry_in}

-- nobody's record is the same before and after, and no byte is such an id
none_same : (c : Call) → same_thread no_thread (younger_thread c no_thread) ≡ true
unfolding same_thread younger_thread
none_same c = cases (is c 1) (λ e. rw e) (λ e. rw e)

module _ (c : Call) (runner : ℕ) (old : Threads) (new : List Thread) (t : ℕ) (a : c.a < 256) (b : runner < 256)
    (l : length old.records ≡ thread_count) (m : length new ≡ thread_count) where
  abbrev changed : Bool
  changed = changed_thread t runner c (thread_in old t) (get_or new t no_thread)

  past_bytes : 255 < t → changed ≡ false
  past_bytes h =
      rw (
        past_end old.records no_thread {u = t} l (omega arith),
        past_end new no_thread {u = t} m (omega arith),
        none_same c,
        ne_eqb t runner (λ z. omega arith),
        ne_eqb t c.a (λ z. omega arith),
        and-false,
        and-false,
      )

  -- the entry of an id, of the records that stand there before and after
  pub entry_here : entry_in c runner old.places old.time (thread_in old t) (get_or new t no_thread) t
      ≡ cond changed (thread_entry c old new t) []
  unfolding entry_in
  entry_here =
      cases (ltb 255 t) (λ e. rw e (sym (ap (λ x. cond x (thread_entry c old new t) []) (past_bytes (ltb-true 255 t e))))) (λ e. rw e)
