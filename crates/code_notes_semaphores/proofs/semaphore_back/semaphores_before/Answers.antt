-- `code_notes_semaphores::semaphore_back::semaphores_before` meets its contract: what is still to read are the entries from p on.
use Prim.Native.Nat.{ℕ, ◌+◌, ◌≤◌, ◌<◌}
use mathlib.Core.Path.{◌≡◌, sym, ◌∙◌}
use mathlib.Core.List.{List}
use native.Mathlib.Omega.{arith}
use lib.ListN.{length, get_or, set, drop, length-set, length-map}
use lib.Seq.{set_out}
use Rattle.base_rows.specs.Entries.{id_of, row_in, own_in}
use Rattle.base_rows.proofs.EntriesRead.{entries_from, entries_end}
use Rattle.spec_kernel.specs.declared.records.Semaphore.{Semaphore}
use Rattle.spec_kernel.specs.Records.{no_semaphore}
use Rattle.spec_calls.specs.declared.call.Call.{Call}
use Rattle.spec_notes.specs.Rows.{semaphore_from, semaphore_widths}
use Rattle.spec_notes.specs.Predicted.{predicted_semaphore}
use Rattle.spec_notes.specs.Back.{semaphore_read, semaphores_before}
use Rattle.code_notes_entries.proofs.EntryTurns.{part, turn_on, turned}
use borrow.Author.Rules.{rules}
use Rattle.code_notes_semaphores.proofs.semaphore_back.semaphores_before.Goals as goal
use Rattle.code_notes_semaphores.proofs.semaphore_back.semaphores_before.Goals.{After-id_in-i}

-- what an entry does, of its id and what it says of the record
stores : (c : Call) (new : List Semaphore) (h i : ℕ) (t : List ℕ) (v : Semaphore) (a : List Semaphore) → i ≡ id_of h
    → v ≡ semaphore_from (row_in semaphore_widths (predicted_semaphore c (get_or new i no_semaphore)) h t) → set a i v ≡ semaphore_read c new h t a
unfolding semaphore_read
stores c new h i t v a e f = rw (f, e)

on : (c : After-id_in-i) → (0 < c.size_in-p.result)
    × (c.loop-p.p + c.size_in-p.result ≤ length c.args.s.now)
on c =
    let a = c.args in
    turn_on (own_in semaphore_widths) (semaphore_read a.c a.new) a.s.now c.loop-p-test.true
    c.size_in-p.ensures

-- what is stored is what the entry does, and then the entries behind it
stored : (c : After-id_in-i) (l : List Semaphore) → let a = c.args in
    let e = part a.s.now c.loop-p.p in
    l ≡ semaphore_read a.c a.new (get_or e 0 0) (drop 1 e) c.loop-p.a
    → semaphores_before a.c a.new a.s.now
    ≡ entries_from (own_in semaphore_widths) (semaphore_read a.c a.new) a.s.now (c.loop-p.p + c.size_in-p.result) l
stored c l h =
    let a = c.args in
    turned (own_in semaphore_widths) (semaphore_read a.c a.new) a.s.now c.loop-p-test.true
    c.size_in-p.ensures
    c.loop-p.a h c.loop-p.invariant.2

pub loop-p-init : goal.loop-p-init
unfolding semaphores_before
loop-p-init c = (
  search rules,
  rw (c.younger_all-a.ensures, length-map) (search rules),
  rw c.younger_all-a.ensures,
)

pub loop-p-smaller-then-i-lt-SEMAPHORES : goal.loop-p-smaller-then-i-lt-SEMAPHORES
loop-p-smaller-then-i-lt-SEMAPHORES c = omega (arith, on (goal.at.loop-p-smaller-then-i-lt-SEMAPHORES c).After-id_in-i)

pub loop-p-preserved-then-i-lt-SEMAPHORES : goal.loop-p-preserved-then-i-lt-SEMAPHORES
loop-p-preserved-then-i-lt-SEMAPHORES c =
    let l = c.loop-p in
    let done = stores c.args.c c.args.new _ _ _ _ l.a c.id_in-i.ensures c.record_in.ensures in
    (l.invariant.0, simp length-set l.invariant.1, stored (goal.at.loop-p-preserved-then-i-lt-SEMAPHORES c).After-id_in-i _ done)

pub loop-p-smaller : goal.loop-p-smaller
loop-p-smaller c = omega (arith, on (goal.at.loop-p-smaller c).After-id_in-i)

pub loop-p-preserved : goal.loop-p-preserved
unfolding semaphore_read
loop-p-preserved c =
    let l = c.loop-p in
    let past : length l.a ≤ id_of (get_or (part c.args.s.now l.p) 0 0) =
    omega (arith, c.id_in-i.ensures, l.invariant.1, c.if-i-lt-SEMAPHORES.false) in
    (l.invariant.0, l.invariant.1, stored (goal.at.loop-p-preserved c).After-id_in-i _ (sym (set_out l.a _ _ past)))

pub returns : goal.returns
returns c =
    let l = c.loop-p in
    sym (l.invariant.2 ∙ entries_end _ _ c.args.s.now l.p l.a c.loop-p-test.false)
