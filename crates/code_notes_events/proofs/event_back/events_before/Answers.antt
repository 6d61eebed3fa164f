-- `code_notes_events::event_back::events_before` meets its contract: what is still to read are the entries from p on.
use Prim.Native.Nat.{ℕ, ◌+◌, ◌≤◌, ◌<◌}
use mathlib.Core.Path.{◌≡◌, sym, ◌∙◌}
use mathlib.Core.Bool.{cond}
use mathlib.Core.List.{List}
use native.Mathlib.Nat.{le_refl}
use native.Mathlib.Omega.{arith}
use lib.ListN.{length, get_or, set, drop, length-set, length-drop}
use lib.Seq.{set_out}
use Rattle.base_rows.specs.Entries.{id_of, row_in, own_in}
use Rattle.base_rows.proofs.EntriesRead.{enough, entries_from, entries_end}
use Rattle.spec_kernel.specs.declared.records.Event.{Event}
use Rattle.spec_kernel.specs.Records.{no_event}
use Rattle.spec_notes.specs.Rows.{event_from, event_widths}
use Rattle.spec_notes.specs.Predicted.{predicted_event}
use Rattle.spec_notes.specs.Back.{event_read, bit_changed, events_before}
use Rattle.code_notes_entries.proofs.EntryTurns.{part, turn_on, turned}
use borrow.Author.Rules.{rules}
use Rattle.code_notes_events.proofs.event_back.events_before.Goals as goal
use Rattle.code_notes_events.proofs.event_back.events_before.Goals.{After-id_in-i}

-- what an entry does, of its id and what it says of the record
stores : (new : List Event) (h i : ℕ) (t : List ℕ) (v : Event) (a : List Event) → i ≡ id_of h
    → v ≡ event_from (row_in event_widths (predicted_event (get_or new i no_event)) h t) → set a i v ≡ event_read new h t a
unfolding event_read
stores new h i t v a e f = rw (f, e)

on : (c : After-id_in-i) → (0 < c.size_in-p.result)
    × (c.loop-p.p + c.size_in-p.result ≤ length c.args.s.now)
on c =
    let a = c.args in
    turn_on (own_in event_widths) (event_read a.new) a.s.now c.loop-p-test.true c.size_in-p.ensures

-- what is stored is what the entry does, and then the entries behind it
stored : (c : After-id_in-i) (l : List Event) → let a = c.args in
    let e = part a.s.now c.loop-p.p in
    l ≡ event_read a.new (get_or e 0 0) (drop 1 e) c.loop-p.a
    → events_before a.new a.s.now
    ≡ entries_from (own_in event_widths) (event_read a.new) a.s.now (c.loop-p.p + c.size_in-p.result) l
stored c l h =
    let a = c.args in
    turned (own_in event_widths) (event_read a.new) a.s.now c.loop-p-test.true c.size_in-p.ensures
    c.loop-p.a h c.loop-p.invariant.2

pub loop-p-init : goal.loop-p-init
unfolding events_before
loop-p-init c =
    let s = c.args.s.now in
    let k : ℕ = cond (bit_changed s) 1 0 in (
      search rules,
      search rules,
      rw c.first_entry-p.ensures (enough _ _ (length s) (length (drop k s)) (drop k s) _ (omega (arith, length-drop k s)) (le_refl _)),
    )

pub loop-p-smaller-then-i-lt-EVENTS : goal.loop-p-smaller-then-i-lt-EVENTS
loop-p-smaller-then-i-lt-EVENTS c = omega (arith, on (goal.at.loop-p-smaller-then-i-lt-EVENTS c).After-id_in-i)

pub loop-p-preserved-then-i-lt-EVENTS : goal.loop-p-preserved-then-i-lt-EVENTS
loop-p-preserved-then-i-lt-EVENTS c =
    let l = c.loop-p in
    let done = stores c.args.new _ _ _ _ l.a c.id_in-i.ensures c.record_in.ensures in
    (l.invariant.0, simp length-set l.invariant.1, stored (goal.at.loop-p-preserved-then-i-lt-EVENTS c).After-id_in-i _ done)

pub loop-p-smaller : goal.loop-p-smaller
loop-p-smaller c = omega (arith, on (goal.at.loop-p-smaller c).After-id_in-i)

pub loop-p-preserved : goal.loop-p-preserved
unfolding event_read
loop-p-preserved c =
    let l = c.loop-p in
    let past : length l.a ≤ id_of (get_or (part c.args.s.now l.p) 0 0) =
    omega (arith, c.id_in-i.ensures, l.invariant.1, c.if-i-lt-EVENTS.false) in
    (l.invariant.0, l.invariant.1, stored (goal.at.loop-p-preserved c).After-id_in-i _ (sym (set_out l.a _ _ past)))

pub returns : goal.returns
returns c =
    let l = c.loop-p in
    sym (l.invariant.2 ∙ entries_end _ _ c.args.s.now l.p l.a c.loop-p-test.false)
