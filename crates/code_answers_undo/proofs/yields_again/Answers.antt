-- `code_answers_undo::yields_again` meets its contract: each way out says which part of "yields this end state and this note" fails.
use Prim.Native.Nat.{ℕ, ◌≤◌}
use mathlib.Core.Path.{◌≡◌, sym, ◌∙◌}
use mathlib.Core.Bool.{Bool, true, false, true≢false}
use mathlib.Core.List.{List}
use lib.Dec.{eqb}
use lib.ListN.{length, take}
use lib.Pointwise.{pointwise}
use borrow.Author.Tests.{ne_eqb}
use lib.Seq.{length-take-le}
use Rattle.spec_kernel.specs.declared.records.Kernel.{Kernel}
use Rattle.spec_rules.specs.declared.tests.Asked.{Asked}
use Rattle.spec_rules.specs.Tests.{keeps_asked}
use Rattle.spec_calls.specs.Calls.{call_of}
use Rattle.spec_refusals.specs.Refusals.{number_of}
use Rattle.spec_notes.specs.Touched.{same_row}
use Rattle.spec_answers.specs.Logs.{state_after, note_for}
use Rattle.code_answers_undo.proofs.Again.{run_refused, run_accepted, run_next, note_stands}
use Rattle.code_answers_undo.proofs.Again.{again_broken, again_refused, again-other, again-same}
use Rattle.code_notes_same.proofs.Pairs.{row_pairs}
use Rattle.code_answers_undo.proofs.yields_again.Goals as goal
use Rattle.code_answers_undo.proofs.yields_again.Goals.{After-recorded-l, then-l-eq0, else-l-eq0}

pub returns-then-not-keeps_asked : goal.returns-then-not-keeps_asked
returns-then-not-keeps_asked c =
    λ l.
    let a = c.args in
    let t = c.keeps_asked in
    again_broken a.asked a.old a.bytes a.end a.note.now l
    (sym t.ensures ∙ c.if-not-keeps_asked.true)

-- what came in, seen from the call that was run again
abbrev old₀ : After-recorded-l → Kernel
old₀ c = c.args.old

abbrev bytes₀ : After-recorded-l → List ℕ
bytes₀ c = c.args.bytes

abbrev end₀ : After-recorded-l → Kernel
end₀ c = c.args.end

abbrev asked₀ : After-recorded-l → Asked
asked₀ c = c.args.asked

abbrev note₀ : After-recorded-l → List ℕ
note₀ c = c.args.note.now

tested : (c : After-recorded-l) → keeps_asked (asked₀ c) (old₀ c) ≡ true
tested c = let t = c.keeps_asked in sym t.ensures ∙ c.if-not-keeps_asked.false

sixteen : (c : After-recorded-l) → length (bytes₀ c) ≡ 16
sixteen c = c.well_formed.1.0.1.0.1

-- where it answers 0: it was accepted, the next state, and that the note stands in front
ran : (c : After-recorded-l) → c.recorded-l.result.answer.number ≡ 0
    → let l = c.recorded-l.result in
    (number_of (old₀ c) (call_of (bytes₀ c)) ≡ 0) × (l.kernel ≡ state_after (old₀ c) (bytes₀ c))
    × (l.used ≤ length c.recorded-l.new.log)
    × (take l.used c.recorded-l.new.log ≡ note_for (old₀ c) (bytes₀ c)) × (l.used ≡ length (note_for (old₀ c) (bytes₀ c)))
ran c z =
    let e = c.recorded-l.ensures in
    let (x, y, w) = note_stands (old₀ c) (bytes₀ c) (sixteen c) _ e.result z _ e.written in (
      (run_accepted (old₀ c) (bytes₀ c) (sixteen c) _ e.result z).0,
      run_next (old₀ c) (bytes₀ c) (sixteen c) _ e.result z,
      x,
      y,
      w,
    )

pub slice_bounds-again-end : goal.slice_bounds-again-end
slice_bounds-again-end c = (ran (goal.at.slice_bounds-again-end c).After-recorded-l c.if-l-eq0.true).2

pub slice_bounds-eq-end : goal.slice_bounds-eq-end
slice_bounds-eq-end c = sym (length-take-le _ _ (ran (goal.at.slice_bounds-eq-end c).After-recorded-l c.if-l-eq0.true).2)

-- what `==` says of its note and the one that was given
compared : (c : After-recorded-l) → c.recorded-l.result.answer.number ≡ 0
    → (r : Bool) → r ≡ pointwise eqb (take c.recorded-l.result.used c.recorded-l.new.log) (note₀ c)
    → r ≡ same_row (note_for (old₀ c) (bytes₀ c)) (note₀ c)
compared c z r e =
    let (_, _, _, t, _) = ran c z in
    e ∙ row_pairs (take c.recorded-l.result.used c.recorded-l.new.log) (note₀ c) ∙ rw t

pub returns-then-eq : goal.returns-then-eq
returns-then-eq c =
    let r = (goal.at.returns-then-eq c).After-recorded-l in
    λ l.
    elim c.if-l-eq0.branch [
      | then-l-eq0 w ↦
          let (n, e, _, _, _) = ran r w.if-l-eq0.true in
          c.same_asked.ensures
          ∙ again-same (asked₀ r) (old₀ r) (bytes₀ r) (end₀ r) (note₀ r) l (tested r) n
          (sym c.if-eq.true ∙ w.value-is ∙ compared r w.if-l-eq0.true w.eq.result w.eq.ensures) _ e
      | else-l-eq0 w ↦
          let f : eqb c.recorded-l.result.answer.number 0 ≡ false = ne_eqb c.recorded-l.result.answer.number 0 w.if-l-eq0.false in
          absurd (true≢false (sym c.if-eq.true ∙ w.value-is ∙ f))
    ]

pub returns-else-eq : goal.returns-else-eq
returns-else-eq c =
    let r = (goal.at.returns-else-eq c).After-recorded-l in
    λ l.
    c.if-eq.false
    ∙ elim c.if-l-eq0.branch [
      | then-l-eq0 w ↦
          let (n, _, _, _, _) = ran r w.if-l-eq0.true in
          again-other (asked₀ r) (old₀ r) (bytes₀ r) (end₀ r) (note₀ r) l (tested r) n
          (sym c.if-eq.false ∙ w.value-is ∙ compared r w.if-l-eq0.true w.eq.result w.eq.ensures)
      | else-l-eq0 w ↦
          again_refused (asked₀ r) (old₀ r) (bytes₀ r) (end₀ r) (note₀ r) l (tested r)
          (run_refused (old₀ r) (bytes₀ r) (sixteen r) _ c.recorded-l.ensures.result w.if-l-eq0.false)
    ]
