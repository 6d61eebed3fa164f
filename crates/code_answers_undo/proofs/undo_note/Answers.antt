-- `code_answers_undo::undo_note` meets its contract: where the note has its frame and its levels fit, what is read is the state before.
use Prim.Native.Nat.{ℕ}
use mathlib.Core.Path.{◌≡◌, sym, ap, ◌∙◌}
use mathlib.Core.List.{List}
use mathlib.Core.Bool.{true}
use borrow.Author.Tests.{not-true, not-false}
use Rattle.spec_kernel.specs.declared.records.Kernel.{Kernel}
use Rattle.spec_calls.specs.declared.call.Call.{Call}
use Rattle.spec_calls.specs.Calls.{call_of}
use Rattle.spec_notes.specs.Notes.{section_count}
use Rattle.spec_notes.specs.Back.{state_before}
use Rattle.spec_notes.specs.Frames.{nothing, sections, sections_at, frames_of}
use Rattle.spec_notes.specs.Undoes.{call_bytes, levels_fit, asked_by}
use Rattle.code_notes_frame.specs.declared.frames.Decoded.{Decoded}
use Rattle.code_notes_frame.specs.Meant.{part_of, meant}
use Rattle.code_notes_back.specs.Restored.{back_of}
use Rattle.code_notes_frame.proofs.Framing.{record_whole}
use Rattle.spec_answers.specs.Steps.{answer}
use Rattle.spec_answers.specs.Logs.{logged}
use Rattle.code_answers_undo.proofs.Again.{note_none, framed_size, asked, asked_by_lem, left_other, left_unfit, left_back, back_parts}
use Rattle.code_answers_undo.proofs.undo_note.Goals as goal
use Rattle.code_answers_undo.proofs.undo_note.Goals.{After-state_before-back, After-yields_again}

pub returns-in_default : goal.returns-in_default
returns-in_default c =
    let a = c.args in
    let note = a.note.now in
    let e : frames_of note ≡ nothing =
    sym c.frames_of.ensures.1 ∙ ap (λ (d : Decoded). meant d note) c.in_default.is in
    rw (note_none a.k note e) c.refused.ensures

-- where the note has its sections: these, and the earlier state
abbrev parts : After-state_before-back → List (List ℕ)
parts c = sections_at section_count (part_of c.in-Sections.p c.args.note.now)

abbrev old : After-state_before-back → Kernel
old c = state_before (call_of (call_bytes c.args.note.now)) c.args.k (parts c)

framed : (c : After-state_before-back) → frames_of c.args.note.now ≡ sections (parts c)
framed c = sym c.frames_of.ensures.1 ∙ ap (λ (d : Decoded). meant d c.args.note.now) c.in-Sections.is

-- the call record
record_read : (c : After-state_before-back) → c.call_bytes-bytes.result ≡ call_bytes c.args.note.now
record_read c =
    c.call_bytes-bytes.ensures ∙ record_whole c.args.note.now (framed_size c.args.k c.args.note.now (parts c) (framed c))

-- the call, as it is read
call_read : (c : After-state_before-back) → c.call_of-c.result ≡ call_of (call_bytes c.args.note.now)
call_read c = c.call_of-c.ensures ∙ ap call_of (record_read c)

state_read : (c : After-state_before-back)
    → (c.state_before-back.result.fits ≡ levels_fit (old c)) × (levels_fit (old c) ≡ true → c.state_before-back.result.kernel ≡ old c)
state_read c =
    back_parts (call_of (call_bytes c.args.note.now)) c.args.k (parts c) c.state_before-back.result
    (c.state_before-back.ensures
    ∙ ap (λ (s : List ℕ). back_of c.call_of-c.result c.args.k (sections_at section_count s)) c.part_of-s.ensures
    ∙ ap (λ (y : Call). back_of y c.args.k (parts c)) (call_read c))

-- the earlier state, and that the call run again from it was compared
run_again : (c : After-yields_again)
    → (let k = c.args.k in let note = c.args.note.now in let p = sections_at section_count (part_of c.in-Sections.p note) in
    let u = state_before (call_of (call_bytes note)) k p in (f : frames_of note ≡ sections p)
    → c.call_bytes-bytes.result ≡ call_bytes note → c.call_of-c.result ≡ call_of (call_bytes note)
    → (c.state_before-back.result.fits ≡ levels_fit u) × (levels_fit u ≡ true → c.state_before-back.result.kernel ≡ u)
    → (c.state_before-back.result.kernel ≡ u) × (c.yields_again.result ≡ asked k note p f u))
run_again c f r y (fits, kernel) =
    let k = c.args.k in
    let note = c.args.note.now in
    let p = sections_at section_count (part_of c.in-Sections.p note) in
    let asks : c.asked_by-asked.result ≡ asked_by (call_of (call_bytes note)) p =
    c.asked_by-asked.ensures
    ∙ ap (λ (s : List ℕ). asked_by c.call_of-c.result (sections_at section_count s)) c.part_of-s.ensures
    ∙ ap (λ (x : Call). asked_by x p) y in
    let l = sym fits ∙ not-false c.state_before-back.result.fits c.if-not-back.false in (
      kernel l,
      c.yields_again.ensures (ap levels_fit (kernel l) ∙ l) ∙ asked_by_lem k note asks (kernel l) r,
    )

pub returns-then-not-back : goal.returns-then-not-back
returns-then-not-back c =
    let b = (goal.at.returns-then-not-back c).After-state_before-back in
    let a = c.args in
    c.refused-then-not-back.ensures
    ∙ left_unfit a.k a.note.now (parts b) (framed b) a.before a.used
    (sym (state_read b).0 ∙ not-true c.state_before-back.result.fits c.if-not-back.true)

pub returns-then-not-yields_again : goal.returns-then-not-yields_again
returns-then-not-yields_again c =
    let at = goal.at.returns-then-not-yields_again c in
    let b = at.After-state_before-back in
    let (_, again) = run_again at.After-yields_again (framed b) (record_read b) (call_read b) (state_read b) in
    let a = c.args in
    c.refused-then-not-yields_again.ensures
    ∙ left_other a.k a.note.now (parts b) (framed b) a.before a.used (sym again ∙ c.if-not-yields_again.true)

pub returns : goal.returns
returns c =
    let at = goal.at.returns c in
    let b = at.After-state_before-back in
    let (same, again) = run_again at.After-yields_again (framed b) (record_read b) (call_read b) (state_read b) in
    let a = c.args in
    ap (λ (u : Kernel). logged (answer 0 255 u.runner) u a.before) same
    ∙ left_back a.k a.note.now (parts b) (framed b) a.before a.used (sym again ∙ c.if-not-yields_again.false)
