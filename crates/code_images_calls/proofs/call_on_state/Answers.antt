-- `code_images_calls::call_on_state` meets its contract: each way out is what is kept of the call's result.
use Prim.Native.Nat.{ℕ, ◌+◌, ◌≤◌}
use mathlib.Core.Path.{◌≡◌, sym, ap, ◌∙◌}
use mathlib.Core.Bool.{Bool, true}
use mathlib.Core.List.{List}
use lib.Dec.{leb}
use lib.ListN.{length, take}
use lib.Seq.{length-take-le}
use Rattle.base_bytes.specs.Logs.{room, noted, ends}
use Rattle.spec_kernel.specs.declared.records.Kernel.{Kernel}
use Rattle.spec_calls.specs.Calls.{call_of}
use Rattle.spec_refusals.specs.Refusals.{number_of}
use Rattle.spec_refusals.specs.Named.{value_of}
use Rattle.spec_answers.specs.declared.Logged.{Logged}
use Rattle.spec_answers.specs.Steps.{answer}
use Rattle.spec_answers.specs.Logs.{state_after, note_for}
use Rattle.spec_answers.proofs.FromTypes.{is_record}
use Rattle.code_answers_undo.proofs.Again.{run_refused, run_accepted, run_next, note_stands}
use Rattle.code_images.proofs.ImageWritten.{fits_none, fits_some}
use Rattle.spec_images.specs.Images.{image_of}
use Rattle.code_images_calls.proofs.OnStates.{left_refused, left_note, left_image, both_kept, ends_behind, stored_by}
use Rattle.code_images_calls.proofs.call_on_state.Goals as goal
use Rattle.code_images_calls.proofs.call_on_state.Goals.{After-recorded-l}

-- ---- what came in, and what the call gave
abbrev k₀ : After-recorded-l → Kernel
k₀ c = c.args.k

abbrev bytes₀ : After-recorded-l → List ℕ
bytes₀ c = c.args.bytes

abbrev log₀ : After-recorded-l → List ℕ
log₀ c = c.args.log.now

abbrev lent₀ : After-recorded-l → List ℕ
lent₀ c = c.args.room.now

sixteen : (c : After-recorded-l) → length (bytes₀ c) ≡ 16
sixteen c = (is_record (bytes₀ c) _ c.well_formed.1.1.1.0).0

-- where it answers 0
module _ (c : After-recorded-l) (z : c.recorded-l.result.answer.number ≡ 0) where
  abbrev s : Logged
  s = c.recorded-l.result

  accepted : number_of (k₀ c) (call_of (bytes₀ c)) ≡ 0
  accepted = (run_accepted (k₀ c) (bytes₀ c) (sixteen c) _ c.recorded-l.ensures.result z).0

  answered : s.answer ≡ answer 0 (value_of (k₀ c) (call_of (bytes₀ c))) (state_after (k₀ c) (bytes₀ c)).runner
  answered = ap (λ (x : Logged). x.answer) (run_accepted (k₀ c) (bytes₀ c) (sixteen c) _ c.recorded-l.ensures.result z).1

  next_is : s.kernel ≡ state_after (k₀ c) (bytes₀ c)
  next_is = run_next (k₀ c) (bytes₀ c) (sixteen c) _ c.recorded-l.ensures.result z

  stands : (s.used ≤ length c.recorded-l.new.log) × (take s.used c.recorded-l.new.log ≡ note_for (k₀ c) (bytes₀ c))
      × (s.used ≡ length (note_for (k₀ c) (bytes₀ c)))
  stands =
      note_stands (k₀ c) (bytes₀ c) (sixteen c) _ c.recorded-l.ensures.result z _ c.recorded-l.ensures.written

  -- whether the note has room
  room_is : {r : Bool} → r ≡ leb (c.args.used + s.used) (length (log₀ c)) → room (log₀ c) c.args.used (note_for (k₀ c) (bytes₀ c)) ≡ r
  room_is e =
      let (_, _, n) = stands in
      ap (λ m. leb (c.args.used + m) (length (log₀ c))) (sym n) ∙ sym e

  -- what the room holds then
  lent_then : {m : List ℕ} → m ≡ noted (lent₀ c) 0 (image_of s.kernel) → m ≡ noted (lent₀ c) 0 (image_of (state_after (k₀ c) (bytes₀ c)))
  lent_then e = e ∙ ap (λ (k : Kernel). noted (lent₀ c) 0 (image_of k)) next_is

  size_is : {n : ℕ} → n ≡ ends (lent₀ c) 0 (image_of s.kernel) → n ≡ ends (lent₀ c) 0 (image_of (state_after (k₀ c) (bytes₀ c)))
  size_is e = e ∙ ap (λ (k : Kernel). ends (lent₀ c) 0 (image_of k)) next_is

pub returns-then-l-ne0 : goal.returns-then-l-ne0
returns-then-l-ne0 c =
    let d = (goal.at.returns-then-l-ne0 c).After-recorded-l in
    let a = c.args in
    let e = c.recorded-l.ensures.result in
    let (x, y, l) =
    left_refused (k₀ d) (bytes₀ d) (log₀ d) a.used (lent₀ d) a.length
    (run_refused (k₀ d) (bytes₀ d) (sixteen d) _ e c.if-l-ne0.true) _ e in
    (c.left.ensures ∙ x, y, l)

pub returns-then-not-has_room : goal.returns-then-not-has_room
returns-then-not-has_room c =
    let d = (goal.at.returns-then-not-has_room c).After-recorded-l in
    let a = c.args in
    let z = c.if-l-ne0.false in
    let (x, y, l) =
    left_note (k₀ d) (bytes₀ d) (log₀ d) a.used (lent₀ d) a.length (accepted d z)
    (room_is d z c.has_room.ensures ∙ c.if-not-has_room.true) in
    (c.no_room.ensures ∙ x, y, l)

pub returns-then-n-eq0 : goal.returns-then-n-eq0
returns-then-n-eq0 c =
    let d = (goal.at.returns-then-n-eq0 c).After-recorded-l in
    let a = c.args in
    let z = c.if-l-ne0.false in
    let e = c.put_whole-n.ensures in
    let (x, y, l) =
    left_image (k₀ d) (bytes₀ d) (log₀ d) a.used (lent₀ d) a.length (accepted d z)
    (fits_none (state_after (k₀ d) (bytes₀ d)) (lent₀ d) (sym (size_is d z e.0) ∙ c.if-n-eq0.true)) in
    (c.no_room-then-n-eq0.ensures ∙ x, lent_then d z e.1 ∙ y, l)

pub slice_bounds-note-end : goal.slice_bounds-note-end
slice_bounds-note-end c = (stands (goal.at.slice_bounds-note-end c).After-recorded-l c.if-l-ne0.false).0

pub slice_bounds-write-end : goal.slice_bounds-write-end
slice_bounds-write-end c =
    sym (length-take-le _ _ (stands (goal.at.slice_bounds-write-end c).After-recorded-l c.if-l-ne0.false).0)

pub returns : goal.returns
returns c =
    let d = (goal.at.returns c).After-recorded-l in
    let a = c.args in
    let z = c.if-l-ne0.false in
    let e = c.put_whole-n.ensures in
    let note = note_for (k₀ d) (bytes₀ d) in
    let next = state_after (k₀ d) (bytes₀ d) in
    let b : room (log₀ d) a.used note ≡ true = room_is d z c.has_room.ensures ∙ c.if-not-has_room.false in
    let (f, n) = fits_some next (lent₀ d) (λ h. c.if-n-eq0.false (size_is d z e.0 ∙ h)) in
    let (x, y, l) = both_kept (k₀ d) (bytes₀ d) (log₀ d) a.used (lent₀ d) a.length (accepted d z) b f in
    let (_, h, _) = stands d z in
    let written = c.write-end.ensures.0 ∙ ap (noted (log₀ d) a.used) h in
    let end = c.write-end.ensures.1 ∙ ap (ends (log₀ d) a.used) h ∙ ends_behind (log₀ d) a.used note b in
    (c.left-2.ensures ∙ stored_by (answered d z) (size_is d z e.0 ∙ n) end ∙ x, lent_then d z e.1 ∙ y, written ∙ l)
