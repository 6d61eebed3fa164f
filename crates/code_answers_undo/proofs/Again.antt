-- The branches of the undo, each from what its tests have found.
use Prim.Native.Nat.{ℕ, ◌+◌, ◌-◌, ◌≤◌}
use mathlib.Core.Path.{◌≡◌, refl, sym, ap, ◌∙◌}
use mathlib.Core.Bool.{Bool, true, false, cond, and-true, and-eq-true_iff, false≢true}
use mathlib.Core.List.{List, [], ◌++◌}
use native.Mathlib.Omega.{arith}
use lib.Dec.{eqb, ltb}
use lib.ListN.{length, take, drop, replicate, length-append, length-replicate, drop_of_length-le}
use lib.Seq.{take_at, take-nil}
use borrow.Author.Tests.{eqb-true, eq-eqb, le-leb, ltb-true, ltb-false, leb-true}
use borrow.Table.Steps.{cases}
use Rattle.base_bytes.specs.Bytes.{un}
use Rattle.base_bytes.proofs.Appending.{noted_room}
use Rattle.spec_kernel.specs.declared.records.Kernel.{Kernel}
use Rattle.spec_rules.specs.declared.tests.Asked.{Asked}
use Rattle.spec_rules.specs.Tests.{keeps_asked}
use Rattle.spec_calls.specs.declared.call.Call.{Call}
use Rattle.spec_calls.specs.Calls.{call_of}
use Rattle.spec_refusals.specs.Refusals.{number_of}
use Rattle.spec_refusals.specs.Named.{value_of}
use Rattle.spec_notes.specs.Touched.{same_row}
use Rattle.spec_notes.specs.Same.{same_asked}
use Rattle.spec_notes.specs.Notes.{section_count, longest_note}
use Rattle.spec_notes.specs.Back.{state_before}
use Rattle.spec_notes.specs.Frames.{nothing, sections, is_whole, are_whole, section_bytes, frames_of}
use Rattle.spec_notes.specs.Undo.{last_length, has_last, last_note}
use Rattle.spec_notes.specs.Undoes.{call_bytes, back_from, is_decoded, levels_fit, asked_by, yields_asked}
use Rattle.spec_notes.specs.Undoes.{undoes_note_kept, undoes_kept}
use Rattle.code_notes.proofs.BeforeLength.{note_short}
use Rattle.code_notes_back.specs.declared.state_back.Back.{Back}
use Rattle.code_notes_back.specs.Restored.{back_of}
use Rattle.spec_answers.specs.declared.Logged.{Logged}
use Rattle.spec_answers.specs.Steps.{answer}
use Rattle.spec_answers.specs.Logs.{logged, state_after, note_for, recorded, log_after, undone_kept}

-- The call run again on a log of 2,048 bytes, which has room for any note: s is what comes back.
module _ (k : Kernel) (bytes : List ℕ) (sixteen : length bytes ≡ 16) (s : Logged)
    (e : s ≡ recorded k bytes (replicate longest_note 0) 0) where
  room_for_any : 0 + length (note_for k bytes) ≤ length {A = ℕ} (replicate longest_note 0)
  unfolding note_for
  room_for_any = rw length-replicate (omega (arith, note_short k bytes (state_after k bytes) sixteen))

  pub run_refused : (s.answer.number ≡ 0 → ⊥) → eqb (number_of k (call_of bytes)) 0 ≡ false
  unfolding recorded
  run_refused h =
      cases (eqb (number_of k (call_of bytes)) 0)
      (λ z. absurd (h (ap (λ (x : Logged). x.answer.number) e ∙ rw (z, le-leb _ _ room_for_any)))) (λ z. z)

  module _ (z : s.answer.number ≡ 0) where
    pub run_accepted : (number_of k (call_of bytes) ≡ 0) ×
        (s ≡ logged (answer 0 (value_of k (call_of bytes)) (state_after k bytes).runner) (state_after k bytes) (0 + length (note_for k bytes)))
    unfolding recorded
    run_accepted =
        cases (eqb (number_of k (call_of bytes)) 0)
        (λ y. (eqb-true (number_of k (call_of bytes)) 0 y, e ∙ rw (y, le-leb _ _ room_for_any)))
        (λ y. let n : number_of k (call_of bytes) ≡ 0 = sym (ap (λ (x : Logged). x.answer.number) e ∙ rw y) ∙ z in
        absurd (false≢true (sym y ∙ eq-eqb (number_of k (call_of bytes)) 0 n)))

    pub run_next : s.kernel ≡ state_after k bytes
    run_next = ap (λ (x : Logged). x.kernel) run_accepted.1

    -- the note stands at the front of the log
    pub note_stands : (log : List ℕ) → log ≡ log_after k bytes (replicate longest_note 0) 0
        → (s.used ≤ length log) × (take s.used log ≡ note_for k bytes) × (s.used ≡ length (note_for k bytes))
    unfolding log_after
    note_stands log f =
        let (n, a) = run_accepted in
        let y = eq-eqb (number_of k (call_of bytes)) 0 n in
        let v : s.used ≡ 0 + length (note_for k bytes) = ap (λ (x : Logged). x.used) a in
        let u : s.used ≡ length (note_for k bytes) = omega (arith, v) in
        let g : log ≡ note_for k bytes ++ drop (0 + length (note_for k bytes)) (replicate longest_note 0) =
        f ∙ rw (y, noted_room (replicate longest_note 0) 0 (note_for k bytes) room_for_any) in
        (rw (g, length-append, u) (omega arith), rw (g, u) (take_at (note_for k bytes) _ _ refl), u)

module _ (a : Asked) (k : Kernel) (bytes : List ℕ) (end : Kernel) (note : List ℕ) where
  pub levels_pass : levels_fit k ≡ false → yields_asked a k bytes end note ≡ false
  unfolding yields_asked
  levels_pass e = rw e

  module _ (l : levels_fit k ≡ true) where
    pub again_broken : keeps_asked a k ≡ false → false ≡ yields_asked a k bytes end note
    unfolding yields_asked
    again_broken e = rw (l, e)

    module _ (r : keeps_asked a k ≡ true) where
      pub again_refused : eqb (number_of k (call_of bytes)) 0 ≡ false → false ≡ yields_asked a k bytes end note
      unfolding yields_asked
      again_refused n = rw (l, r, n)

      module _ (n : number_of k (call_of bytes) ≡ 0) where
        pub again-other : false ≡ same_row (note_for k bytes) note → false ≡ yields_asked a k bytes end note
        unfolding yields_asked note_for
        again-other h = rw (l, r, n, sym h)

        pub again-same : true ≡ same_row (note_for k bytes) note → (next : Kernel) → next ≡ state_after k bytes
            → same_asked a next end ≡ yields_asked a k bytes end note
        unfolding yields_asked note_for
        again-same h next e = ap (λ (u : Kernel). same_asked a u end) e ∙ rw (l, r, n, sym h, and-true)

-- by equals
pub asked_by_lem : {a a' : Asked} {k k' : Kernel} {bytes bytes' : List ℕ} (end : Kernel) (note : List ℕ)
    → a ≡ a' → k ≡ k' → bytes ≡ bytes' → yields_asked a k bytes end note ≡ yields_asked a' k' bytes' end note
asked_by_lem end note a k b = rw (a, k, b)

-- ---- the frame
none_whole : are_whole section_count [] ≡ false
unfolding are_whole is_whole un
none_whole = refl

module _ (k : Kernel) (note : List ℕ) where
  pub note_none : frames_of note ≡ nothing → undoes_note_kept k note ≡ false
  unfolding undoes_note_kept
  note_none e = rw e

  module _ (x : List (List ℕ)) (e : frames_of note ≡ sections x) where
    -- a note that has a frame has its call record
    pub framed_size : 16 ≤ length note
    unfolding frames_of section_bytes
    framed_size =
        cases (ltb (length note) 16)
        (λ b. let n : drop 16 note ≡ [] = drop_of_length-le note {i = 16} (omega (arith, ltb-true (length note) 16 b)) in
        let f : nothing ≡ sections x = rw (n, take-nil, none_whole) at e in
        absurd (false≢true (ap is_decoded f))) (λ b. ltb-false (length note) 16 b)

    pub framed_back : back_from k note ≡ state_before (call_of (call_bytes note)) k x
    unfolding back_from
    framed_back = rw e

    abbrev pub asked : Kernel → Bool
    asked old = yields_asked (asked_by (call_of (call_bytes note)) x) old (call_bytes note) k note

    pub framed_undoes : undoes_note_kept k note ≡ asked (state_before (call_of (call_bytes note)) k x)
    unfolding undoes_note_kept back_from
    framed_undoes = rw e

    -- what comes back of the note, by the two tests of the state before
    module _ (before used : ℕ) where
      abbrev old : Kernel
      old = state_before (call_of (call_bytes note)) k x

      abbrev left : Logged
      left =
          cond (undoes_note_kept k note) (logged (answer 0 255 (back_from k note).runner) (back_from k note) before)
          (logged (answer 15 255 k.runner) k used)

      pub left_other : asked old ≡ false → logged (answer 15 255 k.runner) k used ≡ left
      left_other h = rw (framed_undoes, h)

      pub left_unfit : levels_fit old ≡ false → logged (answer 15 255 k.runner) k used ≡ left
      left_unfit h = left_other (levels_pass _ old (call_bytes note) k note h)

      pub left_back : asked old ≡ true → logged (answer 0 255 old.runner) old before ≡ left
      left_back h = rw (framed_undoes, h, framed_back)

-- the two fields of what is read back
pub back_parts : (c : Call) (k : Kernel) (x : List (List ℕ)) (r : Back) → r ≡ back_of c k x
    → (r.fits ≡ levels_fit (state_before c k x)) × (levels_fit (state_before c k x) ≡ true → r.kernel ≡ state_before c k x)
unfolding back_of
back_parts c k x r e = (ap (λ (b : Back). b.fits) e, λ h. ap (λ (b : Back). b.kernel) e ∙ rw h)

-- ---- the log
module _ (log : List ℕ) (used : ℕ) (h : has_last log used ≡ true) where
  pub last_within : (last_length log used ≤ used) × (used ≤ length log)
  unfolding has_last
  last_within =
      let (((_, b), _), d) = simp and-eq-true_iff at h in
      (leb-true (last_length log used) used d, leb-true used (length log) b)

  pub last_part : take (used - (used - last_length log used)) (drop (used - last_length log used) log) ≡ last_note log used
  unfolding last_note
  last_part =
      let (b, _) = last_within in
      let e : used - (used - last_length log used) ≡ last_length log used = omega (arith, b) in
      rw (h, e)

  -- the note that the code lends is the last one
  pub undone_part : (k : Kernel) (n : ℕ) → n ≡ last_length log used
      → (let note = take (used - (used - n)) (drop (used - n) log) in
      cond (undoes_note_kept k note) (logged (answer 0 255 (back_from k note).runner) (back_from k note) (used - n))
      (logged (answer 15 255 k.runner) k used))
      ≡ undone_kept k log used
  unfolding undone_kept undoes_kept
  undone_part k n e = rw (e, last_part, h)
