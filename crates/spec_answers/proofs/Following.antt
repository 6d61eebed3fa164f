-- A run that follows a list of calls does so after each step: after a call, accepted or refused, and after an undo of a kept note.
use Prim.Native.Nat.{ℕ, ◌+◌, ◌≤◌}
use mathlib.Core.Path.{◌≡◌, refl, sym, ap, ◌∙◌}
use mathlib.Core.List.{List, [], ◌∷◌, ◌++◌, append_assoc}
use native.Mathlib.Omega.{arith}
use lib.ListN.{length, take, drop, take-append-drop, length-append, length-take, length-drop}
use lib.Seq.{take_at, length-take-le}
use borrow.Author.Tests.{ne_eqb, leb-true}
use Rattle.base_bytes.specs.Logs.{with_note}
use Rattle.spec_kernel.specs.declared.records.Kernel.{Kernel}
use Rattle.spec_rules.proofs.Exactly.{rules_hold}
use Rattle.spec_calls.specs.Calls.{call_of}
use Rattle.spec_refusals.specs.Refusals.{number_of}
use Rattle.spec_notes.specs.Undo.{has_last, last_note, Yields}
use Rattle.spec_notes.specs.Undoes.{undoes}
use Rattle.spec_notes.proofs.FramesRead.{record_back, last_back}
use Rattle.spec_notes.proofs.Yields.{yields_kept}
use Rattle.spec_answers.specs.Steps.{Stepped, accepted, called}
use Rattle.spec_answers.specs.Logs.{state_after, note_for, undone}
use Rattle.spec_answers.specs.Runs.{Undamaged, IsRecord, replayed, Accepts, notes, joined, Run, Follows, call, undo}
use Rattle.spec_answers.specs.Runs.{given, after, counting, led_back, stood_at}
use Rattle.spec_answers.specs.Promises.{UndoneIsThat}
use Rattle.spec_answers.proofs.Kept.{either}
use Rattle.spec_answers.proofs.WithLogs.{with_length, one_of_four}
use Rattle.spec_answers.proofs.Undos.{not_undone, undone_is_that_lem}

-- ---- a list of calls
-- an accepted call yields the next state and its note
pub accepted_yields : (k : Kernel) (bytes : List ℕ) → Undamaged k → IsRecord bytes → (called k bytes).answer.number ≡ 0
    → Yields k bytes (called k bytes).kernel (note_for k bytes)
unfolding note_for
accepted_yields k bytes U (n, b) =
    let T = U.types in
    let R = U.rules in
    either k bytes (rules_hold k T.sized R) (λ s. s.answer.number ≡ 0 → Yields k bytes s.kernel (note_for k bytes))
    (λ a _. record { sized = T.sized; inside = T.within; rules = R; sixteen = n; small = b; accepted = a; state = refl; noted = refl })
    (λ r a. absurd (r a))

-- the state after accepted calls is as the one before them
pub replayed_kept : (k : Kernel) (calls : List (List ℕ)) → Undamaged k → Accepts k calls → Undamaged (replayed k calls)
replayed_kept k [] K _ = K
replayed_kept k (bytes ∷ calls) K (b, a, A) =
    let (Z, R, W, _) = yields_kept (accepted_yields (replayed k calls) bytes (replayed_kept k calls K A) b a) in
    record { types = record { sized = Z; within = W }; rules = R }

-- ---- a log with a note behind its used part
module _ (log : List ℕ) (used : ℕ) (note : List ℕ) (h : used + length note ≤ length log) where
  with_used : take (used + length note) (with_note log used note) ≡ take used log ++ note
  with_used =
      let e : length (take used log ++ note) ≡ used + length note = rw (length-append, length-take-le used log (omega arith)) in
      rw (← append_assoc) (take_at (take used log ++ note) (drop (used + length note) log) (used + length note) e)

-- ---- a run that follows a list of calls
module _ (start : Run) (gone : List (List ℕ)) where
  -- the state that the kept notes begin with, and what stands before them
  abbrev first : Kernel
  first = replayed start.kernel gone

  abbrev front : List ℕ
  front = take start.used start.log

  -- a call keeps it: accepted it is one more, and refused it changes nothing
  pub call_follows : {calls : List (List ℕ)} {r : Run} (bytes : List ℕ) → IsRecord bytes → Follows start gone calls r
      → Follows start gone (counting calls (call bytes) (given r (call bytes)).answer.number) (after r (call bytes))
  call_follows {calls} {r} bytes b F =
      let k = r.kernel in
      let note = note_for k bytes in
      one_of_four k bytes r.log r.used
      (λ x log _ s. called k bytes ≡ s
      → Follows start gone (counting calls (call bytes) x.answer.number)
      (record { kernel = x.kernel; log = log; used = x.used }))
      (λ _ _ room e. let h = leb-true (r.used + length note) (length r.log) room in
      let u = F.ends in
      let c : called (replayed first calls) bytes ≡ accepted k (call_of bytes) = rw (← F.state) e in
      record {
        earlier = F.earlier;
        accepted = (b, ap (λ (s : Stepped). s.answer.number) c, F.accepted);
        state = sym (ap (λ (s : Stepped). s.kernel) c);
        lent = with_length r.log r.used note h ∙ F.lent;
        ends = rw (length-append, ← F.state) (omega arith);
        stands =
            rw (← F.state) (with_used r.log r.used note h ∙ ap (λ (l : List ℕ). l ++ note) F.stands ∙ append_assoc front _ note);
      })
      (λ _ _ _ _. F) (λ _ n _. rw (ne_eqb (number_of k (call_of bytes)) 0 n) F) (λ _ _. F) refl

  module _ (K : Undamaged start.kernel) where
    -- its state is as that of the start
    pub run_kept : {calls : List (List ℕ)} {r : Run} → Follows start gone calls r → Undamaged r.kernel
    run_kept {calls} F = rw F.state (replayed_kept first calls (replayed_kept start.kernel gone K F.earlier) F.accepted)

    -- an undo keeps it where a note is kept: the last call is one no more
    module _ {bytes : List ℕ} {calls : List (List ℕ)} {r : Run} (F : Follows start gone (bytes ∷ calls) r) where
      -- the note, and what stands before it
      abbrev note : List ℕ
      note = note_for (replayed first calls) bytes

      abbrev before : List ℕ
      before = front ++ joined (notes first calls)

      -- the log holds both and what isn't used of it
      whole : before ++ (note ++ drop r.used r.log) ≡ r.log
      whole =
          let e : before ++ note ≡ take r.used r.log = append_assoc front (joined (notes first calls)) note ∙ sym F.stands in
          rw (← append_assoc, e) (take-append-drop r.used r.log)

      -- a note has its call record, so the run began within its log
      size : (length before ≡ (stood_at start gone calls []).used) × (r.used ≡ length before + length note)
      unfolding note_for
      size =
          let q = replayed first calls in
          let n = F.accepted.0.0 in
          let u = rw length-append at F.ends in
          let low = simp length-take at (ap length (record_back q bytes (state_after q bytes) n)) in
          let all = simp (length-append, length-take, length-drop) at (ap length whole) in
          let l = F.lent in
          simp (length-append, length-take) (omega arith)

      -- so the note is the last of the log
      last_is : last_note r.log r.used ≡ note
      unfolding note_for
      last_is =
          let q = replayed first calls in
          rw (whole, ← size.1) at (last_back q bytes (state_after q bytes) F.accepted.0.0 before (drop r.used r.log))

      -- in the same log stands the run that follows the calls before that one,
      run_follows : Follows start gone calls (stood_at start gone calls r.log)
      run_follows =
          let e =
          ap (take (stood_at start gone calls []).used) (sym whole) ∙ take_at before (note ++ drop r.used r.log) _ size.0 in
          record { earlier = F.earlier; accepted = F.accepted.2; state = refl; lent = F.lent; ends = refl; stands = e }

      -- and an undo leads there: it answers 0, value 255 and who ran then, and gives that state and used length,
      pub undo_given : given r undo ≡ led_back (stood_at start gone calls r.log)
      unfolding UndoneIsThat
      undo_given =
          let q = replayed first calls in
          let (b, a, _) = F.accepted in
          let Y : Yields q bytes r.kernel (last_note r.log r.used) =
          rw (F.state, last_is) (accepted_yields q bytes (run_kept run_follows) b a) in
          let (n, k, u) = undone_is_that_lem r.kernel r.log r.used q bytes Y in
          let v = rw last_is at u in
          let (s, t) = size in
          let l : (undone r.kernel r.log r.used).used ≡ (stood_at start gone calls []).used = omega arith in
          λ i. record { answer = n i; kernel = k i; used = l i }

      -- so that the run follows them
      pub undo_follows : Follows start gone calls (after r undo)
      undo_follows = rw undo_given run_follows

    -- from an empty log every undo keeps it: where no note is kept it answers 15 and changes nothing
    pub any_undo_follows : {calls : List (List ℕ)} {r : Run} → start.used ≡ 0 → Follows start gone calls r
        → Follows start gone (counting calls undo (given r undo).answer.number) (after r undo)
    unfolding undoes has_last
    any_undo_follows {calls = []} {r = r} z F =
        let u : r.used ≡ 0 = rw (F.ends, z) in
        let U = run_kept F in
        rw (not_undone r.kernel r.log r.used (rules_hold r.kernel U.types.sized U.rules) (rw u)) F
    any_undo_follows {calls = bytes ∷ calls} z F = rw (undo_given F) (run_follows F)
