-- The three ends of a call with a log: refused, no room, noted.
use Prim.Native.Nat.{ℕ, ◌+◌}
use mathlib.Core.Path.{◌≡◌, sym, ap, ◌∙◌}
use mathlib.Core.Bool.{true, false}
use mathlib.Core.List.{List}
use native.Mathlib.Omega.{arith}
use lib.Dec.{eqb}
use lib.ListN.{length}
use borrow.Author.Tests.{eq-eqb, ne_eqb}
use borrow.Table.Steps.{cases}
use Rattle.base_bytes.specs.Logs.{room, noted, ends}
use Rattle.spec_kernel.specs.declared.records.Kernel.{Kernel}
use Rattle.spec_calls.specs.Calls.{call_of}
use Rattle.spec_refusals.specs.Refusals.{number_of}
use Rattle.spec_refusals.specs.Named.{value_of}
use Rattle.spec_notes.specs.Notes.{note_of}
use Rattle.spec_notes.proofs.FramesRead.{note_sizes}
use Rattle.spec_answers.specs.Steps.{answer}
use Rattle.code_answers_given.specs.Given.{given}
use Rattle.spec_answers.specs.Logs.{logged, state_after, note_for, recorded, log_after}

module _ (k : Kernel) (bytes log : List ℕ) (used : ℕ) where
  pub ends_refused : (n : ℕ) → n ≡ number_of k (call_of bytes) → (n ≡ 0 → ⊥)
      → (logged (answer n 255 k.runner) k used ≡ recorded k bytes log used) × (log ≡ log_after k bytes log used)
  unfolding recorded log_after
  ends_refused n e h =
      let z : eqb (number_of k (call_of bytes)) 0 ≡ false = ne_eqb (number_of k (call_of bytes)) 0 (λ u. h (e ∙ u)) in
      (rw (e, z), rw z)

  module _ (sixteen : length bytes ≡ 16) (n : number_of k (call_of bytes) ≡ 0) where
    zero_number : eqb (number_of k (call_of bytes)) 0 ≡ true
    zero_number = eq-eqb (number_of k (call_of bytes)) 0 n

    pub log_noted : noted log used (note_for k bytes) ≡ log_after k bytes log used
    unfolding log_after
    log_noted = rw zero_number

    pub ends_full : ends log used (note_for k bytes) ≡ used → logged (answer 13 255 k.runner) k used ≡ recorded k bytes log used
    unfolding recorded ends note_for
    ends_full h =
        let (low, _) = note_sizes k bytes (state_after k bytes) sixteen in
        cases (room log used (note_for k bytes))
        (λ e. let w : used + length (note_for k bytes) ≡ used = rw e at h in absurd (omega (arith, w, low))) (λ e. rw (zero_number, e))

    pub ends_noted : (ends log used (note_for k bytes) ≡ used → ⊥)
        → logged (answer 0 (value_of k (call_of bytes)) (state_after k bytes).runner) (state_after k bytes) (ends log used (note_for k bytes))
        ≡ recorded k bytes log used
    unfolding recorded ends
    ends_noted h = cases (room log used (note_for k bytes)) (λ e. rw (zero_number, e)) (λ e. absurd (h (rw e)))

-- What a call that is not refused leaves: u the next state, v the value, log' and end the writer's.
pub record Left (k : Kernel) (bytes log log' : List ℕ) (used end v : ℕ) (u : Kernel) : Type 0 where
  pub log_after_lem : log' ≡ log_after k bytes log used
  pub no_room_lem : end ≡ used → logged (given v k.runner u.runner used end) k used ≡ recorded k bytes log used
  pub with_room : (end ≡ used → ⊥) → logged (given v k.runner u.runner used end) u end ≡ recorded k bytes log used

pub left : (k : Kernel) (bytes log log' : List ℕ) (used end v : ℕ) (u : Kernel) → length bytes ≡ 16
    → number_of k (call_of bytes) ≡ 0 → v ≡ value_of k (call_of bytes) → u ≡ state_after k bytes
    → (log' ≡ noted log used (note_of k bytes u)) × (end ≡ ends log used (note_of k bytes u)) → Left k bytes log log' used end v u
unfolding note_for
left k bytes log log' used end v u sixteen n e s (l, d) =
    let same : note_of k bytes u ≡ note_for k bytes = rw s in
    let f : end ≡ ends log used (note_for k bytes) = d ∙ ap (ends log used) same in
    record {
      log_after_lem = l ∙ ap (noted log used) same ∙ log_noted k bytes log used sixteen n;
      no_room_lem = λ h. rw (eq-eqb end used h) (ends_full k bytes log used sixteen n (sym f ∙ h));
      with_room = λ h. rw (ne_eqb end used h, s, e, f) (ends_noted k bytes log used sixteen n (λ z. h (f ∙ z)));
    }
