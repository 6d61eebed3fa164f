-- The ways out of a call on an image's state, each from what its tests have found.
use Prim.Native.Nat.{ℕ, ◌+◌, ◌-◌, ◌≤◌}
use mathlib.Core.Path.{◌≡◌, refl, sym, ap, ◌∙◌}
use mathlib.Core.Bool.{Bool, true, false, cond}
use mathlib.Core.List.{List}
use native.Mathlib.Omega.{arith}
use lib.Dec.{eqb, leb}
use lib.ListN.{length, replicate}
use borrow.Author.Tests.{le-leb, lt-leb, leb-true, leb-false}
use borrow.Table.Steps.{cases}
use Rattle.base_bytes.specs.Logs.{room, noted, ends}
use Rattle.spec_kernel.specs.declared.records.Kernel.{Kernel}
use Rattle.spec_calls.specs.Calls.{call_of}
use Rattle.spec_refusals.specs.Refusals.{number_of}
use Rattle.spec_refusals.specs.Named.{value_of}
use Rattle.spec_notes.specs.Notes.{longest_note}
use Rattle.spec_answers.specs.declared.Answer.{Answer}
use Rattle.spec_answers.specs.declared.Logged.{Logged}
use Rattle.spec_answers.specs.Steps.{answer}
use Rattle.spec_answers.specs.Logs.{state_after, note_for, recorded, log_after}
use Rattle.spec_images.specs.declared.Stored.{Stored}
use Rattle.spec_images.specs.Images.{image_of}
use Rattle.spec_images.specs.OnImages.{fits, stored, keeping, keeping_in}

-- what fits behind the used part
pub leb_behind : (used size n : ℕ) → used ≤ n → leb size (n - used) ≡ leb (used + size) n
leb_behind used size n b =
    cases (leb size (n - used)) (λ e. rw e (sym (le-leb (used + size) n (omega (arith, leb-true size (n - used) e)))))
    (λ e. rw e (sym (lt-leb (used + size) n (omega (arith, leb-false size (n - used) e)))))

-- where a note ends that has room
pub ends_behind : (log : List ℕ) (used : ℕ) (note : List ℕ) → room log used note ≡ true → ends log used note ≡ used + length note
unfolding ends
ends_behind log used note h = rw h

-- by equals
pub stored_by : {x y : Answer} {n m used end : ℕ} → x ≡ y → n ≡ m → used ≡ end → stored x n used ≡ stored y m end
stored_by e f g = λ i. stored (e i) (f i) (g i)

module _ (k : Kernel) (bytes log : List ℕ) (used : ℕ) (lent : List ℕ) (n : ℕ) where
  abbrev l : Logged
  l = recorded k bytes log used

  -- what is to come back, and to stand in the room and in the log
  abbrev pub Left : Stored → List ℕ → List ℕ → Type 0
  Left r lent' log' =
      (r ≡ keeping l k lent n used) × (lent' ≡ keeping_in l lent) × (log' ≡ cond (fits l.kernel lent) (log_after k bytes log used) log)

  -- the same log, whether there is room or not
  same_log : (b : Bool) → log ≡ cond b log log
  same_log true = refl
  same_log false = refl

  -- refused: so it was on the log beside
  pub left_refused : eqb (number_of k (call_of bytes)) 0 ≡ false → (s : Logged) → s ≡ recorded k bytes (replicate longest_note 0) 0
      → Left (stored s.answer n used) lent log
  unfolding recorded log_after
  left_refused e s h =
      let a : s.answer ≡ answer (number_of k (call_of bytes)) 255 k.runner = ap (λ (x : Logged). x.answer) h ∙ rw e in
      rw (e, a) (rw e, rw e, same_log (fits k lent))

  module _ (z : number_of k (call_of bytes) ≡ 0) where
    -- no room for the note
    pub left_note : room log used (note_for k bytes) ≡ false → Left (stored (answer 13 255 k.runner) n used) lent log
    unfolding recorded log_after noted
    left_note h = rw (z, h) (refl, refl, same_log (fits k lent))

    -- or for the image
    pub left_image : fits (state_after k bytes) lent ≡ false
        → Left (stored (answer 13 255 k.runner) n used) (noted lent 0 (image_of (state_after k bytes))) log
    unfolding recorded log_after noted
    left_image h =
        cases (room log used (note_for k bytes)) (λ e. rw (z, e, h) (refl, refl, refl))
        (λ e. rw (z, e, h) (refl, refl, same_log (fits k lent)))

    -- or for both
    pub both_kept : room log used (note_for k bytes) ≡ true → fits (state_after k bytes) lent ≡ true
        → Left (stored (answer 0 (value_of k (call_of bytes)) (state_after k bytes).runner) (length (image_of (state_after k bytes)))
        (used + length (note_for k bytes)))
        (noted lent 0 (image_of (state_after k bytes)))
        (noted log used (note_for k bytes))
    unfolding recorded log_after noted
    both_kept e h = rw (z, e, h) (refl, refl, refl)
