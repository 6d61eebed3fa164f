-- Laws on a note at the end of a log: what the log holds with it, and what it keeps.
use Prim.Native.Nat.{ℕ, ◌+◌, ◌-◌, ◌≤◌, ◌<◌}
use mathlib.Core.Path.{◌≡◌, refl}
use mathlib.Core.List.{List, [], ◌∷◌, ◌++◌}
use mathlib.Core.Bool.{Bool, true, false, cond}
use native.Mathlib.Omega.{arith}
use lib.ListN.{length, take, drop, length-append, length-take, length-drop}
use lib.Seq.{take_at, drop_at, drop-drop, length-take-le}
use borrow.Author.Tests.{le-leb, lt-leb, leb-true, leb-false}
use Rattle.base_bytes.specs.Logs.{room, with_note, noted, ends, shown}

module _ (log : List ℕ) (used : ℕ) (note : List ℕ) where
  -- With room the note stands between what was before it and what was behind it.
  module _ (h : used + length note ≤ length log) where
    pub noted_room : noted log used note ≡ with_note log used note
    unfolding noted
    noted_room = rw (le-leb (used + length note) (length log) h)

    pub ends_room : ends log used note ≡ used + length note
    unfolding ends
    ends_room = rw (le-leb (used + length note) (length log) h)

  -- Without, nothing is written.
  module _ (h : length log < used + length note) where
    pub noted_none : noted log used note ≡ log
    unfolding noted
    noted_none = rw (lt-leb (used + length note) (length log) h)

    pub ends_none : ends log used note ≡ used
    unfolding ends
    ends_none = rw (lt-leb (used + length note) (length log) h)

  -- What holds with room and without holds.
  either : (P : List ℕ → ℕ → List ℕ → Type 0)
      → (used + length note ≤ length log → P (with_note log used note) (used + length note) note)
      → (length log < used + length note → P log used [])
      → P (noted log used note) (ends log used note) (shown log used note)
  unfolding noted ends shown
  either P fitting full = go (room log used note) refl
    where
      go : (b : Bool) → room log used note ≡ b → P (cond b (with_note log used note) log) (cond b (used + length note) used) (cond b note [])
      go true e = fitting (leb-true _ _ e)
      go false e = full (leb-false _ _ e)

  -- The log keeps its length,
  pub noted_length : length (noted log used note) ≡ length log
  noted_length = either (λ l _ _. length l ≡ length log) (λ h. simp (length-append, length-take, length-drop) (omega arith)) (λ _. refl)

  -- the used part,
  pub noted_before : take used (noted log used note) ≡ take used log
  noted_before =
      either (λ l _ _. take used l ≡ take used log) (λ h. take_at (take used log) _ used (length-take-le used log (omega arith)))
      (λ _. refl)

  -- and what is behind the note.
  pub noted_behind : drop (used + length note) (noted log used note) ≡ drop (used + length note) log
  noted_behind = either (λ l _ _. drop (used + length note) l ≡ drop (used + length note) log) behind (λ _. refl)
    where
      behind : used + length note ≤ length log → drop (used + length note) (with_note log used note) ≡ drop (used + length note) log
      behind h =
          let e : length (take used log) ≡ used = length-take-le used log (omega arith) in
          rw (
            ← drop-drop (length note) used (with_note log used note),
            drop_at (take used log) (note ++ drop
                (used + length note) log) used e,
          )
          (drop_at note (drop (used + length note) log) (length note) refl)

  -- What was written stands between the two ends.
  pub shown_between : take (ends log used note - used) (drop used (noted log used note)) ≡ shown log used note
  shown_between = either (λ l e s. take (e - used) (drop used l) ≡ s) between nothing
    where
      between : used + length note ≤ length log → take (used + length note - used) (drop used (with_note log used note)) ≡ note
      between h =
          let e : used + length note - used ≡ length note = omega arith in
          rw (drop_at (take used log) (note ++ drop (used + length note) log) used (length-take-le used log (omega arith)), e)
          (take_at note (drop (used + length note) log) (length note) refl)

      nothing : length log < used + length note → take (used - used) (drop used log) ≡ []
      nothing h = let e : used - used ≡ 0 = omega arith in rw e

  -- Where the end did not move, nothing was written, and where it moved, it stays within the log.
  pub shown_still : ends log used note ≤ used → shown log used note ≡ []
  shown_still = either (λ _ e s. e ≤ used → s ≡ []) (λ h. nothing note) (λ _ _. refl)
    where
      nothing : (s : List ℕ) → used + length s ≤ used → s ≡ []
      nothing [] h = refl
      nothing (x ∷ s) h = absurd (omega arith)

  pub ends_moved : used < ends log used note → ends log used note ≤ length log
  ends_moved = either (λ _ e _. used < e → e ≤ length log) (λ h _. h) (λ _ h. absurd (omega arith))
