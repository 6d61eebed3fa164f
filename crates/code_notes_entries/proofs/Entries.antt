-- The entries of a run of ids, one after another.
use Prim.Native.Nat.{ℕ, suc, ◌+◌, ◌-◌, ◌≤◌, ◌<◌, min}
use mathlib.Core.Path.{◌≡◌, refl, sym, ◌∙◌}
use mathlib.Core.Bool.{Bool, true, false, cond, false≢true}
use mathlib.Core.List.{List, [], ◌++◌}
use lib.ListN.{length, get_or}
use native.Mathlib.Numerals.{add-one}
use native.Mathlib.Omega.{arith}
use borrow.Table.Steps.{cases}
use Rattle.spec_kernel.specs.Records.{no_semaphore, no_event, no_message}
use Rattle.spec_moves.proofs.Joins.{past_end}
use Rattle.spec_calls.specs.declared.call.Call.{Call}
use Rattle.spec_refusals.specs.Refusals.{is}
use Rattle.spec_notes.specs.Touched.{same_semaphore, same_event, same_message, younger_semaphore}
use Rattle.spec_notes.specs.Touched.{changed_semaphore, changed_event, changed_message}
use Rattle.spec_notes.specs.Sections.{entries_from}
use Rattle.spec_notes.proofs.EntriesShort.{entries_none}

module _ (touched : ℕ → Bool) (entry : ℕ → List ℕ) where
  -- those of the ids from i up to e: the first of them, and those behind it
  pub entries_next : (i e : ℕ) → i < e
      → entries_from touched entry i (e - i) ≡ cond (touched i) (entry i) [] ++ entries_from touched entry (i + 1) (e - (i + 1))
  entries_next i e h =
      let n : e - i ≡ suc (e - (i + 1)) = omega arith in
      rw (n, add-one) (go (touched i))
    where
      go : (b : Bool) → cond b (entry i ++ entries_from touched entry (suc i) (e - suc i)) (entries_from touched entry (suc i) (e - suc i))
          ≡ cond b (entry i) [] ++ entries_from touched entry (suc i) (e - suc i)
      go true = refl
      go false = refl

  -- from e on there is none
  pub entries_done : (i e : ℕ) → e ≤ i → entries_from touched entry i (e - i) ≡ []
  entries_done i e h = let n : e - i ≡ 0 = omega arith in rw n

-- past the last record there is the empty one on both sides, which no call changes: no entry
pub entries_past : {A : Type 0} (changed : A → A → Bool) (old new : List A) (d : A) (entry : ℕ → List ℕ) {m i : ℕ} (e : ℕ)
    → length old ≡ m → length new ≡ m → changed d d ≡ false → min e m ≤ i
    → entries_from (λ j. changed (get_or old j d) (get_or new j d)) entry i (e - i) ≡ []
entries_past changed old new d entry {m} {i} e f g z h =
    entries_none _ entry i (e - i)
    (λ j l u t. let b : m ≤ j = omega arith in false≢true (sym z ∙ (rw (past_end old d f b, past_end new d g b) at t)))

pub no_semaphore_lem : (c : Call) → changed_semaphore c no_semaphore no_semaphore ≡ false
unfolding same_semaphore younger_semaphore
no_semaphore_lem c = cases (is c 1) (λ e. rw e) (λ e. rw e)

pub no_event_lem : changed_event no_event no_event ≡ false
unfolding same_event
no_event_lem = refl

pub no_message_lem : changed_message no_message no_message ≡ false
unfolding same_message
no_message_lem = refl
