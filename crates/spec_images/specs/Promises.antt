-- What is promised of a stored state [02 §2]. Writing, reading, and a call and an undo on an image have a record each: what is promised of
-- whatever comes back; the public function's contract is that record. Then the promises over all images.
-- What is given is a value of its type (Undamaged has that, AreBytes) and nothing more.
use Rattle.std.specs.Prelude.{ℕ, ◌≤◌, ◌<◌, ◌≡◌, List, ◌++◌, ◌↔◌, length, take, drop}
use Rattle.spec_kernel.specs.declared.records.Kernel.{Kernel}
use Rattle.spec_kernel.specs.Sizes.{thread_count, semaphore_count, message_count}
use Rattle.spec_kernel.specs.Records.{fresh, thread, semaphore, message}
use Rattle.spec_moves.specs.Standing.{threads_of, posts_of}
use Rattle.spec_rules.specs.Rules.{Rules}
use Rattle.spec_notes.specs.Sections.{entries_from, thread_entry, semaphore_entry, message_entry}
use Rattle.spec_answers.specs.declared.Logged.{Logged}
use Rattle.spec_answers.specs.Steps.{answer}
use Rattle.spec_answers.specs.Logs.{called_with, log_called, undone}
use Rattle.spec_answers.specs.Runs.{Undamaged}
use Rattle.spec_images.specs.declared.Recalled.{Recalled}
use Rattle.spec_images.specs.declared.Written.{Written}
use Rattle.spec_images.specs.declared.Stored.{Stored}
use Rattle.spec_images.specs.Images.{no_call, no_threads, no_semaphores, no_posts, threads_stored, semaphores_stored, messages_stored}
use Rattle.spec_images.specs.Images.{image_of, longest_image, recalled, read_from}
use Rattle.spec_images.specs.OnImages.{stored_in, lent_then, stored, called_on, lent_called, log_called_on, undone_on, lent_undone, record_or0}

-- ---- Writing: r comes back, and lent' is what the lent room holds then.
-- 14 exactly where the state breaks a rule.
unfoldable pub BrokenIsNotStored : Kernel → Written → Type 0
BrokenIsNotStored k r = (r.number ≡ 14) ↔ (Rules k → ⊥)

-- 13 exactly where the rules are kept and the room is shorter than the image.
unfoldable pub NoRoomIsRefused : Kernel → List ℕ → Written → Type 0
NoRoomIsRefused k lent r = (r.number ≡ 13) ↔ (Rules k × (length lent < length (image_of k)))

-- Neither writes anything.
unfoldable pub RefusedWritesNothing : List ℕ → Written → List ℕ → Type 0
RefusedWritesNothing lent r lent' = (r.number ≡ 0 → ⊥) → (lent' ≡ lent) × (r.length ≡ 0)

-- Else exactly the image, its length, and every other lent byte as it was.
unfoldable pub ImageIsWritten : Kernel → List ℕ → Written → List ℕ → Type 0
ImageIsWritten k lent r lent' =
    r.number ≡ 0
    → (lent' ≡ image_of k ++ drop (length (image_of k)) lent) × (r.length ≡ length (image_of k)) × (length lent' ≡ length lent)

pub record StoredAway (k : Kernel) (lent : List ℕ) (r : Written) (lent' : List ℕ) : Type 0 where
  pub result : r ≡ stored_in k lent
  pub bytes : lent' ≡ lent_then k lent
  pub broken_is_not_stored : BrokenIsNotStored k r
  pub no_room_is_refused : NoRoomIsRefused k lent r
  pub refused_writes_nothing : RefusedWritesNothing lent r lent'
  pub image_is_written : ImageIsWritten k lent r lent'

-- ---- Reading any bytes: r comes back.
-- they are the image of this state, which keeps the rules
abbrev pub IsImageOf : List ℕ → Kernel → Type 0
IsImageOf s k = Undamaged k × (image_of k ≡ s)

-- An image is accepted exactly if it is the one for some state that keeps the rules.
unfoldable pub ReadExactly : List ℕ → Recalled → Type 0
ReadExactly s r = (r.number ≡ 0) ↔ ((k : Kernel) × IsImageOf s k)

-- It then gives that state.
unfoldable pub ReadIsThat : List ℕ → Recalled → Type 0
ReadIsThat s r = (k : Kernel) → IsImageOf s k → r ≡ recalled 0 k

-- Else it is refused with 16 and yields nothing: whatever the bytes are, the same comes back.
unfoldable pub ElseNothing : List ℕ → Recalled → Type 0
ElseNothing s r = ((k : Kernel) → IsImageOf s k → ⊥) → r ≡ recalled 16 fresh

pub record ReadBack (s : List ℕ) (r : Recalled) : Type 0 where
  pub result : r ≡ read_from s
  pub read_exactly : ReadExactly s r
  pub read_is_that : ReadIsThat s r
  pub else_nothing : ElseNothing s r

-- ---- A call and an undo on an image, which is the first n of the lent bytes.
-- that image is there, and is this state's
abbrev pub Holds : List ℕ → ℕ → Kernel → Type 0
Holds lent n k = (n ≤ length lent) × IsImageOf (take n lent) k

-- 16 exactly where there is none, a length beyond the lent bytes too: value and runner 255, and nothing changes.
unfoldable pub DamagedIsRefused : List ℕ → ℕ → Stored → Type 0
DamagedIsRefused lent n r = (r.answer.number ≡ 16) ↔ ((k : Kernel) → Holds lent n k → ⊥)

unfoldable pub NothingChanges : List ℕ → ℕ → List ℕ → ℕ → Stored → List ℕ → List ℕ → Type 0
NothingChanges lent n log used r lent' log' =
    (r.answer.number ≡ 0 → ⊥)
    → (r.answer.value ≡ 255) × (r.length ≡ n) × (r.used ≡ used) × (lent' ≡ lent) × (log' ≡ log)
    × (r.answer.number ≡ 16 → r.answer.runner ≡ 255)

-- Where the same on the state k gives l, with this log: its number where it is refused; last of all 13 where the new image has no room;
-- else its answer, its log, and the image of its state, which reads back.
pub record AsOnState (k : Kernel) (l : Logged) (log'' lent : List ℕ) (n used : ℕ) (r : Stored) (lent' log' : List ℕ) : Type 0 where
  pub refused : (l.answer.number ≡ 0 → ⊥) → r.answer ≡ l.answer
  pub no_room : l.answer.number ≡ 0 → length lent < length (image_of l.kernel) → r.answer ≡ answer 13 255 k.runner
  pub accepted : l.answer.number ≡ 0 → length (image_of l.kernel) ≤ length lent
      → (r ≡ stored l.answer (length (image_of l.kernel)) l.used)
      × (lent' ≡ image_of l.kernel ++ drop (length (image_of l.kernel)) lent) × (length lent' ≡ length lent) × (log' ≡ log'')
      × Holds lent' r.length l.kernel

pub record AnsweredOn (lent : List ℕ) (n : ℕ) (bytes log : List ℕ) (used : ℕ) (r : Stored) (lent' log' : List ℕ) : Type 0 where
  pub result : r ≡ called_on lent n bytes log used
  pub image : lent' ≡ lent_called lent n bytes log used
  pub written : log' ≡ log_called_on lent n bytes log used
  pub damaged_is_refused : DamagedIsRefused lent n r
  pub nothing_changes : NothingChanges lent n log used r lent' log'
  pub as_on_state : (k : Kernel) → Holds lent n k
      → AsOnState k (called_with k bytes log used) (log_called k bytes log used) lent n used r lent' log'

-- the log is lent for reading
pub record UndoneOn (lent : List ℕ) (n : ℕ) (log : List ℕ) (used : ℕ) (r : Stored) (lent' : List ℕ) : Type 0 where
  pub result : r ≡ undone_on lent n log used
  pub image : lent' ≡ lent_undone lent n log used
  pub damaged_is_refused : DamagedIsRefused lent n r
  pub nothing_changes : NothingChanges lent n log used r lent' log
  pub as_on_state : (k : Kernel) → Holds lent n k → AsOnState k (undone k log used) log lent n used r lent' log

-- ---- Over all images.
-- To read a state's image gives the state back.
unfoldable pub ReadsBack : Type 0
ReadsBack = (k : Kernel) → Undamaged k → read_from (image_of k) ≡ recalled 0 k

-- A state that keeps the rules has one image, `image_of`; and no other such state has the same.
unfoldable pub OneState : Type 0
OneState = (k u : Kernel) → Undamaged k → Undamaged u → image_of k ≡ image_of u → k ≡ u

-- No image is longer than this, whatever the state.
unfoldable pub ImagesAreShort : Type 0
ImagesAreShort = (k : Kernel) → length (image_of k) ≤ longest_image

-- The entries are those of the live records, in id order [02 §2].
unfoldable pub LiveInOrder : Type 0
LiveInOrder =
    (k : Kernel) → Undamaged k
    → (threads_stored k ≡ entries_from (λ t. (thread k t).live) (thread_entry no_call (threads_of k) no_threads.records) 0 thread_count)
    × (semaphores_stored k ≡ entries_from (λ i. (semaphore k i).live) (semaphore_entry no_call k.semaphores no_semaphores) 0 semaphore_count)
    × (messages_stored k ≡ entries_from (λ m. (message k m).live) (message_entry no_call 255 (posts_of k) no_posts.records) 0 message_count)

-- A record that isn't sixteen bytes gets 1 on every image.
unfoldable pub OtherLengthsGetOne : Type 0
OtherLengthsGetOne =
    (lent : List ℕ) (n : ℕ) (bytes log : List ℕ) (used : ℕ) (k : Kernel) → Holds lent n k → (length bytes ≡ 16 → ⊥)
    → called_on lent n (record_or0 bytes) log used ≡ stored (answer 1 255 k.runner) n used

-- ---- Two results that a contract allows are equal, and so is what the lent memory holds [01, promises 2].
unfoldable pub OneWriting : Type 0
OneWriting =
    (k : Kernel) (lent : List ℕ) (r s : Written) (l m : List ℕ) → StoredAway k lent r l → StoredAway k lent s m → (r ≡ s) × (l ≡ m)

unfoldable pub OneReading : Type 0
OneReading = (bytes : List ℕ) (r s : Recalled) → ReadBack bytes r → ReadBack bytes s → r ≡ s

unfoldable pub OneCallOn : Type 0
OneCallOn =
    (lent : List ℕ) (n : ℕ) (bytes log : List ℕ) (used : ℕ) (r s : Stored) (l m i j : List ℕ)
    → AnsweredOn lent n bytes log used r l i → AnsweredOn lent n bytes log used s m j → (r ≡ s) × (l ≡ m) × (i ≡ j)

unfoldable pub OneUndoOn : Type 0
OneUndoOn =
    (lent : List ℕ) (n : ℕ) (log : List ℕ) (used : ℕ) (r s : Stored) (l m : List ℕ)
    → UndoneOn lent n log used r l → UndoneOn lent n log used s m → (r ≡ s) × (l ≡ m)
