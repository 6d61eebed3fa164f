-- What is promised of writing a state; and that the entries of an image are those of the live records.
use Prim.Native.Nat.{ℕ, ◌≤◌, ◌<◌}
use mathlib.Core.Path.{◌≡◌, refl, sym, ap, ◌∙◌}
use mathlib.Core.Bool.{Bool, true, false, false≢true}
use mathlib.Core.List.{List, ◌++◌}
use mathlib.Core.Logic.{◌↔◌}
use native.Mathlib.Omega.{arith}
use lib.ListN.{length, get_or, drop}
use borrow.Table.Steps.{cases}
use Rattle.spec_kernel.specs.declared.records.Kernel.{Kernel}
use Rattle.spec_kernel.specs.Sizes.{thread_count, semaphore_count, message_count}
use Rattle.spec_kernel.specs.Records.{no_semaphore, semaphore}
use Rattle.spec_moves.specs.Standing.{threads_of, posts_of}
use Rattle.spec_rules.specs.Rules.{Rules, DeadSemaphores}
use Rattle.spec_rules.specs.Tests.{keeps_rules}
use Rattle.spec_rules.proofs.Exactly.{rules_mean, rules_hold}
use Rattle.spec_notes.specs.Touched.{changed_semaphore, touched_thread, touched_message}
use Rattle.spec_notes.specs.Sections.{entries_from, thread_entry, semaphore_entry, message_entry}
use Rattle.spec_notes.specs.Within.{OfTypes}
use Rattle.spec_images.specs.declared.Written.{Written}
use Rattle.spec_images.specs.Images.{no_call, no_threads, no_semaphores, no_posts, threads_stored, semaphores_stored, messages_stored}
use Rattle.spec_images.specs.Images.{image_of}
use Rattle.spec_images.specs.OnImages.{written, fits, stored_in, lent_then}
use Rattle.spec_images.specs.Promises.{BrokenIsNotStored, NoRoomIsRefused, RefusedWritesNothing, ImageIsWritten, StoredAway}
use Rattle.spec_images.specs.Promises.{LiveInOrder, OneWriting}
use Rattle.spec_images.proofs.Front.{in_front, fits_in, fits_not, front_length}
use Rattle.spec_images.proofs.Nothing.{none_there, semaphore_told, thread_live, message_live}

module _ (k : Kernel) (lent : List ℕ) where
  abbrev image : List ℕ
  image = image_of k

  -- written, or no room, or a broken state
  one_of_three : (P : Written → List ℕ → Type 0)
      → (keeps_rules k ≡ true → length image ≤ length lent → P (written 0 (length image)) (in_front k lent))
      → (keeps_rules k ≡ true → length lent < length image → P (written 13 0) lent)
      → (keeps_rules k ≡ false → P (written 14 0) lent)
      → P (stored_in k lent) (lent_then k lent)
  unfolding stored_in lent_then
  one_of_three P a f b =
      cases (keeps_rules k)
      (λ e. cases (fits k lent) (λ h. let (l, n) = fits_in k lent h in rw (e, h, n) (a e l))
      (λ h. let (l, n) = fits_not k lent h in rw (e, h, n) (f e l)))
      (λ e. rw e (b e))

  pub stores : OfTypes k → StoredAway k lent (stored_in k lent) (lent_then k lent)
  unfolding BrokenIsNotStored NoRoomIsRefused RefusedWritesNothing ImageIsWritten
  stores T =
      let mean : keeps_rules k ≡ true → Rules k = rules_mean k T.sized in
      let hold : Rules k → keeps_rules k ≡ true = rules_hold k T.sized in
      record {
        result = refl;
        bytes = refl;
        broken_is_not_stored =
            one_of_three (λ r _. (r.number ≡ 14) ↔ (Rules k → ⊥)) (λ e _. (λ z. absurd (omega arith), λ n. absurd (n (mean e))))
            (λ e _. (λ z. absurd (omega arith), λ n. absurd (n (mean e)))) (λ e. (λ _ R. false≢true (sym e ∙ hold R), λ _. refl));
        no_room_is_refused =
            one_of_three (λ r _. (r.number ≡ 13) ↔ (Rules k × (length lent < length image)))
            (λ _ h. (λ z. absurd (omega arith), λ n. absurd (omega (arith, n.1)))) (λ e h. (λ _. (mean e, h), λ _. refl))
            (λ e. (λ z. absurd (omega arith), λ n. absurd (false≢true (sym e ∙ hold n.0))));
        refused_writes_nothing =
            one_of_three (λ r l. (r.number ≡ 0 → ⊥) → (l ≡ lent) × (r.length ≡ 0)) (λ _ _ n. absurd (n refl)) (λ _ _ _. (refl, refl))
            (λ _ _. (refl, refl));
        image_is_written =
            one_of_three
            (λ r l. r.number ≡ 0
            → (l ≡ image ++ drop (length image) lent) × (r.length ≡ length image) × (length l ≡ length lent))
            (λ _ h _. (refl, refl, front_length k lent h)) (λ _ _ z. absurd (omega arith)) (λ _ z. absurd (omega arith));
      }

pub one_writing : OneWriting
unfolding OneWriting
one_writing k lent r s l m R S = (R.result ∙ sym S.result, R.bytes ∙ sym S.bytes)

-- ---- the entries
semaphore_live : (k : Kernel) → Rules k → (i : ℕ)
    → changed_semaphore no_call (semaphore k i) (get_or no_semaphores i no_semaphore) ≡ (semaphore k i).live
unfolding DeadSemaphores
semaphore_live k R i = rw (none_there semaphore_count i no_semaphore) (semaphore_told (semaphore k i) (R.dead_semaphores i))

pub live_in_order : LiveInOrder
unfolding LiveInOrder threads_stored semaphores_stored messages_stored touched_thread touched_message
live_in_order k K = (
  ap (λ (f : ℕ → Bool). entries_from f (thread_entry no_call (threads_of k) no_threads.records) 0 thread_count) (λ i t. thread_live k K t i),
  ap (λ (f : ℕ → Bool). entries_from f (semaphore_entry no_call k.semaphores no_semaphores) 0 semaphore_count)
      (λ i t. semaphore_live k K.rules t i),
  ap (λ (f : ℕ → Bool). entries_from f (message_entry no_call 255 (posts_of k) no_posts.records) 0 message_count)
      (λ i t. message_live k K t i),
)
