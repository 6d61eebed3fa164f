-- No image is longer than the longest, and each of its sections fits the two bytes of its length.
use Prim.Native.Nat.{ℕ, ◌+◌, ◌*◌, ◌≤◌}
use mathlib.Core.Path.{◌≡◌}
use native.Mathlib.Omega.{arith}
use lib.ListN.{length, length-append}
use Rattle.base_bytes.proofs.Numbers.{length_le}
use Rattle.spec_kernel.specs.declared.records.Kernel.{Kernel}
use Rattle.spec_kernel.specs.Sizes.{thread_count, semaphore_count, event_count, message_count}
use Rattle.spec_moves.specs.Standing.{posts_of}
use Rattle.spec_notes.proofs.EntriesShort.{threads_run, semaphores_run, events_run, messages_run}
use Rattle.spec_notes.proofs.FramesRead.{Short, none, more}
use Rattle.spec_images.specs.Images.{no_call, no_semaphores, fresh_events, no_posts, scheduler_stored, threads_stored}
use Rattle.spec_images.specs.Images.{semaphores_stored, events_stored, flags_stored, messages_stored, stored_sections, image_of}
use Rattle.spec_images.specs.Images.{longest_image}
use Rattle.spec_images.specs.Promises.{ImagesAreShort}

pub flags_below : (flags : ℕ) → length (flags_stored flags) ≡ 2
unfolding flags_stored
flags_below flags = length_le 2 flags

module _ (k : Kernel) where
  pub scheduler_below : length (scheduler_stored k) ≡ 7
  unfolding scheduler_stored
  scheduler_below = rw (length-append, length_le)

  pub threads_below : length (threads_stored k) ≤ 15 * thread_count
  unfolding threads_stored
  threads_below = search (arith, threads_run)

  pub semaphores_below : length (semaphores_stored k) ≤ 15 * semaphore_count
  unfolding semaphores_stored
  semaphores_below = semaphores_run no_call k.semaphores no_semaphores 0 semaphore_count

  pub events_below : length (events_stored k) ≤ 4 + 11 * event_count
  unfolding events_stored
  events_below = rw (length-append, length_le) (omega (arith, events_run k.events fresh_events 0 event_count))

  pub messages_below : length (messages_stored k) ≤ 17 * message_count
  unfolding messages_stored
  messages_below = messages_run no_call 255 (posts_of k) no_posts.records 0 message_count

  pub sections_short : Short (stored_sections k)
  sections_short =
      more {s = scheduler_stored k} (omega (arith, scheduler_below))
      (more {s = threads_stored k} (omega (arith, threads_below))
      (more {s = semaphores_stored k} (omega (arith, semaphores_below))
      (more {s = events_stored k} (omega (arith, events_below))
      (more {s = flags_stored k.flags} (omega (arith, flags_below k.flags))
      (more {s = messages_stored k} (omega (arith, messages_below)) none)))))

  pub image_short : length (image_of k) ≤ longest_image
  unfolding image_of
  image_short =
      simp (length-append, length_le)
      (omega (arith, scheduler_below, threads_below, semaphores_below, events_below, flags_below k.flags, messages_below))

pub images_are_short : ImagesAreShort
unfolding ImagesAreShort
images_are_short = image_short
