-- The sections of an image, as the code has them written: against the call and the tables that its own functions give.
use Prim.Native.Nat.{ℕ, ◌≤◌}
use mathlib.Core.Path.{◌≡◌, ap, sym, ◌∙◌}
use mathlib.Core.List.{List, append-nil}
use lib.ListN.{length, replicate}
use Rattle.base_bytes.specs.Bytes.{le}
use Rattle.base_bytes.specs.Pens.{Pen, pen, put, puts}
use Rattle.base_bytes.proofs.Writing.{puts_append}
use Rattle.spec_kernel.specs.declared.records.Kernel.{Kernel}
use Rattle.spec_kernel.specs.Sizes.{thread_count, semaphore_count, event_count, message_count}
use Rattle.spec_kernel.specs.Records.{fresh}
use Rattle.spec_moves.specs.Standing.{threads_of, posts_of}
use Rattle.spec_calls.specs.declared.call.Call.{Call}
use Rattle.spec_notes.specs.Sections.{thread_entries, semaphore_entries, event_entries, message_entries}
use Rattle.spec_notes.specs.Notes.{section}
use Rattle.code_notes.proofs.ScratchParts.{Held, held}
use Rattle.spec_images.specs.Images.{no_call, fresh_events, scheduler_stored, threads_stored, semaphores_stored, events_stored}
use Rattle.spec_images.specs.Images.{flags_stored, messages_stored, edition, image_of}

-- a part that was written, by another name
pub held_as : {n : ℕ} {m part stored : List ℕ} {r : ℕ} → length stored ≤ n → part ≡ stored
    → pen m r ≡ puts (pen (replicate n 0) 0) part → Held m r stored
held_as {n} h e w = held h (w ∙ ap (puts (pen (replicate n 0) 0)) e)

module _ (k : Kernel) {none : Kernel} (f : none ≡ fresh) where
  -- the bits, and the entries behind them
  pub events_put : (p : Pen) {q r : Pen} → r ≡ puts q (event_entries k.events none.events 0 event_count) → q ≡ puts p (le 4 k.bits)
      → r ≡ puts p (events_stored k)
  unfolding events_stored fresh
  events_put p {q = q} e bits =
      e ∙ ap (λ (u : Kernel). puts q (event_entries k.events u.events 0 event_count)) f
      ∙ ap (λ w. puts w (event_entries k.events fresh_events 0 event_count)) bits
      ∙ sym (puts_append p (le 4 k.bits) (event_entries k.events fresh_events 0 event_count))

  module _ {c : Call} (e : c ≡ no_call) where
    pub threads_stored_lem : thread_entries c k.runner (threads_of k) none.threads 0 thread_count ≡ threads_stored k
    unfolding threads_stored fresh
    threads_stored_lem =
        ap (λ x. thread_entries x k.runner (threads_of k) none.threads 0 thread_count) e
        ∙ ap (λ (u : Kernel). thread_entries no_call k.runner (threads_of k) u.threads 0 thread_count) f

    pub semaphores_stored_lem : semaphore_entries c k.semaphores none.semaphores 0 semaphore_count ≡ semaphores_stored k
    unfolding semaphores_stored fresh
    semaphores_stored_lem =
        ap (λ x. semaphore_entries x k.semaphores none.semaphores 0 semaphore_count) e
        ∙ ap (λ (u : Kernel). semaphore_entries no_call k.semaphores u.semaphores 0 semaphore_count) f

    pub messages_stored_lem : message_entries c 255 (posts_of k) none.messages 0 message_count ≡ messages_stored k
    unfolding messages_stored fresh
    messages_stored_lem =
        ap (λ x. message_entries x 255 (posts_of k) none.messages 0 message_count) e
        ∙ ap (λ (u : Kernel). message_entries no_call 255 (posts_of k) u.messages 0 message_count) f

-- each section written behind the one before it
pub sections_put : (k : Kernel) (p : Pen) {b h t s e f m : Pen}
    → b ≡ put p edition
    → h ≡ puts b (section (scheduler_stored k))
    → t ≡ puts h (section (threads_stored k))
    → s ≡ puts t (section (semaphores_stored k))
    → e ≡ puts s (section (events_stored k))
    → f ≡ puts e (section (flags_stored k.flags))
    → m ≡ puts f (section (messages_stored k))
    → m ≡ puts p (image_of k)
unfolding image_of puts
sections_put k p byte scheduler threads semaphores events flags messages =
    rw (messages, flags, events, semaphores, threads, scheduler, byte) (simp (append-nil, puts_append))
