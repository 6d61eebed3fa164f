-- A state's image reads back: its sections, and of them the state.
use mathlib.Core.Path.{◌≡◌, sym, ap, ◌∙◌}
use mathlib.Core.List.{[], ◌∷◌}
use lib.ListN.{drop}
use Rattle.base_bytes.specs.Bytes.{le}
use Rattle.base_bytes.proofs.Numbers.{drop_le, un_le}
use Rattle.base_queue.proofs.Counts.{same}
use Rattle.spec_kernel.specs.declared.records.Kernel.{Kernel}
use Rattle.spec_kernel.specs.Sizes.{event_count}
use Rattle.spec_notes.specs.Sections.{threads_section, semaphores_section, event_entries, events_section, messages_section}
use Rattle.spec_notes.specs.Back.{threads_back, events_before, posts_back}
use Rattle.spec_notes.proofs.FramesRead.{sections_back}
use Rattle.spec_notes.proofs.ThreadsBack.{threads_back_lem, places-back, time-back}
use Rattle.spec_notes.proofs.SemaphoresBack.{semaphores_back}
use Rattle.spec_notes.proofs.EventsBack.{events_back}
use Rattle.spec_notes.proofs.MessagesBack.{messages_back, posted_back}
use Rattle.spec_answers.specs.Runs.{Undamaged}
use Rattle.spec_images.specs.Images.{no_call, fresh_events, scheduler_stored, threads_stored, semaphores_stored, events_stored}
use Rattle.spec_images.specs.Images.{flags_stored, messages_stored, stored_sections, image_of, state_from, state_in}
use Rattle.spec_images.proofs.Nothing.{bare, bare_sized, bare_rules, alone}
use Rattle.spec_images.proofs.Lengths.{sections_short}

module _ (k : Kernel) (K : Undamaged k) where
  -- the events' section of a note against the bare state is their entries alone: the bits are the same
  entries_alone : events_section k no_call (bare k) ≡ event_entries k.events fresh_events 0 event_count
  unfolding events_section
  entries_alone = rw (same k.bits)

  pub sections_told : state_from (stored_sections k) ≡ k
  unfolding
      state_from threads_back posts_back threads_stored threads_section semaphores_stored semaphores_section events_stored flags_stored
      messages_stored messages_section scheduler_stored le
  sections_told =
      let Z = K.types.sized in
      let W = K.types.within in
      let R = K.rules in
      let Z' = bare_sized k in
      let R' = bare_rules k in
      let F = alone k K in
      let entries = event_entries k.events fresh_events 0 event_count in
      let events : events_before fresh_events (drop 4 (events_stored k)) ≡ k.events =
      ap (events_before fresh_events) (drop_le 4 k.bits entries ∙ sym entries_alone) ∙ events_back k no_call (bare k) W Z Z' in
      let bits = un_le 4 k.bits entries W.bits in
      let uptime = un_le 4 k.uptime (k.unscheduled ∷ k.critical ∷ k.runner ∷ []) W.uptime in
      let flags = un_le 2 k.flags [] W.flags in
      λ i. record {
        threads = threads_back_lem k no_call (bare k) Z R W Z' R' i;
        semaphores = semaphores_back k no_call (bare k) W Z Z' i;
        events = events i;
        messages = messages_back k no_call (bare k) Z W Z' i;
        places = places-back k no_call (bare k) Z R W Z' R' F i;
        time = time-back k no_call (bare k) Z R W Z' R' F i;
        posted = posted_back k no_call (bare k) Z W Z' R R' F i;
        bits = bits i;
        uptime = uptime i;
        unscheduled = k.unscheduled;
        critical = k.critical;
        runner = k.runner;
        flags = flags i;
      }

  pub state_back : state_in (image_of k) ≡ k
  unfolding image_of
  state_back = ap state_from (sections_back (sections_short k)) ∙ sections_told
