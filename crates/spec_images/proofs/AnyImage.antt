-- Whatever bytes are read, the state that they tell has its sizes; and where it keeps the rules, its fields have their limits.
use Prim.Native.Nat.{ℕ}
use mathlib.Core.Path.{◌∙◌}
use mathlib.Core.List.{List}
use lib.ListN.{drop, length-replicate}
use Rattle.base_bytes.proofs.Numbers.{un_small}
use Rattle.base_rows.proofs.Fitted.{drop_bytes}
use Rattle.spec_kernel.specs.Sizes.{thread_count, semaphore_count, event_count, message_count}
use Rattle.spec_kernel.specs.Records.{fresh, no_thread, no_semaphore, fresh_event, no_message}
use Rattle.spec_rules.specs.Rules.{Sized, Rules}
use Rattle.proof_rules.proofs.Ends.{before}
use Rattle.spec_notes.specs.Notes.{section_count, threads_in, semaphores_in, events_in, flags_in, messages_in}
use Rattle.spec_notes.specs.Back.{threads_back, posts_back}
use Rattle.spec_notes.specs.Within.{Within, AreBytes}
use Rattle.spec_notes.proofs.Limits.{Limits, limits_within}
use Rattle.spec_notes.proofs.AnyNote.{threads_any, threads_sized, semaphores_any, semaphores_sized_lem}
use Rattle.spec_notes.proofs.AnyNote.{events_any, events_sized_lem, messages_any, messages_sized, back_full}
use Rattle.spec_notes.proofs.Undoing.{SmallSections, sections_bytes}
use Rattle.spec_answers.specs.Runs.{Undamaged}
use Rattle.spec_answers.specs.Promises.{FreshIsUndamaged}
use Rattle.spec_answers.proofs.Fresh.{fresh_is_undamaged}
use Rattle.spec_images.specs.Images.{no_call, no_threads, no_semaphores, fresh_events, no_posts, state_from, state_in, sections_stored}

module _ (x : List (List ℕ)) (S : SmallSections x) where
  -- nothing is live, and each field has its limit
  fresh_within : Within fresh
  unfolding FreshIsUndamaged
  fresh_within = fresh_is_undamaged.types.within

  told_sized : Sized (state_from x)
  unfolding state_from threads_back posts_back fresh
  told_sized =
      let W = fresh_within in
      record {
        threads =
            threads_sized no_call no_threads.records (λ t. (W.ticks t, W.priority t)) (threads_in x)
            ∙ length-replicate thread_count no_thread;
        semaphores =
            semaphores_sized_lem no_call no_semaphores (λ i. (W.maximum i, W.left i, W.period i)) (semaphores_in x)
            ∙ length-replicate semaphore_count no_semaphore;
        events =
            events_sized_lem fresh_events (λ i. (W.mask i, W.values i)) (drop 4 (events_in x)) ∙ length-replicate event_count fresh_event;
        messages =
            messages_sized no_call 255 no_posts.records (λ m. (W.kind m, W.size m, W.address m, W.channel m)) (messages_in x)
            ∙ length-replicate message_count no_message;
        places = back_full _ _ no_threads.places;
        time = back_full _ _ no_threads.time;
        posted = back_full _ _ no_posts.posted;
        priorities = λ i. (threads_any no_call no_threads.records (λ t. (W.ticks t, W.priority t)) (threads_in x) (S _) i).1;
        channels = λ i.
            (messages_any no_call 255 no_posts.records (λ m. (W.kind m, W.size m, W.address m, W.channel m)) (messages_in x) (S _) i).3;
      }

  told_limits : Limits (state_from x)
  unfolding state_from threads_back posts_back fresh
  told_limits =
      let W = fresh_within in
      record {
        threads = λ i. (threads_any no_call no_threads.records (λ t. (W.ticks t, W.priority t)) (threads_in x) (S _) i).0;
        semaphores = semaphores_any no_call no_semaphores (λ i. (W.maximum i, W.left i, W.period i)) (semaphores_in x) (S _);
        events = events_any fresh_events (λ i. (W.mask i, W.values i)) (drop 4 (events_in x)) (drop_bytes 4 (events_in x) (S _));
        messages = λ i.
            let (a, b, d, _) =
            messages_any no_call 255 no_posts.records (λ m. (W.kind m, W.size m, W.address m, W.channel m)) (messages_in x) (S _) i in
            (a, b, d);
        bits = un_small 4 (events_in x) (S _);
        flags = un_small 2 (flags_in x) (S _);
        scheduler = (un_small 4 _ (S 0), S 0 4, S 0 5);
      }

module _ (s : List ℕ) (B : AreBytes s) where
  small : SmallSections (sections_stored s)
  small = sections_bytes section_count (drop 1 s) (drop_bytes 1 s B)

  pub state_sized : Sized (state_in s)
  state_sized = told_sized (sections_stored s) small

  pub state_undamaged : Rules (state_in s) → Undamaged (state_in s)
  state_undamaged R =
      let Z = state_sized in
      record {
        types = record { sized = Z; within = limits_within (before (state_in s) Z R) (told_limits (sections_stored s) small) };
        rules = R;
      }
