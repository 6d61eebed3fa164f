-- The state in which nothing is live, with the uptime, the bits and the flags of another: it keeps the rules, and an image is told against
-- it as a note against the state after its call. An entry tells of a record exactly where it is live.
use Prim.Native.Nat.{ℕ, zero, suc}
use mathlib.Core.Path.{◌≡◌, refl, sym, ap, ◌∙◌}
use mathlib.Core.Bool.{Bool, true, false, not, or-false, false≢true}
use mathlib.Core.List.{List, []}
use mathlib.Core.Logic.{inl}
use native.Mathlib.Omega.{arith}
use lib.Dec.{ltb}
use lib.ListN.{get_or, replicate}
use borrow.Table.Steps.{cases}
use Rattle.base_queue.specs.Lists.{keep}
use Rattle.base_queue.specs.Queues.{items, is_tidy}
use Rattle.base_queue.specs.Tables.{Placed, is_placed}
use Rattle.spec_kernel.specs.declared.records.Thread.{Thread}
use Rattle.spec_kernel.specs.declared.records.Semaphore.{Semaphore}
use Rattle.spec_kernel.specs.declared.records.Message.{Message}
use Rattle.spec_kernel.specs.declared.records.Kernel.{Kernel}
use Rattle.spec_kernel.specs.Sizes.{thread_count, message_count}
use Rattle.spec_kernel.specs.Records.{no_thread, no_semaphore, no_message, fresh, thread, message}
use Rattle.spec_kernel.specs.Places.{home_of, has_home, is_queued}
use Rattle.spec_kernel.specs.Runner.{chosen}
use Rattle.spec_threads.proofs.LawsOfLists.{keep_none}
use Rattle.spec_moves.specs.States.{state_of}
use Rattle.spec_rules.specs.Rules.{Sized, Rules, DeadThreads, DeadMessages}
use Rattle.spec_rules.specs.Tests.{is_no_thread, is_no_semaphore, is_no_message, thread_kept, semaphore_kept, message_kept, threads_kept}
use Rattle.spec_rules.specs.Tests.{semaphores_kept, messages_kept, in_rank, in_time, in_stream, places_kept, time_kept, posted_kept, runner_kept}
use Rattle.spec_rules.specs.Tests.{keeps_rules}
use Rattle.spec_rules.proofs.Exactly.{rules_mean}
use Rattle.spec_rules.proofs.FromRules.{standing, filed}
use Rattle.spec_notes.specs.Touched.{same_thread, same_semaphore, same_message, changed_thread, changed_semaphore, changed_message}
use Rattle.spec_notes.specs.Touched.{touched_thread, touched_message}
use Rattle.spec_notes.specs.Predicted.{predicted_flags}
use Rattle.spec_notes.specs.LeftAlone.{LeftAlone}
use Rattle.spec_notes.proofs.RecordsBack.{same_thread_lem, same_semaphore_lem, same_message_lem}
use Rattle.spec_notes.proofs.Lengths.{thread_same, semaphore_same, younger_now, semaphore_now}
use Rattle.spec_answers.specs.Runs.{Undamaged}
use Rattle.spec_answers.specs.Promises.{FreshIsUndamaged}
use Rattle.spec_answers.proofs.Fresh.{fresh_is_undamaged}
use Rattle.spec_images.specs.Images.{no_call, no_threads, no_semaphores, fresh_events, no_posts}

-- each of them is the one that fills the table
pub none_there : {A : Type 0} (n i : ℕ) (x : A) → get_or (replicate n x) i x ≡ x
none_there zero i x = refl
none_there (suc n) zero x = refl
none_there (suc n) (suc i) x = none_there n i x

-- ---- a record has an entry exactly where it is live
unlike : (same live : Bool) → (same ≡ true → live ≡ false) → (live ≡ false → same ≡ true) → not same ≡ live
unlike true live h _ = sym (h refl)
unlike false true _ _ = refl
unlike false false _ h = absurd (false≢true (h refl))

pub thread_told : (t runner : ℕ) (r : Thread) → (r.live ≡ false → r ≡ no_thread) → changed_thread t runner no_call r no_thread ≡ r.live
thread_told t runner r dead =
    rw (younger_now no_call no_thread refl)
    (or-false (not (same_thread r no_thread))
    ∙ unlike (same_thread r no_thread) r.live (λ s. ap (λ (x : Thread). x.live) (same_thread_lem r no_thread s))
    (λ e. rw (dead e) (thread_same no_thread)))

pub semaphore_told : (r : Semaphore) → (r.live ≡ false → r ≡ no_semaphore) → changed_semaphore no_call r no_semaphore ≡ r.live
semaphore_told r dead =
    rw (semaphore_now no_call no_semaphore refl)
    (unlike (same_semaphore r no_semaphore) r.live (λ s. ap (λ (x : Semaphore). x.live) (same_semaphore_lem r no_semaphore s))
    (λ e. rw (dead e) (semaphore_same no_semaphore)))

pub message_told : (r : Message) → (r.live ≡ false → r ≡ no_message) → changed_message r no_message ≡ r.live
unfolding same_message
message_told r dead =
    unlike (same_message r no_message) r.live (λ s. ap (λ (x : Message). x.live) (same_message_lem r no_message s))
    (λ e. rw (dead e) refl)

-- a live record's test is not passed by one that isn't live; so who passes it is live
passes_live : {A : Type 0} (live passes : A → Bool) (r none : A) → (live r ≡ false → r ≡ none) → passes none ≡ false → passes r ≡ true
    → live r ≡ true
passes_live live passes r none dead fails h = cases (live r) (λ e. e) (λ e. absurd (false≢true (sym fails ∙ rw (dead e) at h)))

-- of a table whose members have entries, nobody is left
nobody_left : (told belongs : ℕ → Bool) (l : List ℕ) → Placed belongs l → ((x : ℕ) → belongs x ≡ true → told x ≡ true)
    → [] ≡ keep (λ x. not (told x)) l
nobody_left told belongs l P h =
    sym (keep_none l (λ x m. ap not (h x (cases (belongs x) (λ e. e) (λ e. absurd (omega (arith, rw (P x, e) at m)))))))

module _ (k : Kernel) where
  abbrev pub bare : Kernel
  bare = state_of no_threads no_semaphores fresh_events k.bits k.flags no_posts k.uptime 0 0 255

  pub bare_sized : Sized bare
  unfolding fresh FreshIsUndamaged
  bare_sized =
      let F = fresh_is_undamaged.types.sized in
      record {
        threads = F.threads;
        semaphores = F.semaphores;
        events = F.events;
        messages = F.messages;
        places = F.places;
        time = F.time;
        posted = F.posted;
        priorities = F.priorities;
        channels = F.channels;
      }

  bare_passes : keeps_rules bare ≡ true
  unfolding
      home_of is_tidy is_placed chosen is_no_thread is_no_semaphore is_no_message thread_kept semaphore_kept message_kept threads_kept semaphores_kept
      messages_kept in_rank in_time in_stream places_kept time_kept posted_kept runner_kept keeps_rules
  bare_passes = refl

  pub bare_rules : Rules bare
  bare_rules = rules_mean bare bare_sized bare_passes

  module _ (K : Undamaged k) where
    abbrev touched : ℕ → Bool
    touched = touched_thread k no_call bare

    pub thread_live : (t : ℕ) → touched t ≡ (thread k t).live
    unfolding touched_thread DeadThreads
    thread_live t = rw (none_there thread_count t no_thread) (thread_told t k.runner (thread k t) (K.rules.dead_threads t))

    pub message_live : (m : ℕ) → touched_message k no_call bare m ≡ (message k m).live
    unfolding touched_message DeadMessages
    message_live m = rw (none_there message_count m no_message) (message_told (message k m) (K.rules.dead_messages m))

    -- the rules say of who isn't live what it is
    dead_thread : (t : ℕ) → (thread k t).live ≡ false → thread k t ≡ no_thread
    unfolding DeadThreads
    dead_thread t = K.rules.dead_threads t

    dead_message : (m : ℕ) → (message k m).live ≡ false → message k m ≡ no_message
    unfolding DeadMessages
    dead_message m = K.rules.dead_messages m

    -- what an image leaves to be told otherwise: nothing stands in a table, and the rest is the same
    pub alone : LeftAlone k no_call bare
    unfolding home_of predicted_flags
    alone =
        let Z = K.types.sized in
        let S = standing k Z K.rules in
        let Z' = bare_sized in
        record {
          thread_count = Z.threads ∙ sym Z'.threads;
          semaphore_count = Z.semaphores ∙ sym Z'.semaphores;
          event_count = Z.events ∙ sym Z'.events;
          message_count = Z.messages ∙ sym Z'.messages;
          places =
              nobody_left touched _ (items k.places) S.placed
              (λ t h. thread_live t ∙ passes_live (λ r. r.live) has_home (thread k t) no_thread (dead_thread t) refl h);
          time =
              nobody_left touched _ (items k.time) S.timed
              (λ t h. thread_live t ∙ passes_live (λ r. r.live) (λ r. ltb 0 r.ticks) (thread k t) no_thread (dead_thread t) refl h);
          posted =
              nobody_left (touched_message k no_call bare) _ (items k.posted) (filed k Z K.rules).placed
              (λ m h. message_live m ∙ passes_live (λ r. r.live) is_queued (message k m) no_message (dead_message m) refl h);
          bits = inl refl;
          flags = inl refl;
          uptime = refl;
        }
