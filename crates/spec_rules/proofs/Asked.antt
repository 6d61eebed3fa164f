-- The test of a state made from one that keeps its rules: where what isn't asked for is the same, it is the whole test.
use mathlib.Core.Path.{◌≡◌, refl, sym, ap, ap₂, ◌∙◌}
use mathlib.Core.Bool.{Bool, true, false, ◌||◌, and-true, and-eq-true_iff, false≢true}
use mathlib.Core.List.{[], ◌∷◌}
use Rattle.base_queue.specs.Lists.{every_from}
use Rattle.base_queue.specs.Queues.{items, is_tidy}
use Rattle.base_queue.specs.Tables.{is_placed}
use Rattle.spec_kernel.specs.declared.records.Kernel.{Kernel}
use Rattle.spec_kernel.specs.Places.{has_home, is_queued}
use Rattle.spec_moves.specs.declared.parts.Threads.{Threads}
use Rattle.spec_moves.specs.declared.parts.Posts.{Posts}
use Rattle.spec_moves.specs.Standing.{threads_of, posts_of}
use Rattle.spec_rules.specs.declared.tests.Asked.{Asked}
use Rattle.spec_rules.specs.Tests.{all_of, is_ticking, in_rank, in_time, in_stream, semaphore_kept, message_kept}
use Rattle.spec_rules.specs.Tests.{places_kept, time_kept, posted_kept, threads_kept, semaphores_kept, messages_kept}
use Rattle.spec_rules.specs.Tests.{keeps_rules, if_asked, conditions_asked, owners_asked, keeps_asked}

-- a test that isn't asked for, and passed on another value, passes where what it looks at is the same
pub still : (asked new old : Bool) → old ≡ true → (asked ≡ false → new ≡ old) → if_asked asked new ≡ new
still true new old t same = refl
still false new old t same = sym (same refl ∙ t)

pub neither : (a b : Bool) → (a || b) ≡ false → (a ≡ false) × (b ≡ false)
neither true b h = absurd (false≢true (sym h))
neither false b h = (refl, h)

-- what isn't asked for is the same in two states
pub record Unasked (asked : Asked) (k e : Kernel) : Type 0 where
  pub threads : asked.threads ≡ false → threads_of k ≡ threads_of e
  pub semaphores : asked.semaphores ≡ false → k.semaphores ≡ e.semaphores
  pub events : asked.events ≡ false → (k.events ≡ e.events) × (k.bits ≡ e.bits)
  pub messages : asked.messages ≡ false → posts_of k ≡ posts_of e
  pub flags : asked.flags ≡ false → k.flags ≡ e.flags

-- two states that are so to a third are so to each other
pub by_third : {asked : Asked} {k u v : Kernel} → Unasked asked k u → Unasked asked k v → Unasked asked u v
by_third a b =
    record {
      threads = λ h. sym (a.threads h) ∙ b.threads h;
      semaphores = λ h. sym (a.semaphores h) ∙ b.semaphores h;
      events = λ h. (sym (a.events h).0 ∙ (b.events h).0, sym (a.events h).1 ∙ (b.events h).1);
      messages = λ h. sym (a.messages h) ∙ b.messages h;
      flags = λ h. sym (a.flags h) ∙ b.flags h;
    }

module _ (e k : Kernel) (t : keeps_rules e ≡ true) {asked : Asked} (U : Unasked asked k e) where
  places_same : asked.threads ≡ false → places_kept k ≡ places_kept e
  unfolding places_kept
  places_same h =
      ap (λ (p : Threads). all_of
      (is_tidy p.places ∷ is_placed has_home p.records (items p.places) ∷ in_rank p.records (items p.places) ∷ []))
      (U.threads h)

  time_same : asked.threads ≡ false → time_kept k ≡ time_kept e
  unfolding time_kept
  time_same h =
      ap (λ (p : Threads). all_of
      (is_tidy p.time ∷ is_placed is_ticking p.records (items p.time) ∷ in_time p.records (items p.time) ∷ [])) (U.threads h)

  posted_same : asked.messages ≡ false → posted_kept k ≡ posted_kept e
  unfolding posted_kept
  posted_same h =
      ap (λ (p : Posts). all_of
      (is_tidy p.posted ∷ is_placed is_queued p.records (items p.posted) ∷ in_stream p.records (items p.posted) ∷ []))
      (U.messages h)

  threads_same : conditions_asked asked ≡ false → threads_kept k ≡ threads_kept e
  unfolding threads_kept
  threads_same h =
      let (objects, f) = neither (asked.threads || asked.semaphores || asked.events) asked.flags h in
      let (others, b) = neither (asked.threads || asked.semaphores) asked.events objects in
      let (a, s) = neither asked.threads asked.semaphores others in
      let records = ap (λ (p : Threads). p.records) (U.threads a) in
      rw (records, U.semaphores s, (U.events b).0, (U.events b).1, U.flags f)

  semaphores_same : asked.semaphores ≡ false → semaphores_kept k ≡ semaphores_kept e
  unfolding semaphores_kept
  semaphores_same h = ap (every_from (λ _ r. semaphore_kept r) 0) (U.semaphores h)

  messages_same : owners_asked asked ≡ false → messages_kept k ≡ messages_kept e
  unfolding messages_kept
  messages_same h =
      let (a, b) = neither asked.threads asked.messages h in
      ap₂ (λ (p : Threads) (q : Posts). every_from (λ _ r. message_kept p.records r) 0 q.records) (U.threads a) (U.messages b)

  pub asked_means : keeps_asked asked k ≡ keeps_rules k
  unfolding keeps_asked keeps_rules
  asked_means =
      let (places, (time, (posted, (threads, (semaphores, (posts, _)))))) = simp (and-true, and-eq-true_iff) at t in
      rw (
        still asked.threads (places_kept k) (places_kept e) places places_same,
        still asked.threads (time_kept k) (time_kept e) time time_same,
        still asked.messages (posted_kept k) (posted_kept e) posted posted_same,
        still (conditions_asked asked) (threads_kept k) (threads_kept e) threads threads_same,
        still asked.semaphores (semaphores_kept k) (semaphores_kept e) semaphores semaphores_same,
        still (owners_asked asked) (messages_kept k) (messages_kept e) posts messages_same,
      )
