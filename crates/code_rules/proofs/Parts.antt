-- The parts of the test, from what the passes over the records tell, and the groups that the code goes through.
use Prim.Native.Nat.{ℕ}
use mathlib.Core.Path.{◌≡◌, refl}
use mathlib.Core.Bool.{Bool, true, false, ◌&&◌, ◌||◌, and-true, and-false}
use mathlib.Core.List.{List, [], ◌∷◌}
use lib.Dec.{eqb}
use lib.ListN.{length, get_or}
use Rattle.base_bits.specs.Sets.{Tells}
use Rattle.base_queue.specs.declared.Queue.{Queue}
use Rattle.base_queue.specs.Queues.{items, is_tidy}
use Rattle.base_queue.specs.Tables.{is_placed, is_ordered_from}
use Rattle.base_tables.specs.Taken.{is_table, Keys}
use Rattle.base_tables.proofs.Takes.{told_members, taken_means}
use Rattle.spec_kernel.specs.declared.records.Thread.{Thread}
use Rattle.spec_kernel.specs.declared.records.Semaphore.{Semaphore}
use Rattle.spec_kernel.specs.declared.records.Kernel.{Kernel}
use Rattle.spec_kernel.specs.Records.{no_thread, no_semaphore, no_message}
use Rattle.spec_kernel.specs.Sizes.{semaphore_count}
use Rattle.spec_kernel.specs.Places.{home_of, has_home, rank_of, is_queued, stream_of}
use Rattle.spec_rules.specs.declared.tests.Asked.{Asked}
use Rattle.spec_rules.specs.Tests.{all_of, is_ticking, places_kept, time_kept, posted_kept, in_rank, in_time, in_stream}
use Rattle.spec_rules.specs.Tests.{threads_kept, semaphores_kept, messages_kept, runner_kept}
use Rattle.spec_rules.specs.Tests.{if_asked, conditions_asked, owners_asked, keeps_asked}
use Rattle.spec_rules.proofs.Asked.{neither}
use Rattle.code_rules_records.specs.Others.{Objects}
use Rattle.code_rules.specs.declared.told.Semaphores.{Semaphores}
use Rattle.code_rules.specs.declared.told.Threads.{Threads}
use Rattle.code_rules.specs.declared.told.Messages.{Messages}
use Rattle.code_rules.specs.Told.{OfSemaphores, OfEvents, OfThreads, OfMessages}
use Rattle.code_rules.specs.Groups.{thread_tests, message_tests}

-- a table of places is as the records say
table_kept : {A : Type 0} (belongs : A → Bool) (key : A → ℕ) (records : List A) (d : A) → belongs d ≡ false → {n : ℕ} → length records ≡ n
    → {set : ℕ} {keys : List ℕ} → Tells set n (λ x. belongs (get_or records x d)) → Keys keys n (λ x. key (get_or records x d)) → (q : Queue)
    → is_table set keys q
    ≡ all_of (is_tidy q ∷ is_placed belongs records (items q) ∷ is_ordered_from 0 (λ x. key (get_or records x d)) (items q) ∷ [])
unfolding is_table
table_kept belongs key records d out {n} full {set} {keys} told keyed q =
    rw (taken_means belongs key records d out n full set keys told keyed (items q), and-true)

module _ (k : Kernel) where
  pub semaphores_part : {s : Semaphores} → OfSemaphores k.semaphores s → s.kept ≡ semaphores_kept k
  unfolding semaphores_kept
  semaphores_part T = T.kept

  pub objects : {s : Semaphores} {untrue : ℕ} → OfSemaphores k.semaphores s → OfEvents k.events k.bits untrue
      → Objects s.waited untrue k.semaphores k.events k.bits
  objects S E =
      record {
        semaphore =
            told_members (λ (r : Semaphore). r.live && eqb r.count 0) k.semaphores no_semaphore refl semaphore_count S.full _
            S.waited;
        event = E.of;
      }

  module _ {waited untrue : ℕ} {t : Threads} (T : OfThreads k.threads waited untrue k.flags t) where
    pub threads_part : Objects waited untrue k.semaphores k.events k.bits → t.kept ≡ threads_kept k
    unfolding threads_kept
    threads_part o = T.kept _ _ _ o

    pub places_part : is_table t.homes t.ranks k.places ≡ places_kept k
    unfolding places_kept in_rank home_of
    places_part = table_kept has_home rank_of k.threads no_thread refl T.full T.homes T.ranks k.places

    pub time_part : is_table t.ticking t.ticks k.time ≡ time_kept k
    unfolding time_kept in_time
    time_part = table_kept is_ticking (λ (r : Thread). r.ticks) k.threads no_thread refl T.full T.ticking T.ticks k.time

  module _ {m : Messages} (M : OfMessages k.messages k.threads m) where
    pub messages_part : m.kept ≡ messages_kept k
    unfolding messages_kept
    messages_part = M.kept

    pub posted_part : is_table m.queued m.streams k.posted ≡ posted_kept k
    unfolding posted_kept in_stream
    posted_part = table_kept is_queued stream_of k.messages no_message refl M.full M.queued M.streams k.posted

-- ---- the groups
-- what isn't gone through isn't asked for
pub no_conditions : (asked : Asked) (k : Kernel) → conditions_asked asked ≡ false → true ≡ all_of (thread_tests asked k)
no_conditions asked k h =
    let (objects, _) = neither (asked.threads || asked.semaphores || asked.events) asked.flags h in
    let (others, _) = neither (asked.threads || asked.semaphores) asked.events objects in
    let (t, s) = neither asked.threads asked.semaphores others in
    rw (h, t, s)

-- without the owners, nor are the messages
pub no_owners : (asked : Asked) (k : Kernel) → owners_asked asked ≡ false → true ≡ all_of (message_tests asked k)
no_owners asked k h = rw (h, (neither asked.threads asked.messages h).1)

regroup : (places time posted threads semaphores messages runner : Bool)
    → all_of (places ∷ time ∷ posted ∷ threads ∷ semaphores ∷ messages ∷ runner ∷ [])
    ≡ (all_of (semaphores ∷ threads ∷ places ∷ time ∷ []) && (all_of (messages ∷ posted ∷ []) && runner))
regroup false time posted threads semaphores messages runner = rw (and-false threads, and-false semaphores)
regroup true false posted threads semaphores messages runner = rw (and-false threads, and-false semaphores)
regroup true true false threads semaphores messages runner =
    rw (and-false messages, and-false (all_of (semaphores ∷ threads ∷ true ∷ true ∷ [])))
regroup true true true false semaphores messages runner = rw (and-false semaphores)
regroup true true true true false messages runner = refl
regroup true true true true true messages runner = rw (and-true runner, and-true messages)

pub groups : (asked : Asked) (k : Kernel)
    → keeps_asked asked k ≡ (all_of (thread_tests asked k) && (all_of (message_tests asked k) && runner_kept k))
unfolding keeps_asked
groups asked k =
    regroup (if_asked asked.threads (places_kept k)) (if_asked asked.threads (time_kept k)) (if_asked asked.messages (posted_kept k))
    (if_asked (conditions_asked asked) (threads_kept k)) (if_asked asked.semaphores (semaphores_kept k))
    (if_asked (owners_asked asked) (messages_kept k)) (runner_kept k)
