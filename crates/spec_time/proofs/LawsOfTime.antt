-- Time: what passes for the threads, the periodic semaphores, and the tick.
use mathlib.Core.Path.{◌≡◌, refl, ap, ◌∙◌}
use mathlib.Core.Bool.{not}
use mathlib.Core.List.{List, [], ◌∷◌}
use Prim.Native.Nat.{ℕ, zero, suc, ◌+◌, ◌-◌, ◌<◌}
use native.Mathlib.Nat.{add-zero, zero-add, add-suc, suc-add}
use native.Mathlib.Omega.{arith}
use lib.Dec.{eqb}
use lib.ListN.{length, length-set, get_or-map}
use borrow.Author.Tests.{eqb-true, eqb-false, ne_eqb}
use borrow.Table.Steps.{cases}
use Rattle.base_queue.specs.Lists.{keep, count}
use Rattle.base_queue.specs.Queues.{items}
use Rattle.base_queue.proofs.Counts.{count_keep, kept, keep_same}
use Rattle.spec_kernel.specs.declared.records.Wake.{Wake}
use Rattle.spec_kernel.specs.declared.records.Thread.{Thread}
use Rattle.spec_kernel.specs.declared.records.Semaphore.{Semaphore}
use Rattle.spec_kernel.specs.declared.records.Kernel.{Kernel}
use Rattle.spec_moves.specs.declared.parts.Threads.{Threads}
use Rattle.spec_kernel.specs.Sizes.{semaphore_count}
use Rattle.spec_kernel.specs.Records.{thread, semaphore, no_thread}
use Rattle.spec_kernel.specs.Places.{home_of, at_home, semaphore_queue, time_queue}
use Rattle.spec_moves.specs.Moves.{thread_in}
use Rattle.spec_moves.specs.Standing.{threads_of, at_home_in, Standing}
use Rattle.spec_calls.specs.declared.call.Call.{Call}
use Rattle.spec_moves.specs.States.{with_threads, with_semaphores, with_uptime, each}
use Rattle.spec_threads.specs.Threads.{wake}
use Rattle.spec_semaphores.specs.Semaphores.{raised, post_to, post}
use Rattle.spec_time.specs.Time.{later, reason_at, time_up, due, aged, age_all, time_passes, pulse, pulse_from, tick}
use Rattle.spec_laws.specs.Words.{without_all, ticking, pulsing}
use Rattle.spec_threads.proofs.LawsOfHomes.{Stopped}
use Rattle.spec_threads.proofs.LawsOfWaking.{AllWoken, each_woken}
use Rattle.spec_semaphores.proofs.LawsOfSemaphores.{make_semaphore, post_posts}
use Rattle.spec_laws.specs.OfTime.{is_due, TimePassed, Pulsed, Ticked}

-- each wakes for its timeout
abbrev as_due : Thread → Wake
as_due r = reason_at r.condition

-- who has no ticks left loses none
untimed_stays : (r : Thread) → r.ticks ≡ 0 → ticking (r.ticks - 1) r ≡ r
untimed_stays r e = let z : r.ticks - 1 ≡ r.ticks = omega arith in ap (λ n. ticking n r) z

-- who has ticks left sleeps or waits; `rest` is a state with whatever else the tick changes
module _ (k : Kernel) (S : Standing (threads_of k)) (T : (t : ℕ) → 0 < (thread k t).ticks → Stopped (thread k t)) (rest : Kernel) where
  abbrev p : Threads
  p = threads_of k

  abbrev woken : Threads
  woken = each time_up (due p) p

  abbrev after : Kernel
  after = with_threads (time_passes p) rest

  -- those that are due are named once, and nobody else is
  due_once : (t : ℕ) → (thread k t).ticks ≡ 1 → count t (due p) ≡ 1
  unfolding due
  due_once t e = rw (count_keep, e, S.timed t, e)

  due_ticks : (t : ℕ) → 0 < count t (due p) → (thread k t).ticks ≡ 1
  unfolding due
  due_ticks t c = eqb-true (thread k t).ticks 1 (kept (is_due k) (time_queue k) c).0

  due_not : (t : ℕ) → ((thread k t).ticks ≡ 1 → ⊥) → count t (due p) ≡ 0
  unfolding due
  due_not t ne = rw (count_keep, ne_eqb (thread k t).ticks 1 ne)

  all_woken : AllWoken as_due (due p) p woken
  unfolding time_up
  all_woken = each_woken as_due (due p) S (λ t c. let e = due_ticks t c in (due_once t e, T t (omega arith)))

  -- who is left of a list
  due_left : (l : List ℕ) → without_all (due p) l ≡ keep (λ t. not (is_due k t)) l
  due_left l =
      keep_same l λ t _.
      cases (is_due k t) (λ e. rw (e, due_once t (eqb-true (thread k t).ticks 1 e)))
      (λ e. rw (e, due_not t (eqb-false (thread k t).ticks 1 e)))

  -- ageing changes the ticks left, and moves nobody
  aged_record : (t : ℕ) → thread after t ≡ aged (thread_in woken t)
  unfolding time_passes age_all
  aged_record t = get_or-map aged woken.records t no_thread

  aged_line : (h : ℕ) → at_home after h ≡ at_home_in woken h
  unfolding time_passes age_all home_of
  aged_line h = keep_same (items woken.places) λ t _. rw (aged_record t)

  aged_time : time_queue after ≡ items woken.time
  unfolding time_passes age_all
  aged_time = refl

  -- Whoever is timed has a tick less; who has none left then wakes, in time queue order [01, calls: Tick 2].
  time_passes_lem : TimePassed k after
  unfolding due
  time_passes_lem = record {
    counts = λ t b. aged_record t ∙ rw (all_woken.others t (due_not t (λ z. omega arith)));
    wakes = λ t e. aged_record t ∙ rw (all_woken.woken t (rw (due_once t e) (omega arith)));
    others = λ t e. aged_record t ∙ rw (all_woken.others t (due_not t (λ z. omega arith))) (untimed_stays (thread k t) e);
    lists = λ q b. aged_line q ∙ all_woken.lists q b;
    queues = λ h b. aged_line h ∙ all_woken.queues h b ∙ due_left (at_home k h);
    time = aged_time ∙ all_woken.time ∙ due_left (time_queue k);
  }

-- ---- Then the periodic semaphores by id: a tick less, and with the last one a post and a new period [01, calls: Tick 3].
-- a post leaves as many semaphores
post_length : (i : ℕ) (k : Kernel) → length (post i k).semaphores ≡ length k.semaphores
unfolding post wake
post_length i k = go (semaphore_queue k i)
  where
    go : (l : List ℕ) → length (post_to l i k).semaphores ≡ length k.semaphores
    go [] = length-set k.semaphores i (raised (semaphore k i))
    go (t ∷ l) = refl

-- what a semaphore's turn asks of the state: everybody in place, bytes for priorities, and a record for each id
pub record Turn (k : Kernel) : Type 0 where
  pub standing : Standing (threads_of k)
  pub bytes : (t : ℕ) → (thread k t).priority < 256
  pub sized : length k.semaphores ≡ semaphore_count

pulse_pulses : (i : ℕ) (k : Kernel) → Turn k → i < semaphore_count → Pulsed i k (pulse i k)
unfolding pulse
pulse_pulses i k T b =
    let r = semaphore k i in
    let b' : i < length k.semaphores = omega (arith, T.sized) in
    record {
      rests = λ e. rw e;
      counts = λ p h.
          rw (ne_eqb r.period 0 (λ z. omega arith), ne_eqb r.ticks 1 (λ z. omega arith))
          (make_semaphore k i (pulsing (r.ticks - 1) r.period r) b');
      posts = λ p h.
          rw (ne_eqb r.period 0 (λ z. omega arith), h) (
            post i k,
            post_posts k i T.standing T.bytes b',
            make_semaphore (post i k) i (pulsing r.period r.period (semaphore (post i k) i)) (rw post_length b'),
          );
    }

-- the last of several turns
pulses_last : (i n : ℕ) (k : Kernel) → pulse_from i (suc n) k ≡ pulse (i + n) (pulse_from i n k)
unfolding pulse_from
pulses_last i zero k = rw (add-zero i)
pulses_last i (suc n) k = pulses_last (suc i) n (pulse i k) ∙ rw (add-suc i n, suc-add i n)

-- ---- the tick
-- what neither threads nor semaphores show
module _ {A : Type 0} (g : Kernel → A) (threads : (p : Threads) (k : Kernel) → g (with_threads p k) ≡ g k)
    (semaphores : (l : List Semaphore) (k : Kernel) → g (with_semaphores l k) ≡ g k) where
  post_hides : (i : ℕ) (k : Kernel) → g (post i k) ≡ g k
  unfolding post wake
  post_hides i k = go (semaphore_queue k i)
    where
      go : (l : List ℕ) → g (post_to l i k) ≡ g k
      go [] = semaphores _ k
      go (t ∷ l) = threads _ k

  pulses_hide : (i n : ℕ) (k : Kernel) → g (pulse_from i n k) ≡ g k
  unfolding pulse_from pulse
  pulses_hide i zero k = refl
  pulses_hide i (suc n) k =
      pulses_hide (suc i) n (pulse i k)
      ∙ cases (eqb (semaphore k i).period 0) (λ e. rw e)
      (λ e. cases (eqb (semaphore k i).ticks 1) (λ z. rw (e, z) (semaphores _ (post i k) ∙ post_hides i k))
      (λ z. rw (e, z) (semaphores _ k)))

  tick_hides : (k : Kernel) (c : Call) → g (tick k c) ≡ g (with_uptime (later k.uptime) k)
  unfolding tick
  tick_hides k c = pulses_hide 0 _ _ ∙ threads _ _

-- the state when the time has passed for the threads, and when it is semaphore i's turn
abbrev pub passed : Kernel → Kernel
passed k = with_threads (time_passes (threads_of k)) (with_uptime (later k.uptime) k)

abbrev pub turn_of : Kernel → ℕ → Kernel
turn_of k i = pulse_from 0 i (passed k)

-- who has ticks left sleeps or waits, and each turn finds the state so that it can be made
module _ (k : Kernel) (c : Call) (S : Standing (threads_of k)) (T : (t : ℕ) → 0 < (thread k t).ticks → Stopped (thread k t))
    (U : (i : ℕ) → i < semaphore_count → Turn (turn_of k i)) where
  turned : (i : ℕ) → i < semaphore_count → Pulsed i (turn_of k i) (turn_of k (suc i))
  turned i b = rw (pulses_last 0 i (passed k), zero-add) (pulse_pulses i (turn_of k i) (U i b) b)

  pub tick_ticks : Ticked k (tick k c)
  unfolding tick pulse_from
  tick_ticks = record {
    uptime = λ b. hides (λ s. s.uptime) (λ _ _. refl) (λ _ _. refl) ∙ rw (ne_eqb k.uptime 4294967295 (λ z. omega arith));
    wraps = λ e. hides (λ s. s.uptime) (λ _ _. refl) (λ _ _. refl) ∙ rw e;
    turn = turn_of k;
    threads = time_passes_lem k S T (with_uptime (later k.uptime) k);
    unposted = refl;
    semaphores = turned;
    ends = refl;
    events =
        record {
          records = hides (λ s. s.events) (λ _ _. refl) (λ _ _. refl);
          bits = hides (λ s. s.bits) (λ _ _. refl) (λ _ _. refl);
        };
    flags = hides (λ s. s.flags) (λ _ _. refl) (λ _ _. refl);
    messages =
        record {
          records = hides (λ s. s.messages) (λ _ _. refl) (λ _ _. refl);
          posted = hides (λ s. s.posted) (λ _ _. refl) (λ _ _. refl);
        };
    unscheduled = hides (λ s. s.unscheduled) (λ _ _. refl) (λ _ _. refl);
    critical = hides (λ s. s.critical) (λ _ _. refl) (λ _ _. refl);
    runner = hides (λ s. s.runner) (λ _ _. refl) (λ _ _. refl);
  }
    where
      hides : {A : Type 0} (g : Kernel → A) → ((p : Threads) (n : Kernel) → g (with_threads p n) ≡ g n)
          → ((l : List Semaphore) (n : Kernel) → g (with_semaphores l n) ≡ g n) → g (tick k c) ≡ g (with_uptime (later k.uptime) k)
      hides g a b = tick_hides g a b k c
