-- Who stands in a list, queue or channel, and what a move leaves of them: what the laws of every family rest on.
use mathlib.Core.Path.{◌≡◌, refl, sym, ap, ◌∙◌}
use mathlib.Core.Bool.{true, false, false≢true, and-eq-true_iff}
use mathlib.Core.List.{List}
use Prim.Native.Nat.{ℕ, ◌+◌, ◌*◌, ◌≤◌, ◌<◌}
use native.Mathlib.Omega.{arith}
use lib.Dec.{eqb, ltb}
use borrow.Author.Tests.{eqb-true, eq-eqb, ne_eqb, ltb-true, ltb-false, lt-ltb, le-ltb}
use borrow.Table.Steps.{cases}
use Rattle.base_queue.specs.Lists.{keep, is_not, without, count, behind}
use Rattle.base_queue.specs.Queues.{items}
use Rattle.base_queue.proofs.Counts.{count_keep, kept, keep_all, without_absent}
use Rattle.base_queue.proofs.Tables.{placed_once}
use Rattle.spec_kernel.specs.declared.records.Condition.{Condition}
use Rattle.spec_kernel.specs.declared.records.Condition.TheVariants.{Ready, Asleep, ForSemaphore, ForEvent, ForMessage, ForFlag}
use Rattle.spec_kernel.specs.declared.records.Thread.{Thread}
use Rattle.spec_kernel.specs.declared.records.Kernel.{Kernel}
use Rattle.spec_moves.specs.declared.parts.Threads.{Threads}
use Rattle.spec_moves.specs.declared.parts.Posts.{Posts}
use Rattle.spec_kernel.specs.Sizes.{thread_count, message_count}
use Rattle.spec_kernel.specs.Records.{no_thread, no_message}
use Rattle.spec_kernel.specs.Conditions.{is_ready, ready_for}
use Rattle.spec_kernel.specs.Places.{nowhere, home_for, home_of, has_home, rank_of, is_queued}
use Rattle.spec_moves.specs.Moves.{thread_in, relocate}
use Rattle.spec_moves.specs.Standing.{at_home_in, message_in, Standing, Filed}
use Rattle.spec_moves.proofs.Rejoined.{Table, table-joins}
use Rattle.spec_moves.proofs.Threads.{ready_home_lem, relocate_standing, relocate_same, relocate_joins, relocate_time_order}
use Rattle.spec_moves.specs.States.{move_thread}
use Rattle.spec_laws.specs.Words.{OnlyThreads}
use Rattle.spec_threads.proofs.LawsOfLists.{live_inside, keep_once, keep_missing, keep_absent, behind_same}

-- ---- what the laws ask of a thread
-- a live thread that sleeps or waits; its priority is a byte
pub record Stopped (r : Thread) : Type 0 where
  pub live : r.live ≡ true
  pub stopped : is_ready r ≡ false
  pub byte : r.priority < 256

-- a ready one, which has no ticks left
pub record Runnable (r : Thread) : Type 0 where
  pub ready : is_ready r ≡ true
  pub untimed : r.ticks ≡ 0
  pub byte : r.priority < 256

-- a test of two numbers, each with as much in front
ltb_shift : (n a b : ℕ) → ltb (n + a) (n + b) ≡ ltb a b
ltb_shift n a b =
    cases (ltb a b) (λ e. lt-ltb (n + a) (n + b) (omega (arith, ltb-true)) ∙ sym e)
    (λ e. le-ltb (n + a) (n + b) (omega (arith, ltb-false)) ∙ sym e)

-- ---- homes
-- the home of a thread that isn't live is nowhere
pub home_live : (r : Thread) → (home_of r ≡ nowhere → ⊥) → r.live ≡ true
unfolding home_of
home_live r h = cases r.live (λ e. e) (λ e. absurd (h (rw e)))

-- that of a live one is the one for its condition
pub live_home : (r : Thread) → r.live ≡ true → home_of r ≡ home_for r.condition r.priority
unfolding home_of
live_home r l = rw l

-- a ready thread is live
pub ready_live : (r : Thread) → is_ready r ≡ true → r.live ≡ true
ready_live r e = ((and-eq-true_iff r.live (ready_for r.condition)).0 e).0

-- the home of a live one that isn't ready is no ready list
pub stopped_home : (r : Thread) → r.live ≡ true → is_ready r ≡ false → 256 ≤ home_of r
unfolding home_of
stopped_home r l e = rw l (go r.condition (rw l at e))
  where
    go : (c : Condition) → ready_for c ≡ false → 256 ≤ home_for c r.priority
    go Ready z = absurd (false≢true (sym z))
    go Asleep z = omega arith
    go (ForSemaphore i) z = omega arith
    go (ForEvent i) z = omega arith
    go (ForMessage mask) z = omega arith
    go (ForFlag i) z = omega arith

module _ {p : Threads} (S : Standing p) where
  -- a live thread has an id
  pub live_id : (t : ℕ) → (thread_in p t).live ≡ true → t < thread_count
  live_id t e = live_inside (λ r. r.live) no_thread refl p.records S.count t e

  module _ (t h : ℕ) where
    -- who stands in a line has that home
    pub line_home : 0 < count t (at_home_in p h) → home_of (thread_in p t) ≡ h
    line_home c = eqb-true (home_of (thread_in p t)) h (kept (λ u. eqb (home_of (thread_in p u)) h) (items p.places) c).0

    -- and is live
    pub line_live : 0 < count t (at_home_in p h) → (thread_in p t).live ≡ true
    line_live c =
        home_live (thread_in p t) λ e.
        let z : count t (items p.places) ≡ 0 = S.placed t ∙ rw e in
        omega (arith, (kept (λ u. eqb (home_of (thread_in p u)) h) (items p.places) c).1)

    -- who has another home does not stand there
    pub line_absent : (home_of (thread_in p t) ≡ h → ⊥) → count t (at_home_in p h) ≡ 0
    line_absent ne = rw (count_keep, ne_eqb (home_of (thread_in p t)) h ne)

    pub line_without : (home_of (thread_in p t) ≡ h → ⊥) → without t (at_home_in p h) ≡ at_home_in p h
    line_without ne = keep_missing (λ u. eqb (home_of (thread_in p u)) h) (items p.places) t (ne_eqb (home_of (thread_in p t)) h ne)

    -- nor does who has none
    pub line_nowhere : home_of (thread_in p t) ≡ nowhere → without t (at_home_in p h) ≡ at_home_in p h
    line_nowhere e = keep_absent (λ u. eqb (home_of (thread_in p u)) h) (items p.places) t (S.placed t ∙ rw e)

    -- nobody stands there twice
    pub line_once : count t (at_home_in p h) ≤ 1
    line_once =
        keep_once (λ u. eqb (home_of (thread_in p u)) h) (items p.places) t
        (placed_once (λ u. has_home (thread_in p u)) (items p.places) S.placed t)

  -- who stands in a queue is no ready thread
  pub line_stopped : (t : ℕ) {h : ℕ} → (thread_in p t).priority < 256 → 256 ≤ h → 0 < count t (at_home_in p h) → Stopped (thread_in p t)
  line_stopped t {h} byte b c = record {
    live = line_live t h c;
    stopped =
        cases (is_ready (thread_in p t)) (λ e. absurd (omega (arith, ready_home_lem (thread_in p t) e, line_home t h c)))
        (λ e. e);
    byte = byte;
  }

  -- who has no ticks left is not in the time queue
  pub time_absent : (t : ℕ) → (thread_in p t).ticks ≡ 0 → count t (items p.time) ≡ 0
  time_absent t e = S.timed t ∙ rw e

-- ---- messages
module _ {q : Posts} (F : Filed q) (m : ℕ) where
  -- who stands in a channel is queued
  posted_queued : 0 < count m (items q.posted) → is_queued (message_in q m) ≡ true
  posted_queued c =
      cases (is_queued (message_in q m)) (λ e. e)
      (λ e. let z : count m (items q.posted) ≡ 0 = F.placed m ∙ rw e in absurd (omega arith))

  -- and live
  pub posted_live : 0 < count m (items q.posted) → (message_in q m).live ≡ true
  posted_live c = ((and-eq-true_iff (message_in q m).live (ltb 0 (message_in q m).channel)).0 (posted_queued c)).0

  -- a live message has an id
  pub message_id : (message_in q m).live ≡ true → m < message_count
  message_id e = live_inside (λ r. r.live) no_message refl q.records F.count m e

  -- nobody stands there twice
  pub posted_once : count m (items q.posted) ≤ 1
  posted_once = placed_once (λ n. is_queued (message_in q n)) (items q.posted) F.placed m

-- ---- a move
-- nothing but threads changes
pub place_only : (t : ℕ) (r : Thread) (k : Kernel) → OnlyThreads k (move_thread t r k)
place_only t r k = record {
  semaphores = refl;
  events = record { records = refl; bits = refl };
  flags = refl;
  messages = record { records = refl; posted = refl };
  scheduler = record { uptime = refl; unscheduled = refl; critical = refl; runner = refl };
}

-- the time queue stays where the ticks left do
pub time_stays : (p : Threads) (t : ℕ) (r : Thread) → (thread_in p t).ticks ≡ r.ticks → (relocate t r p).time ≡ p.time
unfolding relocate
time_stays p t r e = cases (ltb t thread_count) (λ z. rw (z, eq-eqb (thread_in p t).ticks r.ticks e)) (λ z. rw z)

module _ {p : Threads} (S : Standing p) (t : ℕ) (h : t < thread_count) (r : Thread) where
  -- with no ticks left a thread has left it; the others keep their order there
  pub time_left : r.ticks ≡ 0 → items (relocate t r p).time ≡ without t (items p.time)
  time_left e =
      let S' = relocate_standing p t r S in
      let z = time_absent S' t (ap (λ (s : Thread). s.ticks) (relocate_same p t r S.count h) ∙ e) in
      sym (without_absent t (items (relocate t r p).time) z) ∙ relocate_time_order p t r

  -- one that had none and has some joins it before those that have more
  pub time_joins : (thread_in p t).ticks ≡ 0 → 0 < r.ticks
      → items (relocate t r p).time ≡ behind (λ u. ltb r.ticks (thread_in p u).ticks) t (items p.time)
  unfolding relocate
  time_joins e b =
      let T : Table no_thread (λ s. ltb 0 s.ticks) (λ s. s.ticks) p.records p.time =
      record { out = refl; few = omega (arith, S.count); tidy = S.tidy_time; placed = S.timed; ordered = S.in_time } in
      let all : (l : List ℕ) → keep (λ _. true) l ≡ l = λ l. keep_all l (λ _ _. refl) in
      rw (lt-ltb t thread_count h, ne_eqb (thread_in p t).ticks r.ticks (λ z. omega arith))
      ((simp all at (table-joins T t (omega (arith, S.count)) r (λ _. true) (lt-ltb 0 r.ticks b) refl))
      ∙ ap (behind (λ u. ltb r.ticks (thread_in p u).ticks) t) (without_absent t (items p.time) (time_absent S t e)))

  -- it joins a queue before those of a lower priority, which is a greater number
  pub line_joins : {n : ℕ} → home_of r ≡ n → (n ≡ nowhere → ⊥)
      → at_home_in (relocate t r p) n ≡ behind (λ u. ltb r.priority (thread_in p u).priority) t (without t (at_home_in p n))
  unfolding rank_of
  line_joins {n} e ne =
      rw (← e)
      (relocate_joins p t r S h (rw (ne_eqb (home_of r) nowhere (λ z. ne (sym e ∙ z))))
      ∙ behind_same t (without t (at_home_in p (home_of r)))
      (λ u c. let z = line_home S u (home_of r) (kept (is_not t) (at_home_in p (home_of r)) c).1 in
      rw z (ltb_shift (home_of r * 256) r.priority (thread_in p u).priority)))
