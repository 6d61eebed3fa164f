-- What a thread's move does: it gets its record and takes its places, nobody else is moved, and there is a way back.
use mathlib.Core.Path.{◌≡◌, refl, sym, ◌∙◌}
use mathlib.Core.Bool.{Bool, true, false, cond, false≢true, and-eq-true_iff}
use mathlib.Core.List.{List, [], ◌∷◌, ◌++◌}
use Prim.Native.Nat.{ℕ, ◌≤◌, ◌<◌}
use native.Mathlib.Omega.{arith}
use lib.ListN.{length, set, length-set}
use lib.Seq.{get_or-set_same, get_or-set_other}
use lib.Dec.{eqb, ltb}
use borrow.Author.Tests.{eqb-true, eq-eqb, ne_eqb, ltb-true, ltb-false, lt-ltb, le-ltb}
use borrow.Table.Steps.{cases}
use Rattle.base_queue.specs.declared.Queue.{Queue}
use Rattle.base_queue.specs.Lists.{keep, is_not, without, behind}
use Rattle.base_queue.specs.Queues.{items}
use Rattle.base_queue.proofs.Counts.{same}
use Rattle.spec_kernel.specs.declared.records.Condition.{Condition}
use Rattle.spec_kernel.specs.declared.records.Condition.TheVariants.{Ready, Asleep, ForSemaphore, ForEvent, ForMessage, ForFlag}
use Rattle.spec_kernel.specs.declared.records.Thread.{Thread}
use Rattle.spec_moves.specs.declared.parts.Threads.{Threads}
use Rattle.spec_kernel.specs.Sizes.{thread_count}
use Rattle.spec_kernel.specs.Records.{no_thread}
use Rattle.spec_kernel.specs.Conditions.{is_ready, ready_for}
use Rattle.spec_kernel.specs.Places.{nowhere, home_for, home_of, has_home, rank_of}
use Rattle.spec_moves.specs.Moves.{rejoined, thread_in, ranks_after, wakes_after, relocate}
use Rattle.spec_moves.specs.Standing.{at_home_in, Standing}
use Rattle.spec_moves.proofs.Rejoined.{rejoined_keep, Table, table_stays, table_moved, table_leaves, table-joins, table-last}

-- ---- what a record says
abbrev has_time : Thread → Bool
has_time r = ltb 0 r.ticks

abbrev time_of : Thread → ℕ
time_of r = r.ticks

-- an id too large has no home
no_home : has_home no_thread ≡ false
unfolding home_of
no_home = refl

-- the home of a live, ready thread is its priority's list
pub ready_home_lem : (r : Thread) → is_ready r ≡ true → home_of r ≡ r.priority
unfolding home_of
ready_home_lem r e = let (l, c) = (and-eq-true_iff r.live (ready_for r.condition)).0 e in rw l (go r.condition c)
  where
    go : (c : Condition) → ready_for c ≡ true → home_for c r.priority ≡ r.priority
    go Ready z = refl
    go Asleep z = absurd (false≢true z)
    go (ForSemaphore i) z = absurd (false≢true z)
    go (ForEvent i) z = absurd (false≢true z)
    go (ForMessage mask) z = absurd (false≢true z)
    go (ForFlag i) z = absurd (false≢true z)

-- only a priority's list is a home below 256
low_home : (r : Thread) → home_of r < 256 → home_of r ≡ r.priority
unfolding home_of
low_home r e = go r.live r.condition e
  where
    go : (b : Bool) (c : Condition) → cond b (home_for c r.priority) nowhere < 256
        → cond b (home_for c r.priority) nowhere ≡ r.priority
    go true Ready h = refl
    go true Asleep h = absurd (omega arith)
    go true (ForSemaphore i) h = absurd (omega arith)
    go true (ForEvent i) h = absurd (omega arith)
    go true (ForMessage mask) h = absurd (omega arith)
    go true (ForFlag i) h = absurd (omega arith)
    go false c h = absurd (omega arith)

-- so all of a priority's list have one rank
list_rank : (a r : Thread) → home_of r ≡ r.priority → r.priority < 256 → home_of a ≡ r.priority → rank_of a ≡ rank_of r
unfolding rank_of
list_rank a r e b z = let y = low_home a (omega arith) in omega arith

module _ (p : Threads) (t : ℕ) (r : Thread) where
  -- the time queue after the move
  abbrev new_time : Queue
  new_time = cond (eqb (thread_in p t).ticks r.ticks) p.time (rejoined (has_time r) (wakes_after p.records r) t p.time)

  -- the state that a move gives
  abbrev new_threads : Threads
  new_threads =
      record { records = set p.records t r; places = rejoined (has_home r) (ranks_after p.records r) t p.places; time = new_time }

  moves : t < thread_count → relocate t r p ≡ new_threads
  unfolding relocate
  moves h = rw (lt-ltb t thread_count h)

  -- an id too large moves nobody
  pub relocate_past : thread_count ≤ t → relocate t r p ≡ p
  unfolding relocate
  relocate_past h = rw (le-ltb t thread_count h)

  -- what holds of the state moved, and of the state as it was, holds after
  either : (P : Threads → Type 0) → (t < thread_count → P new_threads) → P p → P (relocate t r p)
  either P f g =
      cases (ltb t thread_count) (λ e. rw (moves (ltb-true t thread_count e)) (f (ltb-true t thread_count e)))
      (λ e. rw (relocate_past (ltb-false t thread_count e)) g)

  -- the thread has its record
  pub relocate_same : length p.records ≡ thread_count → t < thread_count → thread_in (relocate t r p) t ≡ r
  relocate_same e h = rw (moves h) (get_or-set_same p.records t r no_thread (omega arith))

  -- and every other thread has the record that it had
  pub relocate_other : {u : ℕ} → (u ≡ t → ⊥) → thread_in (relocate t r p) u ≡ thread_in p u
  relocate_other {u} ne = either (λ n. thread_in n u ≡ thread_in p u) (λ _. get_or-set_other p.records t u r no_thread ne) refl

  module _ (f : ℕ → Bool) (e : f t ≡ false) where
    -- a test that does not hold of the thread does not see it move: not in `places`
    pub relocate_keep : keep f (items (relocate t r p).places) ≡ keep f (items p.places)
    relocate_keep =
        either (λ n. keep f (items n.places) ≡ keep f (items p.places))
        (λ _. rejoined_keep (has_home r) (ranks_after p.records r) t p.places f e) refl

    -- nor in the time queue
    pub relocate_time_keep : keep f (items (relocate t r p).time) ≡ keep f (items p.time)
    relocate_time_keep =
        either (λ n. keep f (items n.time) ≡ keep f (items p.time))
        (λ _. cases (eqb (thread_in p t).ticks r.ticks) (λ z. rw z)
        (λ z. rw z (rejoined_keep (has_time r) (wakes_after p.records r) t p.time f e))) refl

  -- everybody else's order is as it was, in `places`
  pub relocate_order : without t (items (relocate t r p).places) ≡ without t (items p.places)
  relocate_order = relocate_keep (is_not t) (rw same)

  -- and in the time queue
  pub relocate_time_order : without t (items (relocate t r p).time) ≡ without t (items p.time)
  relocate_time_order = relocate_time_keep (is_not t) (rw same)

-- ---- the two tables of threads
abbrev PlacesTable : List Thread → Queue → Type 0
PlacesTable records q = Table no_thread has_home rank_of records q

abbrev TimeTable : List Thread → Queue → Type 0
TimeTable records q = Table no_thread has_time time_of records q

module _ (p : Threads) where
  -- where both keep their rules, everybody stands
  standing : length p.records ≡ thread_count → PlacesTable p.records p.places → TimeTable p.records p.time → Standing p
  standing e P T = record {
    count = e;
    tidy_places = P.tidy;
    tidy_time = T.tidy;
    placed = P.placed;
    timed = T.placed;
    in_rank = P.ordered;
    in_time = T.ordered;
  }

  module _ (S : Standing p) where
    places_table : PlacesTable p.records p.places
    places_table = record { out = no_home; few = omega (arith, S.count); tidy = S.tidy_places; placed = S.placed; ordered = S.in_rank }

    time_table : TimeTable p.records p.time
    time_table = record { out = refl; few = omega (arith, S.count); tidy = S.tidy_time; placed = S.timed; ordered = S.in_time }

    inside : {t : ℕ} → t < thread_count → t < length p.records
    inside h = omega (arith, S.count)

module _ (p : Threads) (t : ℕ) (r : Thread) (S : Standing p) where
  -- the time queue keeps its rules where the thread moves in it, and where it stays
  time_moved : t < thread_count → TimeTable (set p.records t r) (new_time p t r)
  time_moved h =
      cases (eqb (thread_in p t).ticks r.ticks)
      (λ e. let z = eqb-true (thread_in p t).ticks r.ticks e in rw e (table_stays (time_table p S) t (inside p S h) r (rw z) (sym z)))
      (λ e. rw e (table_moved (time_table p S) t (inside p S h) r))

  -- a move keeps the placing rules and the order
  pub relocate_standing : Standing (relocate t r p)
  relocate_standing =
      either p t r Standing
      (λ h. standing (new_threads p t r) (length-set p.records t r ∙ S.count) (table_moved (places_table p S) t (inside p S h) r)
      (time_moved h)) S

  module _ (h : t < thread_count) where
    -- it joins its list or queue behind its equals
    pub relocate_joins : has_home r ≡ true
        → at_home_in (relocate t r p) (home_of r) ≡ behind (ranks_after p.records r) t (without t (at_home_in p (home_of r)))
    relocate_joins e =
        rw (moves p t r h) (table-joins (places_table p S) t (inside p S h) r (λ a. eqb (home_of a) (home_of r)) e (same (home_of r)))

    -- of a ready thread: last in its priority's list
    pub relocate_last : home_of r ≡ r.priority → r.priority < 256
        → at_home_in (relocate t r p) r.priority ≡ without t (at_home_in p r.priority) ++ t ∷ []
    relocate_last e b =
        rw (moves p t r h)
        (table-last (places_table p S) t (inside p S h) r (λ a. eqb (home_of a) r.priority)
        (rw (ne_eqb (home_of r) nowhere (λ z. omega arith))) (eq-eqb (home_of r) r.priority e)
        (λ a z. list_rank a r e b (eqb-true (home_of a) r.priority z)))

    -- of every other list it is gone, and the others keep their order there
    pub relocate_leaves : {n : ℕ} → (n ≡ home_of r → ⊥) → at_home_in (relocate t r p) n ≡ without t (at_home_in p n)
    relocate_leaves {n} ne =
        rw (moves p t r h)
        (table_leaves (places_table p S) t (inside p S h) r (λ a. eqb (home_of a) n) (ne_eqb (home_of r) n (λ z. ne (sym z))))
