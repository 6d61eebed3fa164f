-- Threads that wake one after the other: they stand in place afterwards, and who was called wakes, nobody else.
use Prim.Native.Nat.{ℕ, zero, suc, ◌+◌, ◌-◌, ◌≤◌, ◌<◌}
use mathlib.Core.Path.{◌≡◌, refl, sym, ap, ◌∙◌}
use mathlib.Core.Bool.{Bool, true, false, cond}
use mathlib.Core.List.{List, [], ◌∷◌}
use native.Mathlib.Omega.{arith}
use lib.Dec.{eqb, ltb}
use lib.ListN.{get_or, length-map, get_or-map, get_or-eq_default}
use borrow.Author.Tests.{eqb-true, eqb-false, ne_eqb, ltb-true, ltb-false, lt-ltb, le-ltb}
use borrow.Table.Steps.{cases}
use Rattle.base_queue.specs.Lists.{count, keep}
use Rattle.base_queue.specs.Queues.{items}
use Rattle.base_queue.specs.Tables.{one}
use Rattle.base_queue.proofs.Counts.{count_keep}
use Rattle.base_queue.proofs.Orders.{ordered_keys, ordered_mono}
use Rattle.spec_kernel.specs.declared.records.Condition.TheVariants.{Ready, ForEvent}
use Rattle.spec_kernel.specs.declared.records.Wake.{Wake}
use Rattle.spec_kernel.specs.declared.records.Thread.{Thread}
use Rattle.spec_kernel.specs.declared.records.Event.{Event}
use Rattle.spec_moves.specs.declared.parts.Threads.{Threads}
use Rattle.spec_kernel.specs.Sizes.{thread_count, event_count}
use Rattle.spec_kernel.specs.Records.{no_thread, no_event}
use Rattle.spec_kernel.specs.Conditions.{of_events}
use Rattle.spec_kernel.specs.Places.{nowhere, home, home_of, rank_of}
use Rattle.spec_kernel.specs.Truth.{is_true}
use Rattle.spec_moves.specs.Moves.{thread_in, relocate}
use Rattle.spec_moves.specs.Standing.{at_home_in, Standing}
use Rattle.spec_moves.proofs.Threads.{relocate_same, relocate_other, relocate_standing}
use Rattle.spec_moves.specs.States.{each}
use Rattle.spec_threads.specs.Threads.{awake, wake_in, woken_in}
use Rattle.spec_events.specs.Events.{work_out, work_out_from}
use Rattle.spec_time.specs.Time.{reason_at, time_up, due, aged, age_all, time_passes}

-- ---- the records
-- who has a record other than that of an id too large has an id
has_id : {p : Threads} {t : ℕ} → Standing p → (thread_in p t ≡ no_thread → ⊥) → t < thread_count
has_id {p} {t} S h =
    cases (ltb t thread_count) (ltb-true t thread_count)
    (λ e. let b = ltb-false t thread_count e in absurd (h (get_or-eq_default p.records no_thread (rw S.count b))))

-- ---- one after the other, each for the reason that its record says
abbrev pub woken : (Thread → Wake) → Thread → Thread
woken why r = awake (why r) r.reply r

abbrev pub wakes : (Thread → Wake) → ℕ → Threads → Threads
wakes why t p = relocate t (woken why (thread_in p t)) p

module _ (why : Thread → Wake) where
  -- all stand in place
  pub each_standing : (l : List ℕ) {p : Threads} → Standing p → Standing (each (wakes why) l p)
  each_standing [] S = S
  each_standing (x ∷ l) {p} S = each_standing l (relocate_standing p x (woken why (thread_in p x)) S)

  -- who isn't called has the record that it had
  pub each_other : (t : ℕ) (l : List ℕ) (p : Threads) → count t l ≡ 0 → thread_in (each (wakes why) l p) t ≡ thread_in p t
  each_other t [] p z = refl
  each_other t (x ∷ l) p z =
      cases (eqb x t) (λ e. absurd (omega (arith, rw e at z)))
      (λ e. each_other t l (wakes why x p) (rw e at z) ∙ relocate_other p x (woken why (thread_in p x)) (λ q. eqb-false x t e (sym q)))

  -- who is called once wakes
  pub each_member : {t : ℕ} (l : List ℕ) {p : Threads} → Standing p → t < thread_count → count t l ≡ 1
      → thread_in (each (wakes why) l p) t ≡ woken why (thread_in p t)
  each_member [] S b c = absurd (omega arith)
  each_member {t} (x ∷ l) {p} S b c =
      let r = woken why (thread_in p x) in
      cases (eqb x t)
      (λ e. each_other t l (wakes why x p) (omega (arith, rw e at c))
      ∙ rw (eqb-true x t e) (relocate_same p t (woken why (thread_in p t)) S.count b))
      (λ e. each_member l (relocate_standing p x r S) b (rw e at c) ∙ ap (woken why) (relocate_other p x r (λ q. eqb-false x t e (sym q))))

  -- of those in a list, who passes a test is called
  module _ {p : Threads} (S : Standing p) (f : ℕ → Bool) (l : List ℕ) where
    pub each_kept : (t : ℕ) → (f t ≡ true → count t l ≡ 1) → (f t ≡ true → thread_in p t ≡ no_thread → ⊥)
        → thread_in (each (wakes why) (keep f l) p) t ≡ cond (f t) (woken why (thread_in p t)) (thread_in p t)
    each_kept t once some =
        cases (f t) (λ e. rw e (each_member (keep f l) S (has_id S (some e)) (rw (count_keep, e) (once e))))
        (λ e. rw e (each_other t (keep f l) p (rw (count_keep, e))))

-- ---- a queue wakes
abbrev pub as_met : Thread → Wake
as_met r = Wake.Met

module _ {p : Threads} (S : Standing p) (h : ℕ) where
  pub line_standing : Standing (woken_in h p)
  unfolding woken_in wake_in
  line_standing = each_standing as_met (at_home_in p h) S

  -- whose home it is wakes, and nobody else
  pub line_woken : (h ≡ nowhere → ⊥) → (t : ℕ)
      → thread_in (woken_in h p) t ≡ cond (eqb (home_of (thread_in p t)) h) (woken as_met (thread_in p t)) (thread_in p t)
  unfolding woken_in wake_in home_of
  line_woken n t =
      each_kept as_met S (λ u. eqb (home_of (thread_in p u)) h) (items p.places) t
      (λ e. rw (S.placed t, eqb-true (home_of (thread_in p t)) h e, ne_eqb h nowhere n))
      (λ e z. n (sym (eqb-true (home_of (thread_in p t)) h e) ∙ ap home_of z))

-- only who is live has a home
home_live : (r : Thread) {h : ℕ} → home_of r ≡ h → (h ≡ nowhere → ⊥) → r.live ≡ true
unfolding home_of
home_live r e n = cases r.live (λ l. l) (λ l. absurd (n (sym (rw l at e))))

-- what lasts when a live thread wakes
abbrev pub Lasts : (Thread → Type 0) → Type 0
Lasts P = (r : Thread) → r.live ≡ true → P r → P (woken as_met r)

-- lasts of each
pub line_lasts : (P : Thread → Type 0) → Lasts P → {p : Threads} → Standing p → (h : ℕ) → (h ≡ nowhere → ⊥)
    → (t : ℕ) → P (thread_in p t) → P (thread_in (woken_in h p) t)
line_lasts P f {p} S h n t k =
    let r = thread_in p t in
    rw (line_woken S h n t) (cases (eqb (home_of r) h) (λ e. rw e (f r (home_live r (eqb-true (home_of r) h e) n) k)) (λ e. rw e k))

-- ---- events are worked out
-- nobody waits for event i
abbrev pub Unwaited : ℕ → Threads → Type 0
Unwaited i p = (t : ℕ) → (thread_in p t).condition ≡ ForEvent i → ⊥

-- who isn't live waits for nothing
abbrev Lively : Thread → Type 0
Lively r = r.live ≡ false → r.condition ≡ Ready

event_home : (r : Thread) (i : ℕ) → Lively r → r.condition ≡ ForEvent i → home_of r ≡ home of_events i
unfolding home_of
event_home r i d e = cases r.live (λ l. rw (l, e)) (λ l. let z : ◌≡◌ {A = ℕ} 0 1 = cc (d l) in absurd (omega arith))

pub line_unwaited : {p : Threads} → Standing p → ((t : ℕ) → Lively (thread_in p t)) → (i : ℕ) → i < event_count
    → Unwaited i (woken_in (home of_events i) p)
line_unwaited {p} S d i b t h =
    let h' = rw (line_woken S (home of_events i) (λ z. omega arith) t) at h in
    cases (eqb (home_of (thread_in p t)) (home of_events i)) (λ e. let z : ◌≡◌ {A = ℕ} 0 1 = cc (rw e at h') in omega arith)
    (λ e. eqb-false (home_of (thread_in p t)) (home of_events i) e (event_home (thread_in p t) i (d t) (rw e at h')))

-- each TRUE one in turn
module _ (events : List Event) (bits : ℕ) where
  abbrev is_met : ℕ → Bool
  is_met i = is_true bits (get_or events i no_event)

  module _ {p : Threads} (S : Standing p) (i : ℕ) where
    out_standing : Standing (work_out events bits i p)
    unfolding work_out
    out_standing = cases (is_met i) (λ e. rw e (line_standing S (home of_events i))) (λ e. rw e S)

    out_lasts : (P : Thread → Type 0) → Lasts P → i < event_count → (t : ℕ) → P (thread_in p t) → P (thread_in (work_out events bits i p) t)
    unfolding work_out
    out_lasts P f b t h = cases (is_met i) (λ e. rw e (line_lasts P f S (home of_events i) (λ z. omega arith) t h)) (λ e. rw e h)

  pub outs_standing : (i n : ℕ) {p : Threads} → Standing p → Standing (work_out_from events bits i n p)
  unfolding work_out_from
  outs_standing i zero S = S
  outs_standing i (suc n) S = outs_standing (suc i) n (out_standing S i)

  pub outs_last : (P : Thread → Type 0) → Lasts P → (i n : ℕ) → i + n ≤ event_count → {p : Threads} → Standing p
      → (t : ℕ) → P (thread_in p t) → P (thread_in (work_out_from events bits i n p) t)
  unfolding work_out_from
  outs_last P f i zero b S t h = h
  outs_last P f i (suc n) b S t h = outs_last P f (suc i) n (omega arith) (out_standing S i) t (out_lasts S i P f (omega arith) t h)

  -- nobody waits for one that is TRUE
  pub outs_unwaited : (i n : ℕ) → i + n ≤ event_count → {p : Threads} → Standing p → ((t : ℕ) → Lively (thread_in p t))
      → (j : ℕ) → i ≤ j → j < i + n → is_met j ≡ true → Unwaited j (work_out_from events bits i n p)
  unfolding work_out_from work_out
  outs_unwaited i zero b S d j c c' h = absurd (omega arith)
  outs_unwaited i (suc n) b {p} S d j c c' h =
      let S' = out_standing S i in
      cases (eqb i j)
      (λ e. let first : Unwaited j (work_out events bits i p) = rw (eqb-true i j e, h) (line_unwaited S d j (omega arith)) in
      λ t. outs_last (λ r. r.condition ≡ ForEvent j → ⊥) (λ r _ _ q. let y : ◌≡◌ {A = ℕ} 0 1 = cc in omega arith) (suc i) n (omega arith)
      S' t (first t))
      (λ e. let ne = eqb-false i j e in
      outs_unwaited (suc i) n (omega arith) S' (λ t. out_lasts S i Lively (λ r _ _ _. refl) (omega arith) t (d t)) j
      (omega (arith, ne)) (omega arith) h)

-- ---- time is up
abbrev pub as_due : Thread → Wake
as_due r = reason_at r.condition

module _ {p : Threads} (S : Standing p) where
  pub due_standing : Standing (each time_up (due p) p)
  unfolding time_up
  due_standing = each_standing as_due (due p) S

  -- whose last tick it is wakes, and nobody else
  pub due_woken : (t : ℕ)
      → thread_in (each time_up (due p) p) t ≡ cond (eqb (thread_in p t).ticks 1) (woken as_due (thread_in p t)) (thread_in p t)
  unfolding time_up due
  due_woken t =
      each_kept as_due S (λ u. eqb (thread_in p u).ticks 1) (items p.time) t
      (λ e. rw (S.timed t, eqb-true (thread_in p t).ticks 1 e))
      (λ e z. let y : ◌≡◌ {A = ℕ} 1 0 = sym (eqb-true (thread_in p t).ticks 1 e) ∙ ap (λ (r : Thread). r.ticks) z in omega arith)

  -- so nobody has one tick left
  pub none_due : (t : ℕ) → (thread_in (each time_up (due p) p) t).ticks ≡ 1 → ⊥
  none_due t h =
      let z = rw (due_woken t) at h in
      cases (eqb (thread_in p t).ticks 1) (λ e. let y : ◌≡◌ {A = ℕ} 0 1 = rw e at z in omega arith)
      (λ e. eqb-false (thread_in p t).ticks 1 e (rw e at z))

-- ---- a tick goes by
pub aged_record : (p : Threads) (t : ℕ) → thread_in (age_all p) t ≡ aged (thread_in p t)
unfolding age_all
aged_record p t = get_or-map aged p.records t no_thread

-- where nobody has one tick left, everybody keeps their places
pub aged_standing : {p : Threads} → Standing p → ((t : ℕ) → (thread_in p t).ticks ≡ 1 → ⊥) → Standing (age_all p)
unfolding age_all home_of rank_of
aged_standing {p} S n = record {
  count = length-map p.records aged ∙ S.count;
  tidy_places = S.tidy_places;
  tidy_time = S.tidy_time;
  placed = λ t. rw (aged_record p t) (S.placed t);
  timed = λ t. rw (aged_record p t) (S.timed t ∙ ap one (timed t));
  in_rank = ordered_keys (items p.places) (λ t _. ap rank_of (aged_record p t)) S.in_rank;
  in_time = ordered_mono (items p.time) (λ t u _ _. mono t u) S.in_time;
}
  where
    timed : (t : ℕ) → ltb 0 (thread_in p t).ticks ≡ ltb 0 ((thread_in p t).ticks - 1)
    timed t =
        let h = n t in
        cases (ltb 0 (thread_in p t).ticks) (λ e. rw e (sym (lt-ltb 0 ((thread_in p t).ticks - 1) (omega (arith, ltb-true, h)))))
        (λ e. rw e (sym (le-ltb 0 ((thread_in p t).ticks - 1) (omega (arith, ltb-false)))))

    mono : (t u : ℕ) → (thread_in p t).ticks ≤ (thread_in p u).ticks → (thread_in (age_all p) t).ticks ≤ (thread_in (age_all p) u).ticks
    mono t u b = rw (aged_record p t, aged_record p u) (omega arith)

module _ {p : Threads} (S : Standing p) where
  pub passes_standing : Standing (time_passes p)
  unfolding time_passes
  passes_standing = aged_standing (due_standing S) (none_due S)

  pub passes_record : (t : ℕ)
      → thread_in (time_passes p) t ≡ aged (cond (eqb (thread_in p t).ticks 1) (woken as_due (thread_in p t)) (thread_in p t))
  unfolding time_passes
  passes_record t = aged_record (each time_up (due p) p) t ∙ ap aged (due_woken S t)
