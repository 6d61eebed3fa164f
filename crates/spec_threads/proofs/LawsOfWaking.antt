-- Waking: one thread, and several one after the other.
use mathlib.Core.Path.{◌≡◌, refl, sym, ap, ◌∙◌}
use mathlib.Core.Bool.{Bool}
use mathlib.Core.List.{List, [], ◌∷◌, ◌++◌, append-nil, append_assoc}
use Prim.Native.Nat.{ℕ, ◌≤◌, ◌<◌}
use native.Mathlib.Omega.{arith}
use lib.Dec.{eqb}
use borrow.Author.Tests.{eqb-true, eqb-false, ne_eqb}
use borrow.Table.Steps.{cases}
use Rattle.base_queue.proofs.Lists.{keep_append}
use Rattle.base_queue.specs.Lists.{keep, without, count}
use Rattle.base_queue.specs.Queues.{items}
use Rattle.base_queue.proofs.Counts.{same, count_head, count_rest, keep_same, keep_all}
use Rattle.spec_kernel.specs.declared.records.Wake.{Wake}
use Rattle.spec_kernel.specs.declared.records.Thread.{Thread}
use Rattle.spec_kernel.specs.declared.records.Kernel.{Kernel}
use Rattle.spec_moves.specs.declared.parts.Threads.{Threads}
use Rattle.spec_kernel.specs.Records.{thread}
use Rattle.spec_kernel.specs.Places.{home_of}
use Rattle.spec_moves.specs.Moves.{thread_in, relocate}
use Rattle.spec_moves.specs.Standing.{threads_of, at_home_in, Standing}
use Rattle.spec_moves.proofs.Threads.{ready_home_lem, relocate_standing, relocate_same, relocate_other, relocate_last, relocate_leaves}
use Rattle.spec_moves.specs.States.{with_threads, each}
use Rattle.spec_threads.specs.Threads.{wake}
use Rattle.spec_laws.specs.Words.{without_all, readied, OnlyThreads}
use Rattle.spec_threads.proofs.LawsOfHomes.{Stopped}
use Rattle.spec_threads.proofs.LawsOfLists.{without_all_next}
use Rattle.spec_threads.proofs.LawsOfHomes.{place_only, stopped_home, live_id, line_without, line_once, line_stopped, time_left}
use Rattle.spec_laws.specs.OfThreads.{Woken}

-- ---- one thread
module _ {p : Threads} (S : Standing p) (t : ℕ) (W : Stopped (thread_in p t)) where
  -- who sleeps or waits is in no ready list
  pub stopped_list : {q : ℕ} → q < 256 → without t (at_home_in p q) ≡ at_home_in p q
  stopped_list {q} b = line_without S t q (λ e. omega (arith, stopped_home (thread_in p t) W.live W.stopped))

  module _ (why : Wake) (reply : ℕ) where
    abbrev woken : Thread
    woken = readied why reply (thread_in p t)

    abbrev next : Threads
    next = relocate t woken p

    woken_home : home_of woken ≡ (thread_in p t).priority
    woken_home = ready_home_lem woken (rw W.live)

    pub woken_last : at_home_in next (thread_in p t).priority ≡ at_home_in p (thread_in p t).priority ++ t ∷ []
    woken_last = relocate_last p t woken S (live_id S t W.live) woken_home W.byte ∙ rw (stopped_list W.byte)

    pub woken_leaves : {h : ℕ} → (h ≡ (thread_in p t).priority → ⊥) → at_home_in next h ≡ without t (at_home_in p h)
    woken_leaves ne = relocate_leaves p t woken S (live_id S t W.live) (λ e. ne (e ∙ woken_home))

    pub woken_time : items next.time ≡ without t (items p.time)
    woken_time = time_left S t (live_id S t W.live) woken refl

    pub woken_same : thread_in next t ≡ woken
    woken_same = relocate_same p t woken S.count (live_id S t W.live)

module _ (k : Kernel) (S : Standing (threads_of k)) (t : ℕ) (W : Stopped (thread k t)) (why : Wake) where
  -- a thread that gets a woken thread's record wakes, whatever else changes
  pub move_wakes : (reply : ℕ) (rest : Kernel)
      → Woken why reply t k (with_threads (relocate t (readied why reply (thread k t)) (threads_of k)) rest)
  move_wakes reply rest = record {
    last = woken_last S t W why reply;
    lists = λ p b ne. woken_leaves S t W why reply ne ∙ stopped_list S t W b;
    queues = λ h ne. woken_leaves S t W why reply ne;
    time = woken_time S t W why reply;
    itself = woken_same S t W why reply;
    others = λ u ne. relocate_other (threads_of k) t (readied why reply (thread k t)) ne;
  }

  -- Who wakes is in no queue any more, and last in the list of its priority [01, calls: Blocking 3].
  pub wake_wakes : Woken why (thread k t).reply t k (wake why t k)
  unfolding wake
  wake_wakes = move_wakes (thread k t).reply k

-- and nothing but threads changes
pub wake_only : (why : Wake) (t : ℕ) (k : Kernel) → OnlyThreads k (wake why t k)
unfolding wake
wake_only why t k = place_only t (readied why (thread k t).reply (thread k t)) k

-- ---- several, each for the reason that its record says
abbrev pub wakes : (Thread → Wake) → ℕ → Threads → Threads
wakes why t p = relocate t (readied (why (thread_in p t)) (thread_in p t).reply (thread_in p t)) p

-- each of l is named once, and sleeps or waits
abbrev pub Called : Threads → List ℕ → Type 0
Called p l = (t : ℕ) → 0 < count t l → (count t l ≡ 1) × Stopped (thread_in p t)

-- The threads of l wake, one after the other.
pub record AllWoken (why : Thread → Wake) (l : List ℕ) (p p' : Threads) : Type 0 where
  pub standing : Standing p'
  -- each list gets those of its priority, in the order of l
  pub lists : (q : ℕ) → q < 256 → at_home_in p' q ≡ at_home_in p q ++ keep (λ t. eqb (thread_in p t).priority q) l
  -- each queue loses them, and the others keep their order
  pub queues : (h : ℕ) → 256 ≤ h → at_home_in p' h ≡ without_all l (at_home_in p h)
  pub time : items p'.time ≡ without_all l (items p.time)
  pub woken : (t : ℕ) → 0 < count t l → thread_in p' t ≡ readied (why (thread_in p t)) (thread_in p t).reply (thread_in p t)
  pub others : (t : ℕ) → count t l ≡ 0 → thread_in p' t ≡ thread_in p t

module _ (why : Thread → Wake) where
  module _ {p : Threads} (S : Standing p) (x : ℕ) (l : List ℕ) (C : Called p (x ∷ l)) where
    abbrev first : Threads
    first = wakes why x p

    first_stopped : Stopped (thread_in p x)
    first_stopped = (C x (count_head x l)).1

    abbrev reason : Wake
    reason = why (thread_in p x)

    abbrev reply' : ℕ
    reply' = (thread_in p x).reply

    -- x stands first and nowhere else in l, so the rest of l are other threads, as they were
    first_once : count x l ≡ 0
    first_once = omega (arith, rw same at (C x (count_head x l)).0)

    rest_other : (t : ℕ) → 0 < count t l → t ≡ x → ⊥
    rest_other t c e = omega (arith, first_once, rw e at c)

    other : {t : ℕ} → (t ≡ x → ⊥) → thread_in first t ≡ thread_in p t
    other ne = relocate_other p x (readied reason reply' (thread_in p x)) ne

    rest_called : Called first l
    rest_called t c =
        let ne = rest_other t c in
        let (once, W) = C t (count_rest t x l c) in
        rw (other ne) (rw (ne_eqb x t (λ e. ne (sym e))) at once, W)

    -- the first wakes, then the rest
    first_list : (q : ℕ) → q < 256 → at_home_in first q ≡ at_home_in p q ++ keep (λ t. eqb (thread_in p t).priority q) (x ∷ [])
    first_list q b =
        cases (eqb (thread_in p x).priority q)
        (λ e. rw (e, ← eqb-true (thread_in p x).priority q e) (woken_last S x first_stopped reason reply'))
        (λ e. rw (e, append-nil)
        (woken_leaves S x first_stopped reason reply' (λ z. eqb-false (thread_in p x).priority q e (sym z))
        ∙ stopped_list S x first_stopped b))

    module _ {p' : Threads} (R : AllWoken why l first p') where
      next_lists : (q : ℕ) → q < 256 → at_home_in p' q ≡ at_home_in p q ++ keep (λ t. eqb (thread_in p t).priority q) (x ∷ l)
      next_lists q b =
          let f : ℕ → Bool = λ t. eqb (thread_in p t).priority q in
          let z : keep (λ t. eqb (thread_in first t).priority q) l ≡ keep f l =
          keep_same l (λ t c. ap (λ (r : Thread). eqb r.priority q) (other (rest_other t c))) in
          R.lists q b ∙ rw (first_list q b, z, append_assoc, ← keep_append f (x ∷ []) l)

      next_woken : (t : ℕ) → 0 < count t (x ∷ l) → thread_in p' t ≡ readied (why (thread_in p t)) (thread_in p t).reply (thread_in p t)
      next_woken t c =
          cases (eqb x t)
          (λ e. rw (← eqb-true x t e) (R.others x first_once ∙ woken_same S x first_stopped reason reply'))
          (λ e. rw (other {t = t} (λ z. eqb-false x t e (sym z))) at (R.woken t (rw e at c)))

      next_others : (t : ℕ) → count t (x ∷ l) ≡ 0 → thread_in p' t ≡ thread_in p t
      next_others t c =
          cases (eqb x t) (λ e. absurd (omega (arith, rw e at c)))
          (λ e. R.others t (rw e at c) ∙ other (λ z. eqb-false x t e (sym z)))

      next_queues : (h : ℕ) → 256 ≤ h → at_home_in p' h ≡ without_all (x ∷ l) (at_home_in p h)
      next_queues h b =
          R.queues h b
          ∙ rw (woken_leaves S x first_stopped reason reply' {h = h} (λ z. omega (arith, first_stopped.byte)), without_all_next x l)

      next_time : items p'.time ≡ without_all (x ∷ l) (items p.time)
      next_time = R.time ∙ rw (woken_time S x first_stopped reason reply', without_all_next x l)

  -- so they all wake
  pub each_woken : (l : List ℕ) {p : Threads} → Standing p → Called p l → AllWoken why l p (each (wakes why) l p)
  each_woken [] {p} S C = record {
    standing = S;
    lists = λ q b. sym (append-nil (at_home_in p q));
    queues = λ h b. sym (keep_all (at_home_in p h) (λ _ _. refl));
    time = sym (keep_all (items p.time) (λ _ _. refl));
    woken = λ t c. absurd (omega arith);
    others = λ t c. refl;
  }
  each_woken (x ∷ l) {p} S C =
      let R = each_woken l (relocate_standing p x _ S) (rest_called S x l C) in
      record {
        standing = R.standing;
        lists = next_lists S x l C R;
        queues = next_queues S x l C R;
        time = next_time S x l C R;
        woken = next_woken S x l C R;
        others = next_others S x l C R;
      }

-- ---- a queue
-- every priority is a byte
abbrev pub Bytes : Threads → Type 0
Bytes p = (t : ℕ) → (thread_in p t).priority < 256

-- who stands in an object's queue stands there once, and waits
pub line_called : {p : Threads} → Standing p → Bytes p → (h : ℕ) → 256 ≤ h → Called p (at_home_in p h)
line_called S B h b t c = (omega (arith, line_once S t h), line_stopped S t (B t) b c)
