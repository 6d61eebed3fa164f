-- Threads that wake: who isn't up and then is has moved, and nobody else has.
use Prim.Native.Nat.{ℕ, zero, suc, ◌+◌, ◌≤◌, ◌<◌}
use mathlib.Core.Path.{◌≡◌, refl, sym, ap, ◌∙◌}
use mathlib.Core.Bool.{Bool, true, false, cond, not, false≢true}
use mathlib.Core.List.{List, [], ◌∷◌}
use native.Mathlib.Omega.{arith}
use lib.Dec.{eqb, ltb}
use lib.ListN.{get_or}
use borrow.Author.Tests.{eqb-true, eqb-false, ltb-true, ltb-false}
use borrow.Table.Steps.{cases}
use Rattle.base_queue.specs.Lists.{count}
use Rattle.base_queue.specs.Queues.{items}
use Rattle.base_queue.proofs.Counts.{same, count_head, count_rest, kept}
use Rattle.spec_kernel.specs.declared.records.Condition.{Condition}
use Rattle.spec_kernel.specs.declared.records.Condition.TheVariants.{Ready, Asleep, ForSemaphore, ForEvent, ForMessage, ForFlag}
use Rattle.spec_kernel.specs.declared.records.Wake.{Wake}
use Rattle.spec_kernel.specs.declared.records.Thread.{Thread}
use Rattle.spec_kernel.specs.declared.records.Event.{Event}
use Rattle.spec_kernel.specs.declared.records.Kernel.{Kernel}
use Rattle.spec_moves.specs.declared.parts.Threads.{Threads}
use Rattle.spec_kernel.specs.Sizes.{thread_count, event_count}
use Rattle.spec_kernel.specs.Records.{thread, no_thread, no_event}
use Rattle.spec_kernel.specs.Conditions.{ready_for, of_events}
use Rattle.spec_kernel.specs.Places.{nowhere, home_for, home_of, home}
use Rattle.spec_kernel.specs.Truth.{is_true}
use Rattle.spec_moves.specs.Moves.{thread_in, relocate}
use Rattle.spec_moves.specs.Standing.{threads_of, at_home_in, Standing}
use Rattle.spec_moves.proofs.Joins.{past_end}
use Rattle.spec_moves.proofs.Threads.{relocate_same, relocate_other, relocate_standing}
use Rattle.spec_calls.specs.declared.call.Call.{Call}
use Rattle.spec_moves.specs.States.{each}
use Rattle.spec_threads.specs.Threads.{wake_in, woken_in}
use Rattle.spec_events.specs.Events.{work_out, work_out_from}
use Rattle.proof_rules.proofs.Core.{Core, live_waiter}
use Rattle.proof_rules.proofs.Wakings.{woken, wakes, as_met, line_standing, line_woken}
use Rattle.spec_notes.specs.Touched.{touched_thread}
use Rattle.spec_notes.proofs.Stays.{Keeps, ThreadsStay, up, up_code, down_code, touched_code, relocate_keeps}

-- priorities are bytes
abbrev pub Small : Threads → Type 0
Small p = (t : ℕ) → (thread_in p t).priority < 256

-- from p to q threads wake: who is up stays up, and only who comes up moves
pub record Wakes (p q : Threads) : Type 0 where
  pub standing : Standing q
  pub small : Small q
  pub still : (t : ℕ) → up (thread_in p t) ≡ true → up (thread_in q t) ≡ true
  pub frame : (f : ℕ → Bool) → ((t : ℕ) → up (thread_in p t) ≡ false → up (thread_in q t) ≡ true → f t ≡ false) → Keeps f p q

pub none_wakes : {p : Threads} → Standing p → Small p → Wakes p p
none_wakes S s = record { standing = S; small = s; still = λ _ e. e; frame = λ _ _. (refl, refl) }

-- one run after the other
pub then_wakes : {p q r : Threads} → Wakes p q → Wakes q r → Wakes p r
then_wakes {p} {q} {r} U W = record {
  standing = W.standing;
  small = W.small;
  still = λ t e. W.still t (U.still t e);
  frame = λ f h.
      let (a, b) = U.frame f (λ t d e. h t d (W.still t e)) in
      let (c, d) = W.frame f (λ t d e. h t (down t d) e) in
      (c ∙ a, d ∙ b);
}
  where
    down : (t : ℕ) → up (thread_in q t) ≡ false → up (thread_in p t) ≡ false
    down t d = cases (up (thread_in p t)) (λ e. absurd (false≢true (sym d ∙ U.still t e))) (λ e. e)

-- so in a state that keeps the rules, who isn't touched stays
pub wakes_stay : {w : ℕ → Bool} {k : Kernel} → Core w k → (c : Call) (u : Kernel) → Wakes (threads_of k) (threads_of u) → ThreadsStay k c u
wakes_stay {k} C c u W =
    W.frame (λ t. not (touched_thread k c u t))
    (λ t d e.
    let l = live_waiter C t (λ z. false≢true (sym d ∙ ap ready_for z)) in
    rw (touched_code k c u t (λ z. omega (arith, down_code (thread k t) l d, up_code (thread u t) e))))

-- ---- those that are called wake: they are not up
pub called_wakes : (why : Thread → Wake) {p q : Threads} → Small p → Standing q → (called : ℕ → Bool)
    → ((t : ℕ) → called t ≡ true → up (thread_in p t) ≡ false)
    → ((t : ℕ) → thread_in q t ≡ cond (called t) (woken why (thread_in p t)) (thread_in p t))
    → ((f : ℕ → Bool) → ((t : ℕ) → called t ≡ true → f t ≡ false) → Keeps f p q) → Wakes p q
called_wakes why s S called down final keeps = record {
  standing = S;
  small = λ t. rw (final t) (cases (called t) (λ e. rw e (s t)) (λ e. rw e (s t)));
  still = λ t h. rw (final t) (cases (called t) (λ e. rw e) (λ e. rw e h));
  frame = λ f h. keeps f (λ t e. h t (down t e) (rw (final t, e)));
}

-- a test that holds of nobody in a list sees none of them wake
pub each_keeps : (why : Thread → Wake) (f : ℕ → Bool) (l : List ℕ) (p : Threads) → ((t : ℕ) → 0 < count t l → f t ≡ false)
    → Keeps f p (each (wakes why) l p)
each_keeps why f [] p h = (refl, refl)
each_keeps why f (x ∷ l) p h =
    let (a, b) = each_keeps why f l (wakes why x p) (λ t m. h t (count_rest t x l m)) in
    let (c, d) = relocate_keeps p x (woken why (thread_in p x)) f (λ _. h x (count_head x l)) in
    (a ∙ c, b ∙ d)

-- ---- a queue wakes
-- the home of one that isn't up, where it is no ready list
home_down : (r : Thread) → r.priority < 256 → 256 ≤ home_of r → home_of r < nowhere → up r ≡ false
unfolding home_of
home_down r s a b = go r.live r.condition a b
  where
    go : (live : Bool) (c : Condition) → 256 ≤ cond live (home_for c r.priority) nowhere
        → cond live (home_for c r.priority) nowhere < nowhere → ready_for c ≡ false
    go false c a b = absurd (omega arith)
    go true Ready a b = absurd (omega arith)
    go true Asleep a b = refl
    go true (ForSemaphore i) a b = refl
    go true (ForEvent i) a b = refl
    go true (ForMessage mask) a b = refl
    go true (ForFlag i) a b = refl

-- only an id has a record that isn't up
down_low : {p : Threads} {t : ℕ} → Standing p → up (thread_in p t) ≡ false → t < thread_count
down_low {p} {t} S d =
    cases (ltb t thread_count) (ltb-true t thread_count)
    (λ e. absurd (false≢true (sym d ∙ ap up (past_end p.records no_thread S.count (ltb-false t thread_count e)))))

module _ {p : Threads} (S : Standing p) (s : Small p) (h : ℕ) (a : 256 ≤ h) (b : h < nowhere) where
  abbrev lives : ℕ → Bool
  lives t = eqb (home_of (thread_in p t)) h

  lives_down : (t : ℕ) → lives t ≡ true → up (thread_in p t) ≡ false
  lives_down t e =
      let z = eqb-true (home_of (thread_in p t)) h e in
      home_down (thread_in p t) (s t) (omega arith) (omega arith)

  member_lives : (t : ℕ) → 0 < count t (at_home_in p h) → lives t ≡ true
  member_lives t m = (kept lives (items p.places) m).0

  -- all of it
  pub line_wakes : Wakes p (woken_in h p)
  unfolding woken_in wake_in
  line_wakes =
      called_wakes as_met s (line_standing S h) lives lives_down (line_woken S h (λ z. omega arith))
      (λ f g. each_keeps as_met f (at_home_in p h) p (λ t m. g t (member_lives t m)))

  -- one of it
  pub one_wakes : (t : ℕ) → 0 < count t (at_home_in p h) → Wakes p (relocate t (woken as_met (thread_in p t)) p)
  one_wakes t m =
      let r = woken as_met (thread_in p t) in
      let d = lives_down t (member_lives t m) in
      called_wakes as_met s (relocate_standing p t r S) (λ x. eqb x t) (λ x e. rw (eqb-true x t e) d)
      (λ x. cases (eqb x t) (λ e. rw (e, eqb-true x t e) (relocate_same p t r S.count (down_low S d)))
      (λ e. rw e (relocate_other p t r (eqb-false x t e))))
      (λ f g. relocate_keeps p t r f (λ _. g t (same t)))

-- ---- events are worked out
module _ (events : List Event) (bits : ℕ) where
  pub outs_wake : (i n : ℕ) → i + n ≤ event_count → {p : Threads} → Standing p → Small p → Wakes p (work_out_from events bits i n p)
  unfolding work_out_from work_out
  outs_wake i zero b S s = none_wakes S s
  outs_wake i (suc n) b {p} S s =
      let W : Wakes p (work_out events bits i p) =
      cases (is_true bits (get_or events i no_event)) (λ e. rw e (line_wakes S s (home of_events i) (omega arith) (omega arith)))
      (λ e. rw e (none_wakes S s)) in
      then_wakes W (outs_wake (suc i) n (omega arith) W.standing W.small)
