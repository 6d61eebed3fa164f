-- Working out the events, the lowest id first: one event more.
use Prim.Native.Nat.{ℕ, zero, suc, ◌+◌}
use mathlib.Core.Path.{◌≡◌, refl, sym}
use mathlib.Core.Bool.{true, false, not, ◌&&◌, false≢true}
use mathlib.Core.List.{List, [], ◌∷◌}
use native.Mathlib.Nat.{zero-add, add-zero, add-suc, suc-add}
use native.Mathlib.Numerals.{add-one}
use lib.ListN.{get_or}
use borrow.Author.Tests.{not-false}
use borrow.Table.Steps.{cases}
use Rattle.base_queue.specs.Lists.{is_empty}
use Rattle.spec_kernel.specs.declared.records.Event.{Event}
use Rattle.spec_moves.specs.declared.parts.Threads.{Threads}
use Rattle.spec_kernel.specs.Records.{no_event}
use Rattle.spec_kernel.specs.Conditions.{of_events}
use Rattle.spec_kernel.specs.Places.{home}
use Rattle.spec_kernel.specs.Truth.{is_true}
use Rattle.spec_moves.specs.Standing.{at_home_in}
use Rattle.spec_moves.specs.States.{each}
use Rattle.spec_refusals.proofs.Applies.{and_left}
use Rattle.spec_threads.specs.Threads.{wake_in, woken_in}
use Rattle.spec_events.specs.Events.{work_out, work_out_from}

-- where nobody waits, nobody wakes
each_none : (l : List ℕ) (q : Threads) → is_empty l ≡ true → each wake_in l q ≡ q
each_none [] q e = refl
each_none (x ∷ l) q e = absurd (false≢true e)

woken_nobody : (h : ℕ) (q : Threads) → is_empty (at_home_in q h) ≡ true → woken_in h q ≡ q
unfolding woken_in
woken_nobody h q e = each_none (at_home_in q h) q e

module _ (events : List Event) (bits : ℕ) where
  -- one event more, from j on and from the first
  work_next : (n j : ℕ) (p : Threads) → work_out_from events bits j (suc n) p ≡ work_out events bits (j + n) (work_out_from events bits j n p)
  unfolding work_out_from
  work_next zero j p = rw add-zero
  work_next (suc n) j p = rw (add-suc, ← suc-add) (work_next n (suc j) (work_out events bits j p))

  module _ (i : ℕ) (p : Threads) {q : Threads} (w : q ≡ work_out_from events bits 0 i p) where
    one_more_lem : work_out_from events bits 0 (i + 1) p ≡ work_out events bits i q
    one_more_lem = rw (add-one, work_next i 0 p, zero-add, w)

    -- it is TRUE and somebody waits for it
    pub work_true : (is_true bits (get_or events i no_event) && not (is_empty (at_home_in q (home of_events i)))) ≡ true
        → woken_in (home of_events i) q ≡ work_out_from events bits 0 (i + 1) p
    unfolding work_out
    work_true e = sym (rw (one_more_lem, and_left (is_true bits (get_or events i no_event)) _ e))

    -- or it is FALSE, or nobody waits
    pub work_false : (is_true bits (get_or events i no_event) && not (is_empty (at_home_in q (home of_events i)))) ≡ false
        → q ≡ work_out_from events bits 0 (i + 1) p
    unfolding work_out
    work_false e =
        cases (is_true bits (get_or events i no_event)) (λ t. sym (rw (one_more_lem, t) (woken_nobody _ q (not-false _ (rw t at e)))))
        (λ t. sym (rw (one_more_lem, t)))
