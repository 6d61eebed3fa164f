-- Many undos as the loop makes them: with i of n made, the others are still to come.
use Prim.Native.Nat.{ℕ, suc, ◌+◌, ◌-◌, ◌≤◌, ◌<◌}
use mathlib.Core.Path.{◌≡◌}
use mathlib.Core.List.{List}
use native.Mathlib.Omega.{arith}
use borrow.Author.Tests.{eq-eqb, ne_eqb}
use Rattle.spec_kernel.specs.declared.records.Kernel.{Kernel}
use Rattle.spec_notes.specs.Undoes.{undoes_kept}
use Rattle.spec_answers.specs.declared.Logged.{Logged}
use Rattle.spec_answers.specs.declared.Reached.{Reached}
use Rattle.spec_answers.specs.Steps.{answer}
use Rattle.spec_answers.proofs.Undos.{led_back_lem}
use Rattle.spec_answers.specs.Logs.{logged, reached, last_given, one_more, many_by, undone_kept}

-- what is reached, with i undone before
abbrev pub behind : ℕ → Reached → Reached
behind i r = reached (last_given r) (i + r.undone)

behind_none : (r : Reached) → r ≡ behind 0 r
behind_none r =
    let e : r.undone ≡ 0 + r.undone = omega arith in
    λ j. record { answer = r.answer; kernel = r.kernel; used = r.used; undone = e j }

behind_next : (i : ℕ) (r : Reached) → behind i (one_more r) ≡ behind (i + 1) r
behind_next i r =
    let e : i + suc r.undone ≡ (i + 1) + r.undone = omega arith in
    λ j. record { answer = r.answer; kernel = r.kernel; used = r.used; undone = e j }

behind_stop : (i : ℕ) (x : Logged) → behind i (reached x 0) ≡ reached x i
behind_stop i x =
    let e : i + 0 ≡ i = omega arith in
    λ j. record { answer = x.answer; kernel = x.kernel; used = x.used; undone = e j }

-- what is to come of n undos where i are made
abbrev pub left : ℕ → ℕ → Kernel → List ℕ → ℕ → Reached
left n i k log used = behind i (many_by undone_kept (n - i) k log used)

pub begin : (n : ℕ) (k : Kernel) (log : List ℕ) (used : ℕ) → many_by undone_kept n k log used ≡ left n 0 k log used
begin n k log used = let e : n - 0 ≡ n = omega arith in rw e (behind_none (many_by undone_kept n k log used))

-- an undo that answers 0 says who runs in the state that it gives
pub led : (k : Kernel) (log : List ℕ) (used : ℕ) (r : Logged) → r ≡ undone_kept k log used → r.answer.number ≡ 0
    → r ≡ logged (answer 0 255 r.kernel.runner) r.kernel r.used
unfolding undone_kept
led k log used r e z = led_back_lem k log used (undoes_kept k log used) r e z

module _ (n i : ℕ) (k : Kernel) (log : List ℕ) (used : ℕ) where
  -- the next one, r, is made, or refused
  module _ (h : i < n) (r : Logged) (e : r ≡ undone_kept k log used) where
    one_less : n - i ≡ suc (n - (i + 1))
    one_less = omega arith

    pub turn : r.answer.number ≡ 0 → left n i k log used ≡ left n (i + 1) r.kernel log r.used
    turn z = rw (one_less, ← e, eq-eqb r.answer.number 0 z) (behind_next i (many_by undone_kept (n - (i + 1)) r.kernel log r.used))

    pub stop : (r.answer.number ≡ 0 → ⊥) → left n i k log used ≡ reached r i
    stop z = rw (one_less, ← e, ne_eqb r.answer.number 0 z) (behind_stop i r)

  pub end : n ≤ i → left n i k log used ≡ reached (logged (answer 0 255 k.runner) k used) i
  end h = let e : n - i ≡ 0 = omega arith in rw e (behind_stop i (logged (answer 0 255 k.runner) k used))
