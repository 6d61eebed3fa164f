-- The first of a list or queue of threads is 255 exactly where nobody stands in it: 255 is no thread.
use Prim.Native.Nat.{ℕ, ◌<◌}
use mathlib.Core.Path.{◌≡◌, refl, subst}
use mathlib.Core.List.{List, [], ◌∷◌}
use native.Mathlib.Omega.{arith}
use lib.Dec.{eqb, ltb}
use lib.ListN.{length, get_or}
use borrow.Author.Tests.{eqb-true, ne_eqb, ltb-true, ltb-false}
use borrow.Table.Steps.{cases}
use Rattle.base_queue.specs.Lists.{keep, count, first_of, is_empty}
use Rattle.base_queue.proofs.Counts.{count_head, kept}
use Rattle.spec_kernel.specs.declared.records.Thread.{Thread}
use Rattle.spec_kernel.specs.Sizes.{thread_count}
use Rattle.spec_kernel.specs.Records.{no_thread}
use Rattle.spec_kernel.specs.Places.{nowhere, home_of}
use Rattle.spec_moves.proofs.Joins.{past_end}

-- where 255 is no member, the first is 255 for the empty list alone
first_none : (l : List ℕ) → (0 < count 255 l → ⊥) → eqb (first_of l) 255 ≡ is_empty l
first_none [] h = refl
first_none (x ∷ l) h = ne_eqb x 255 (λ e. h (subst (λ (z : ℕ). 0 < count z (x ∷ l)) e (count_head x l)))

module _ (threads : List Thread) (e : length threads ≡ thread_count) (l : List ℕ) {h : ℕ} (b : h < nowhere) where
  -- those of l whose home is h
  abbrev line : List ℕ
  line = keep (λ t. eqb (home_of (get_or threads t no_thread)) h) l

  -- who stands in a list or queue is a thread
  line_member : (t : ℕ) → 0 < count t line → t < thread_count
  unfolding home_of
  line_member t c =
      cases (ltb t thread_count) (λ z. ltb-true t thread_count z)
      (λ z. let n : nowhere ≡ h = eqb-true nowhere h (rw (past_end threads no_thread e (ltb-false t thread_count z)) at (kept
      (λ t. eqb (home_of (get_or threads t no_thread)) h) l c).0) in absurd (omega arith))

  pub line_empty : eqb (first_of line) 255 ≡ is_empty line
  line_empty = first_none line (λ c. omega (arith, line_member 255 c))
