-- Who runs: in a table that is in the order of the homes, the first place is the first ready one, or nobody is ready.
use Prim.Native.Nat.{ℕ, zero, suc, ◌+◌, ◌≤◌, ◌<◌}
use mathlib.Core.Path.{◌≡◌, refl, sym}
use mathlib.Core.Bool.{cond}
use mathlib.Core.List.{List, [], ◌∷◌}
use native.Mathlib.Omega.{arith}
use lib.Dec.{eqb, ltb}
use borrow.Author.Tests.{eqb-true, eqb-false, ltb-true, ltb-false}
use borrow.Table.Steps.{cases}
use Rattle.base_queue.specs.Lists.{count, first_of, Ordered}
use Rattle.base_queue.specs.Queues.{items}
use Rattle.base_queue.proofs.Counts.{count_head, kept}
use Rattle.base_queue.proofs.Orders.{ordered_low}
use Rattle.spec_kernel.specs.declared.records.Kernel.{Kernel}
use Rattle.spec_kernel.specs.Sizes.{priority_count}
use Rattle.spec_kernel.specs.Records.{thread}
use Rattle.spec_kernel.specs.Places.{home_of, at_home}
use Rattle.spec_kernel.specs.Runner.{ready_from, first_ready, chosen}
use Rattle.spec_rules.proofs.Homes.{Housed}

-- a list without members
pub nobody : (l : List ℕ) → ((u : ℕ) → 0 < count u l → ⊥) → l ≡ []
nobody [] h = refl
nobody (x ∷ l) h = absurd (h x (count_head x l))

module _ (k : Kernel) where
  abbrev home : ℕ → ℕ
  home u = home_of (thread k u)

  -- nobody's home is below n: no list below n has a member
  module _ (n : ℕ) (from : (u : ℕ) → 0 < count u (items k.places) → n ≤ home u) where
    line_none : (h : ℕ) → h < n → at_home k h ≡ []
    line_none h b = nobody (at_home k h) λ u c.
        let (e, m) = kept (λ v. eqb (home v) h) (items k.places) c in omega (arith, eqb-true (home u) h e, from u m)

    ready_none : (p m : ℕ) → p + m ≤ n → ready_from k p m ≡ []
    unfolding ready_from
    ready_none p zero b = refl
    ready_none p (suc m) b = rw (line_none p (omega arith), ready_none (suc p) m (omega arith))

  -- the first place is first of the lists from p on, where its home is among them
  ready_first : (x : ℕ) (l : List ℕ) → items k.places ≡ x ∷ l → ((u : ℕ) → 0 < count u (items k.places) → home x ≤ home u)
      → (p m : ℕ) → p ≤ home x → home x < p + m → first_of (ready_from k p m) ≡ x
  unfolding ready_from
  ready_first x l e from p zero b c = absurd (omega arith)
  ready_first x l e from p (suc m) b c =
      cases (eqb (home x) p) (λ f. rw (e, f))
      (λ f. let n = eqb-false (home x) p f in
      rw (line_none (home x) from p (omega arith)) (ready_first x l e from (suc p) m (omega arith) (omega arith)))

  -- the first place, where it is in a ready list, is the first ready one
  pub first_place : ((t : ℕ) → Housed (thread k t)) → Ordered home (items k.places) → chosen k ≡ first_ready k
  unfolding chosen first_ready
  first_place H o = go (items k.places) refl
    where
      go : (l : List ℕ) → items k.places ≡ l
          → cond (ltb (home (first_of (items k.places))) 256) (first_of (items k.places)) 255 ≡ first_of (ready_from k 1 priority_count)
      go [] e =
          rw (e, ready_none (suc priority_count) (λ u c. absurd (omega (arith, rw e at c))) 1 priority_count (omega arith))
          (cases (ltb (home 255) 256) (λ f. rw f) (λ f. rw f))
      go (x ∷ l) e =
          let after : Ordered home (x ∷ l) = rw e at o in
          let from : (u : ℕ) → 0 < count u (items k.places) → home x ≤ home u =
          λ u c. ordered_low home {low = home x} (x ∷ l) (omega arith, after.1) u (rw e at c) in
          cases (ltb (home x) 256)
          (λ f. let (b, c) = (H x).low (ltb-true (home x) 256 f) in rw (e, f) (sym (ready_first x l e from 1 priority_count b (omega arith))))
          (λ f. rw (e, f, ready_none (home x) from 1 priority_count (omega (arith, ltb-false))))
