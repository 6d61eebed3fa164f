-- An ordered table: who stands there, what a move leaves of it, and the way back.
use mathlib.Core.Path.{◌≡◌, sym, ap, ◌∙◌}
use mathlib.Core.Bool.{Bool, true, false, and-eq-true_iff}
use mathlib.Core.List.{List}
use Prim.Native.Nat.{ℕ, ◌≤◌}
use native.Mathlib.Nat.{zero-add}
use native.Mathlib.Omega.{arith}
use lib.ListN.{length, get_or, get_or-eq_default}
use lib.Dec.{eqb, ltb}
use borrow.Author.Tests.{eqb-true, eqb-false, eq-eqb, ltb-true, ltb-false}
use borrow.Table.Steps.{cases}
use Rattle.base_queue.specs.Lists.{every_from, keep, is_not, without, count, below, Ordered}
use Rattle.base_queue.specs.Tables.{one, Placed, is_placed, moved}
use Rattle.base_queue.proofs.Counts.{same, below_count, count_below, pigeon}
use Rattle.base_queue.proofs.Counts.{count_without_same, count_without_other, not_without, keep_past}
use Rattle.base_queue.proofs.Counts.{count_behind_same, count_behind_other, keep_behind_past}
use Rattle.base_queue.proofs.Lists.{every_at, every_intro}
use Rattle.base_queue.proofs.Orders.{ordered_keep, ordered_keys, ordered_behind}

-- ---- who stands in the table
module _ (b : ℕ → Bool) (l : List ℕ) where
  -- nobody twice
  pub placed_once : Placed b l → (x : ℕ) → count x l ≤ 1
  placed_once P x = rw (P x) (cases (b x) (λ e. rw e (omega arith)) (λ e. rw e (omega arith)))

  module _ (n : ℕ) (past : (x : ℕ) → n ≤ x → b x ≡ false) where
    -- where nobody from n on belongs, nobody from n on stands there
    pub placed_past : Placed b l → (x : ℕ) → n ≤ x → count x l ≡ 0
    placed_past P x h = P x ∙ ap one (past x h)

    -- and the table has at most n
    pub placed_short : Placed b l → length l ≤ n
    placed_short P = pigeon n l (placed_once P) (placed_past P)

-- ---- the test over the records: d is what stands past their end, and doesn't belong
module _ {A : Type 0} (belongs : A → Bool) (records : List A) (d : A) (out : belongs d ≡ false) (l : List ℕ) where
  abbrev stands : ℕ → A → Bool
  stands x r = eqb (count x l) (one (belongs r))

  abbrev member : ℕ → Bool
  member x = belongs (get_or records x d)

  member_past : (x : ℕ) → length records ≤ x → member x ≡ false
  member_past x h = ap belongs (get_or-eq_default records d h) ∙ out

  -- the test passes: each that belongs stands there once, and nobody else does
  pub placed_means : is_placed belongs records l ≡ true → Placed member l
  unfolding is_placed
  placed_means h x =
      let (low, all) = (and-eq-true_iff (below (length records) l) (every_from stands 0 records)).0 h in
      cases (ltb x (length records))
      (λ e. eqb-true (count x l) (one (member x)) (rw zero-add at (every_at stands d 0 records all x (ltb-true x (length records) e))))
      (λ e. below_count (length records) l low (ltb-false x (length records) e)
      ∙ ap one (sym (member_past x (ltb-false x (length records) e))))

  -- and where that is so, it passes
  pub placed_holds : Placed member l → is_placed belongs records l ≡ true
  unfolding is_placed
  placed_holds P =
      rw (count_below (length records) l (λ x h. P x ∙ ap one (member_past x h)))
      (every_intro stands d 0 records (λ x _. rw zero-add (eq-eqb (count x l) (one (member x)) (P x))))

-- ---- x moves
module _ (stays : Bool) (after : ℕ → Bool) (x : ℕ) (l : List ℕ) where
  -- then x stands there once, if it stays
  pub count_moved_same : count x (moved stays after x l) ≡ one stays
  unfolding moved
  count_moved_same = cases stays (λ e. rw (e, count_behind_same, count_without_same)) (λ e. rw (e, count_without_same))

  -- the others as often as before
  pub count_moved_other : {u : ℕ} → (u ≡ x → ⊥) → count u (moved stays after x l) ≡ count u l
  unfolding moved
  count_moved_other h = cases stays (λ e. rw (e, count_behind_other, count_without_other)) (λ e. rw (e, count_without_other))

  -- who belongs stands there, where only x has come to belong or not to
  pub moved_placed : (b b' : ℕ → Bool) → Placed b l → b' x ≡ stays → ((u : ℕ) → (u ≡ x → ⊥) → b' u ≡ b u)
      → Placed b' (moved stays after x l)
  moved_placed b b' P h k u =
      cases (eqb u x) (λ e. rw (eqb-true u x e, h) count_moved_same)
      (λ e. let ne = eqb-false u x e in rw (k u ne) (count_moved_other ne ∙ P u))

  -- the order holds, where only x has a new key
  pub moved_ordered : {key key' : ℕ → ℕ} → Ordered key l → ((u : ℕ) → (u ≡ x → ⊥) → key' u ≡ key u)
      → ((u : ℕ) → (u ≡ x → ⊥) → after u ≡ ltb (key' x) (key u)) → Ordered key' (moved stays after x l)
  unfolding moved
  moved_ordered {key} {key'} o h k =
      let o' : Ordered key' (without x l) = ordered_keys (without x l) (λ u c. h u (not_without x l c)) (ordered_keep key (is_not x) l o) in
      cases stays
      (λ e. rw e (ordered_behind key' x (without x l) o' (λ u c. let ne = not_without x l c in rw (h u ne) (k u ne))))
      (λ e. rw e o')

  -- a test that does not hold of x does not see it move
  pub keep_moved : (f : ℕ → Bool) → f x ≡ false → keep f (moved stays after x l) ≡ keep f l
  unfolding moved
  keep_moved f h = cases stays (λ e. rw (e, keep_behind_past, keep_past)) (λ e. rw (e, keep_past))

  -- everybody else's order is as it was
  pub order_kept : without x (moved stays after x l) ≡ without x l
  order_kept = keep_moved (is_not x) (rw same)
