-- A table's members empty a set exactly where each of the set stands there once and nobody else does; with that, the test by a set and
-- by an array of keys is the test by the records that these tell of. Assumes nothing.
use Prim.Native.Nat.{ℕ, suc, ◌+◌, ◌-◌, ◌^◌, ◌≤◌, ◌<◌}
use mathlib.Core.Path.{◌≡◌, refl, sym, ap, ◌∙◌}
use mathlib.Core.Bool.{Bool, true, false, ◌&&◌}
use mathlib.Core.List.{List, [], ◌∷◌}
use native.Mathlib.Omega.{arith}
use lib.Dec.{eqb, ltb, leb}
use lib.ListN.{length, get_or, set, length-set, get_or-eq_default}
use lib.Seq.{get_or-set_same, get_or-set_other}
use borrow.Author.Count.{below_more}
use borrow.Author.Tests.{eqb-true, eqb-false, eq-eqb, ltb-true, ltb-false}
use borrow.Table.Steps.{cases}
use Rattle.base_bits.specs.Words.{has_bit}
use Rattle.base_bits.specs.Sets.{Tells}
use Rattle.base_bits.proofs.Digits.{same_truth}
use Rattle.base_bits.proofs.Members.{has_none, none_has, taken_lacks, taken_others}
use Rattle.base_queue.specs.Lists.{count}
use Rattle.base_queue.specs.Queues.{capacity}
use Rattle.base_queue.specs.Tables.{one, Placed, is_placed, is_ordered_from}
use Rattle.base_queue.proofs.Counts.{count_head, count_rest}
use Rattle.base_queue.proofs.Lists.{and_both}
use Rattle.base_queue.proofs.Tables.{placed_means, placed_holds}
use Rattle.base_tables.specs.Taken.{empties, is_taken, Keys}

-- who stands as often as its bit says has its bit set where it stands
bit_of : (b : Bool) → 0 < one b → b ≡ true
bit_of true h = refl
bit_of false h = absurd (omega arith)

bit_not : (b : Bool) → one b ≡ 0 → b ≡ false
bit_not true h = absurd (omega arith)
bit_not false h = refl

-- ---- the set and the members
pub empties_means : (set : ℕ) (l : List ℕ) → empties set l ≡ true → Placed (has_bit set) l
empties_means set [] e x = rw (eqb-true set 0 e, has_none)
empties_means set (y ∷ l) e x =
    let (there, rest) = and_both (has_bit set y) (empties (set - 2 ^ y) l) e in
    let r : count x l ≡ one (has_bit (set - 2 ^ y) x) = empties_means (set - 2 ^ y) l rest x in
    cases (eqb y x)
    (λ q. let w : y ≡ x = eqb-true y x q in
    let g : has_bit (set - 2 ^ y) x ≡ false = rw (← w) (taken_lacks set y there) in
    let t : has_bit set x ≡ true = rw w at there in
    rw (q, t) (ap (λ (n : ℕ). suc n) (r ∙ ap one g)))
    (λ q. rw q (r ∙ ap one (taken_others set y there x (eqb-false y x q))))

pub empties_holds : (set : ℕ) (l : List ℕ) → Placed (has_bit set) l → empties set l ≡ true
empties_holds set [] P = eq-eqb set 0 (none_has set (λ x. bit_not (has_bit set x) (sym (P x))))
empties_holds set (y ∷ l) P =
    let there : has_bit set y ≡ true = bit_of (has_bit set y) (rw (P y) at (count_head y l)) in
    let rest : Placed (has_bit (set - 2 ^ y)) l =
    λ x. cases (eqb y x)
    (λ q. let w : y ≡ x = eqb-true y x q in
    let g : has_bit (set - 2 ^ y) x ≡ false = rw (← w) (taken_lacks set y there) in
    let t : has_bit set x ≡ true = rw w at there in
    let p : suc (count x l) ≡ 1 = rw (q, t) at (P x) in
    rw g (omega arith))
    (λ q. let p : count x l ≡ one (has_bit set x) = rw q at (P x) in
    p ∙ ap one (sym (taken_others set y there x (eqb-false y x q)))) in
    rw there (empties_holds (set - 2 ^ y) l rest)

-- ---- keys that agree on the members
pub same_order : {key key' : ℕ → ℕ} (low : ℕ) (l : List ℕ) → ((x : ℕ) → 0 < count x l → key x ≡ key' x)
    → is_ordered_from low key l ≡ is_ordered_from low key' l
same_order low [] h = refl
same_order {key} {key'} low (y ∷ l) h =
    let r = same_order {key = key} {key' = key'} (key' y) l (λ x c. h x (count_rest x y l c)) in
    rw (h y (count_head y l)) (ap (λ (b : Bool). leb low (key' y) && b) r)

-- ---- keys that a loop fills in
pub keys_none : (key : ℕ → ℕ) (keys : List ℕ) → length keys ≡ capacity → Keys keys 0 key
keys_none key keys e = record { full = e; of = λ x h. absurd (omega arith) }

-- v is the next key
pub keys_next : {keys : List ℕ} {n v : ℕ} {key : ℕ → ℕ} → Keys keys n key → n < capacity → v ≡ key n → Keys (set keys n v) (n + 1) key
keys_next {keys} {n} {v} {key} k h e =
    record {
      full = length-set keys n v ∙ k.full;
      of = below_more (λ x. get_or (set keys n v) x 0 ≡ key x) n (λ x b. get_or-set_other keys n x v 0 (λ q. omega arith) ∙ k.of x b)
          (get_or-set_same keys n v 0 (omega (arith, k.full)) ∙ e);
    }

-- ---- the records that a set and an array of keys tell of; d is what stands past their end, and doesn't belong
pub told_members : {A : Type 0} (belongs : A → Bool) (records : List A) (d : A) → belongs d ≡ false → (n : ℕ) → length records ≡ n
    → (set : ℕ) → Tells set n (λ x. belongs (get_or records x d)) → (x : ℕ) → has_bit set x ≡ belongs (get_or records x d)
told_members belongs records d out n full set told x =
    cases (ltb x n) (λ e. told.of x ∙ rw e)
    (λ e. let past : length records ≤ x = omega (arith, ltb-false x n e) in
    told.of x ∙ rw (e, get_or-eq_default records d past) (sym out))

module _ {A : Type 0} (belongs : A → Bool) (key : A → ℕ) (records : List A) (d : A) (out : belongs d ≡ false) (n : ℕ)
    (full : length records ≡ n) (set : ℕ) (keys : List ℕ) (told : Tells set n (λ x. belongs (get_or records x d)))
    (keyed : Keys keys n (λ x. key (get_or records x d))) (l : List ℕ) where
  member : (x : ℕ) → has_bit set x ≡ belongs (get_or records x d)
  member = told_members belongs records d out n full set told

  pub taken_placed : empties set l ≡ is_placed belongs records l
  taken_placed =
      same_truth _ _ (λ e. placed_holds belongs records d out l (λ x. empties_means set l e x ∙ ap one (member x)))
      (λ e. empties_holds set l (λ x. placed_means belongs records d out l e x ∙ ap one (sym (member x))))

  in_order : is_placed belongs records l ≡ true
      → is_ordered_from 0 (λ x. get_or keys x 0) l ≡ is_ordered_from 0 (λ x. key (get_or records x d)) l
  in_order e = same_order 0 l (λ x c. keyed.of x (within x _ (told.of x) (there x c)))
    where
      there : (x : ℕ) → 0 < count x l → has_bit set x ≡ true
      there x c = bit_of (has_bit set x) (rw (empties_means set l (taken_placed ∙ e) x) at c)

      within : (x : ℕ) (b : Bool) → has_bit set x ≡ (ltb x n && b) → has_bit set x ≡ true → x < n
      within x b f t = ltb-true x n (and_both (ltb x n) b (sym f ∙ t)).0

  -- The test by the set and the keys is the test by the records.
  pub taken_means : is_taken set 0 keys l ≡ (is_placed belongs records l && is_ordered_from 0 (λ x. key (get_or records x d)) l)
  taken_means = rw taken_placed (cases (is_placed belongs records l) (λ e. rw e (in_order e)) (λ e. rw e))
