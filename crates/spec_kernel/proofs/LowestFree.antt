-- The lowest free id is that of a record that isn't live, every record before it is live, and 255 says that all are.
use Prim.Native.Nat.{ℕ, zero, suc, ◌+◌, ◌≤◌, ◌<◌}
use mathlib.Core.Path.{◌≡◌, refl}
use mathlib.Core.Bool.{Bool, true, false}
use mathlib.Core.List.{List, [], ◌∷◌}
use native.Mathlib.Omega.{arith}
use lib.ListN.{length, get_or}
use borrow.Table.Steps.{cases}
use Rattle.spec_kernel.specs.Free.{lowest_free}

-- the place of a free record among those of the ids from k on, which is the one named
record Found {A : Type 0} (live : A → Bool) (d : A) (k : ℕ) (l : List A) : Type 0 where
  place : ℕ
  named : lowest_free live k l ≡ k + place
  inside : place < length l
  free : live (get_or l place d) ≡ false

module _ {A : Type 0} (live : A → Bool) (d : A) where
  -- the first is live
  found_next : (k : ℕ) (x : A) (l : List A) → live x ≡ true → Found live d (suc k) l → Found live d k (x ∷ l)
  found_next k x l e F =
      record { place = suc F.place; named = rw e (omega (arith, F.named)); inside = omega (arith, F.inside); free = F.free }

  -- an id that isn't 255 is that of such a record
  found : (k : ℕ) (l : List A) → (lowest_free live k l ≡ 255 → ⊥) → Found live d k l
  found k [] s = absurd (s refl)
  found k (x ∷ l) s =
      cases (live x) (λ e. found_next k x l e (found (suc k) l (rw e at s)))
      (λ e. record { place = 0; named = rw e (omega arith); inside = omega arith; free = e })

  -- no free record has a lower id
  at_most : (k : ℕ) (l : List A) (i : ℕ) → i < length l → live (get_or l i d) ≡ false → lowest_free live k l ≤ k + i
  at_most k [] i h e = absurd (omega arith)
  at_most k (x ∷ l) zero h e = rw e (omega arith)
  at_most k (x ∷ l) (suc i) h e =
      cases (live x) (λ z. rw z (omega (arith, at_most (suc k) l i (omega arith) e))) (λ z. rw z (omega arith))

  module _ (l : List A) where
    -- whatever stands before it is live
    before : (i : ℕ) → i < length l → i < lowest_free live 0 l → live (get_or l i d) ≡ true
    before i h b = cases (live (get_or l i d)) (λ e. e) (λ e. absurd (omega (arith, at_most 0 l i h e)))

    module _ (s : lowest_free live 0 l ≡ 255 → ⊥) where
      -- the id is that of a record that isn't live
      pub free_is_free : (lowest_free live 0 l < length l) × (live (get_or l (lowest_free live 0 l) d) ≡ false)
      free_is_free = let F = found 0 l s in let e : lowest_free live 0 l ≡ F.place = omega (arith, F.named) in rw e (F.inside, F.free)

      -- and the lowest: every record before it is live
      pub free_is_lowest : (i : ℕ) → i < lowest_free live 0 l → live (get_or l i d) ≡ true
      free_is_lowest i h = before i (omega (arith, free_is_free.0)) h

    -- 255 says that every record is live
    pub none_free : length l ≤ 255 → lowest_free live 0 l ≡ 255 → (i : ℕ) → i < length l → live (get_or l i d) ≡ true
    none_free b s i h = before i h (omega arith)
