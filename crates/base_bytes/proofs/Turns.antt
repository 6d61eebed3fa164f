-- What one turn of each loop over bytes adds, and what is left where it ends.
use Prim.Native.Nat.{ℕ, zero, suc, ◌+◌, ◌-◌, ◌*◌, ◌/◌, ◌%◌, ◌^◌, ◌≤◌, ◌<◌, min}
use mathlib.Core.Path.{◌≡◌, refl, sym, ap₂}
use mathlib.Core.List.{List, [], ◌∷◌}
use mathlib.Core.Bool.{◌&&◌}
use native.Mathlib.Nat.{add-zero, add_comm, zero-min, suc-min-suc, pow-le-pow_right}
use native.Mathlib.Numerals.{add-one}
use native.Mathlib.Omega.{arith}
use lib.ListN.{length, get_or, take, drop, length-drop}
use lib.Seq.{drop-nil, drop-drop, get_or-drop, take_all}
use lib.Dec.{eqb}
use borrow.Author.Tests.{eqb-true, eqb-false, eq-eqb, ne_eqb}
use borrow.Table.Steps.{cases}
use Rattle.std.specs.Cmp.Lexicographic.{pointwise}
use Rattle.base_bytes.specs.Bytes.{le, un, begins}
use Rattle.base_bytes.proofs.Numbers.{un_small}

-- one byte of a number that is written
pub le_next : (k j x : ℕ) → k ≡ j + 1 → le k x ≡ x % 256 ∷ le j (x / 256)
unfolding le
le_next k j x e = rw (e, add-one)

-- one byte of a number that is read, from the last on
pub un_next : (s : List ℕ) (a b n m : ℕ) → a + 1 ≡ b → n + 1 ≡ m → un m (drop a s) ≡ 256 * un n (drop b s) + get_or s a 0
unfolding un
un_next s a b n m e f = rw (← f, add-one, get_or-drop, add-zero, drop-drop, e) (add_comm _ _)

-- four bytes are a word
pub un_word : (s : List ℕ) (n a : ℕ) → n ≤ 4 → ((i : ℕ) → get_or s i 0 < 256) → un n (drop a s) < 2 ^ 32
un_word s n a h b =
    let p : 256 ^ n ≤ 256 ^ 4 = pow-le-pow_right (omega arith) h in
    omega (arith, un_small n (drop a s) (λ i. rw get_or-drop (b (a + i))))

-- a place past the end is as good as the end
pub drop_least : (s : List ℕ) (at : ℕ) → drop (min at (length s)) s ≡ drop at s
drop_least [] at = rw (drop-nil, drop-nil)
drop_least (x ∷ s) zero = rw zero-min
drop_least (x ∷ s) (suc at) = rw suc-min-suc (drop_least s at)

-- a byte is another where that one is it
eqb_turned : (a b : ℕ) → eqb a b ≡ eqb b a
eqb_turned a b =
    cases (eqb a b) (λ e. rw (e, eq-eqb b a (sym (eqb-true a b e))))
    (λ e. rw (e, ne_eqb b a (λ q. eqb-false a b e (sym q))))

-- std's test for the beginning is ours
begins_starts : (bytes s : List ℕ) → pointwise eqb bytes (take (length bytes) s) ≡ begins bytes s
unfolding begins
begins_starts [] s = refl
begins_starts (b ∷ bytes) [] = refl
begins_starts (b ∷ bytes) (x ∷ s) = ap₂ ◌&&◌ (eqb_turned b x) (begins_starts bytes s)

-- and so it is of what stands from a place on
pub begins_from : (bytes s : List ℕ) (at from : ℕ) → from ≡ min at (length s)
    → pointwise eqb bytes (take (length bytes) (take (length s - from) (drop from s))) ≡ begins bytes (drop at s)
begins_from bytes s at from e =
    let all : length (drop from s) ≤ length s - from = simp length-drop (omega arith) in
    rw (take_all (length s - from) (drop from s) all, e, drop_least) (begins_starts bytes (drop at s))
