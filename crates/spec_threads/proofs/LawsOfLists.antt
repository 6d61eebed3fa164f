-- Laws on lists that the laws of the effects need, beside the queue's own.
use mathlib.Core.Path.{◌≡◌, refl, sym, ◌∙◌}
use mathlib.Core.Bool.{Bool, true, false, false≢true}
use mathlib.Core.List.{List, [], ◌∷◌}
use Prim.Native.Nat.{ℕ, suc, ◌≤◌, ◌<◌}
use native.Mathlib.Omega.{arith}
use lib.Dec.{eqb, ltb}
use lib.ListN.{length, get_or, get_or-eq_default}
use borrow.Author.Tests.{eqb-true, eqb-false, ne_eqb, ltb-true, ltb-false, lt-ltb}
use borrow.Table.Steps.{cases}
use Rattle.base_queue.specs.Lists.{keep, without, count, behind}
use Rattle.base_queue.proofs.Counts.{same, count_head, count_rest, count_keep, keep_same, keep_keep, without_absent}
use Rattle.spec_laws.specs.Words.{without_all}

-- an id with a live record is in reach, where d, the record past the last, isn't live
pub live_inside : {A : Type 0} (live : A → Bool) (d : A) → live d ≡ false → (l : List A) {n : ℕ} → length l ≡ n
    → (i : ℕ) → live (get_or l i d) ≡ true → i < n
live_inside live d out l {n} e i h =
    cases (ltb i n) (ltb-true i n)
    (λ z. let past : length l ≤ i = omega (arith, ltb-false) in absurd (false≢true (sym out ∙ (rw (get_or-eq_default l d past) at h))))

-- a test that holds of no member keeps nobody
pub keep_none : {f : ℕ → Bool} (l : List ℕ) → ((x : ℕ) → 0 < count x l → f x ≡ false) → keep f l ≡ []
keep_none [] h = refl
keep_none (y ∷ l) h = rw (h y (count_head y l), keep_none l (λ x c. h x (count_rest x y l c)))

-- nobody stands twice in what a test keeps of a list where nobody does
pub keep_once : (f : ℕ → Bool) (l : List ℕ) (x : ℕ) → count x l ≤ 1 → count x (keep f l) ≤ 1
keep_once f l x b = rw count_keep (cases (f x) (λ e. rw e b) (λ e. rw e (omega arith)))

-- who is not kept, or was not there, is not there to be taken out
pub keep_missing : (f : ℕ → Bool) (l : List ℕ) (x : ℕ) → f x ≡ false → without x (keep f l) ≡ keep f l
keep_missing f l x e = without_absent x (keep f l) (rw (count_keep, e))

pub keep_absent : (f : ℕ → Bool) (l : List ℕ) (x : ℕ) → count x l ≡ 0 → without x (keep f l) ≡ keep f l
keep_absent f l x z = without_absent x (keep f l) (rw (count_keep, z) (cases (f x) (λ e. rw e) (λ e. rw e)))

-- the first leaves a list where it stands once
pub without_first : (x : ℕ) (l : List ℕ) → count x (x ∷ l) ≤ 1 → without x (x ∷ l) ≡ l
without_first x l b = rw same (without_absent x l (omega (arith, rw same at b)))

-- tests that agree on the members put x at the same place
pub behind_same : {f g : ℕ → Bool} (x : ℕ) (l : List ℕ) → ((u : ℕ) → 0 < count u l → f u ≡ g u) → behind f x l ≡ behind g x l
behind_same x [] h = refl
behind_same x (y ∷ l) h = rw (h y (count_head y l), behind_same x l (λ u c. h u (count_rest u y l c)))

-- one after the other
pub without_all_next : (x : ℕ) (l m : List ℕ) → without_all l (without x m) ≡ without_all (x ∷ l) m
without_all_next x l m =
    rw keep_keep
    (keep_same m λ t _.
    cases (eqb x t)
    (λ e. rw (eqb-true x t e, same, lt-ltb 0 (suc (count t l)) (omega arith)))
    (λ e. rw (e, ne_eqb t x (λ z. eqb-false x t e (sym z)))))
