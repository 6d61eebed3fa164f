-- Lists in the order of a key: taking out, joining behind one's equals, other keys, and keys of two parts.
-- The laws `..-from` are the same with a bound on the first key, as the inductions need it.
use mathlib.Core.Path.{◌≡◌, refl, sym, ◌∙◌}
use mathlib.Core.Bool.{Bool, true, and-eq-true_iff}
use mathlib.Core.List.{List, [], ◌∷◌}
use Prim.Native.Nat.{ℕ, ◌+◌, ◌*◌, ◌≤◌, ◌<◌}
use native.Mathlib.Omega.{arith}
use lib.Dec.{eqb, ltb, leb}
use borrow.Author.Tests.{eqb-true, eqb-false, ltb-true, ltb-false, lt-ltb, leb-true, le-leb}
use borrow.Table.Steps.{cases}
use Rattle.base_queue.specs.Lists.{keep, count, behind, OrderedFrom, Ordered}
use Rattle.base_queue.specs.Tables.{is_ordered_from}
use Rattle.base_queue.proofs.Counts.{same, count_head, count_rest, kept, behind_first}

module _ (key : ℕ → ℕ) where
  -- a lower bound is a bound
  ordered_lower : {low low' : ℕ} (l : List ℕ) → low' ≤ low → OrderedFrom low key l → OrderedFrom low' key l
  ordered_lower [] b o = tt
  ordered_lower (x ∷ l) b o = (omega arith, o.1)

  -- the bound holds of each member
  pub ordered_low : {low : ℕ} (l : List ℕ) → OrderedFrom low key l → (u : ℕ) → 0 < count u l → low ≤ key u
  ordered_low [] o u c = absurd (omega arith)
  ordered_low {low = low} (x ∷ l) o u c =
      cases (eqb x u) (λ e. rw (← eqb-true x u e) o.0) (λ e. let r = ordered_low {low = key x} l o.1 u (rw e at c) in omega arith)

  -- ---- some are taken out
  keep_from : (low : ℕ) (f : ℕ → Bool) (l : List ℕ) → OrderedFrom low key l → OrderedFrom low key (keep f l)
  keep_from low f [] o = tt
  keep_from low f (x ∷ l) o =
      let r = keep_from (key x) f l o.1 in
      cases (f x) (λ e. rw e (o.0, r)) (λ e. rw e (ordered_lower (keep f l) o.0 r))

  -- the others are in order
  pub ordered_keep : (f : ℕ → Bool) (l : List ℕ) → Ordered key l → Ordered key (keep f l)
  ordered_keep f l o = keep_from 0 f l o

  -- ---- x joins behind its equals
  behind_from : (low : ℕ) {after : ℕ → Bool} (x : ℕ) (l : List ℕ) → low ≤ key x → OrderedFrom low key l
      → ((u : ℕ) → 0 < count u l → after u ≡ ltb (key x) (key u)) → OrderedFrom low key (behind after x l)
  behind_from low x [] b o h = (b, tt)
  behind_from low x (y ∷ l) b o h =
      let is = h y (count_head y l) in
      cases (ltb (key x) (key y))
      (λ e. rw (is, e) (b, (omega (arith, ltb-true), o.1)))
      (λ e. rw (is, e) (o.0, behind_from (key y) x l (omega (arith, ltb-false)) o.1 (λ u c. h u (count_rest u y l c))))

  -- with it they are in order
  pub ordered_behind : {after : ℕ → Bool} (x : ℕ) (l : List ℕ) → Ordered key l
      → ((u : ℕ) → 0 < count u l → after u ≡ ltb (key x) (key u)) → Ordered key (behind after x l)
  ordered_behind x l o h = behind_from 0 x l (omega arith) o h

  keep_behind_from : (low k : ℕ) (f : ℕ → Bool) {after : ℕ → Bool} (x : ℕ) (l : List ℕ) → OrderedFrom low key l
      → ((u : ℕ) → 0 < count u l → after u ≡ ltb k (key u)) → f x ≡ true → keep f (behind after x l) ≡ behind after x (keep f l)
  keep_behind_from low k f x [] o h t = rw t
  keep_behind_from low k f {after} x (y ∷ l) o h t =
      let r = keep_behind_from (key y) k f {after = after} x l o.1 (λ u c. h u (count_rest u y l c)) t in
      let is = h y (count_head y l) in
      cases (ltb k (key y)) (λ e. rw (is, e, t) (sym (behind_first x (keep f (y ∷ l)) (all_after (ltb-true k (key y) e)))))
      (λ e. cases (f y) (λ g. simp (is, e, g, r)) (λ g. simp (is, e, g, r)))
    where
      all_after : k < key y → (u : ℕ) → 0 < count u (keep f (y ∷ l)) → after u ≡ true
      all_after b u c =
          let m = (kept f (y ∷ l) c).1 in
          h u m ∙ lt-ltb k (key u) (omega (arith, ordered_low {low = key y} (y ∷ l) (omega arith, o.1) u m))

  -- it joins each run that it belongs to behind its equals there; k is its key
  pub keep_behind : (k : ℕ) (f : ℕ → Bool) {after : ℕ → Bool} (x : ℕ) (l : List ℕ) → Ordered key l
      → ((u : ℕ) → 0 < count u l → after u ≡ ltb k (key u)) → f x ≡ true → keep f (behind after x l) ≡ behind after x (keep f l)
  keep_behind k f x l o h t = keep_behind_from 0 k f x l o h t

  -- ---- the order as a test
  means_from : (low : ℕ) (l : List ℕ) → is_ordered_from low key l ≡ true → OrderedFrom low key l
  means_from low [] h = tt
  means_from low (x ∷ l) h =
      let (first, rest) = (and-eq-true_iff (leb low (key x)) (is_ordered_from (key x) key l)).0 h in
      (leb-true low (key x) first, means_from (key x) l rest)

  -- the test passes: they are in order
  pub ordered_means : (l : List ℕ) → is_ordered_from 0 key l ≡ true → Ordered key l
  ordered_means l h = means_from 0 l h

  holds_from : (low : ℕ) (l : List ℕ) → OrderedFrom low key l → is_ordered_from low key l ≡ true
  holds_from low [] o = refl
  holds_from low (x ∷ l) o = rw (le-leb low (key x) o.0) (holds_from (key x) l o.1)

  -- and then it passes
  pub ordered_holds : (l : List ℕ) → Ordered key l → is_ordered_from 0 key l ≡ true
  ordered_holds l o = holds_from 0 l o

-- ---- other keys
mono_from : {low low' : ℕ} {key key' : ℕ → ℕ} (l : List ℕ) → ((u : ℕ) → 0 < count u l → low ≤ key u → low' ≤ key' u)
    → ((u v : ℕ) → 0 < count u l → 0 < count v l → key u ≤ key v → key' u ≤ key' v) → OrderedFrom low key l → OrderedFrom low' key' l
mono_from [] b h o = tt
mono_from (x ∷ l) b h o =
    let first = count_head x l in (
      b x first o.0,
      mono_from l (λ u c. h x u first (count_rest u x l c)) (λ u v c d. h u v (count_rest u x l c) (count_rest v x l d))
          o.1,
    )

-- keys that keep the order of the members
pub ordered_mono : {key key' : ℕ → ℕ} (l : List ℕ)
    → ((u v : ℕ) → 0 < count u l → 0 < count v l → key u ≤ key v → key' u ≤ key' v) → Ordered key l → Ordered key' l
ordered_mono l h o = mono_from l (λ u c b. omega arith) h o

-- keys that agree on the members
pub ordered_keys : {key key' : ℕ → ℕ} (l : List ℕ) → ((u : ℕ) → 0 < count u l → key' u ≡ key u) → Ordered key l → Ordered key' l
ordered_keys l h o = ordered_mono l (λ u v c d b. rw (h u c, h v d) b) o

-- ---- keys of two parts: h first, and p within a run, those of one h
abbrev run : (ℕ → ℕ) → ℕ → ℕ → Bool
run h n u = eqb (h u) n

module _ (h p : ℕ → ℕ) (small : (u : ℕ) → p u < 256) where
  -- in the order of both, they are in the order of h, and each run is in the order of p
  pub ordered_pairs : (l : List ℕ) → Ordered (λ u. h u * 256 + p u) l → Ordered h l × ((n : ℕ) → Ordered p (keep (λ u. eqb (h u) n) l))
  ordered_pairs l o = (
    ordered_mono l (λ u v _ _ b. omega (arith, small u, small v)) o,
    λ n. ordered_mono (keep (run h n) l)
        (λ u v c d b. let cu = kept (run h n) l c in let cv = kept (run h n) l d in omega (arith, eqb-true))
        (ordered_keep (λ u. h u * 256 + p u) (run h n) l o),
  )

  pairs_from : (a b : ℕ) (l : List ℕ) → b < 256 → OrderedFrom a h l → OrderedFrom b p (keep (run h a) l)
      → ((n : ℕ) → Ordered p (keep (run h n) l)) → OrderedFrom (a * 256 + b) (λ u. h u * 256 + p u) l
  pairs_from a b [] s o r runs = tt
  pairs_from a b (x ∷ l) s o r runs = (first, pairs_from (h x) (p x) l (small x) o.1 (rw same at (runs (h x))).1 rest)
    where
      first : a * 256 + b ≤ h x * 256 + p x
      first = cases (eqb (h x) a) (λ e. omega (arith, eqb-true, (rw e at r).0)) (λ e. omega (arith, eqb-false (h x) a e))

      rest : (n : ℕ) → Ordered p (keep (run h n) l)
      rest n = cases (eqb (h x) n) (λ e. ordered_lower p (keep (run h n) l) (omega arith) (rw e at (runs n)).1) (λ e. rw e at (runs n))

  -- in the order of h, with each run in the order of p, they are in the order of both
  pub pairs_ordered : (l : List ℕ) → Ordered h l → ((n : ℕ) → Ordered p (keep (λ u. eqb (h u) n) l)) → Ordered (λ u. h u * 256 + p u) l
  pairs_ordered l o runs = pairs_from 0 0 l (omega arith) o (runs 0) runs
