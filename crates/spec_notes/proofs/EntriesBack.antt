-- The entries of the touched ids, one after the other: to read them is a step for each of those ids. And what such steps leave
-- in a list, where each sets one place.
use Prim.Native.Nat.{ℕ, zero, suc, ◌+◌, ◌≤◌, ◌<◌}
use mathlib.Core.Path.{◌≡◌, refl, sym, ap, ◌∙◌}
use mathlib.Core.Bool.{Bool, true, false, cond}
use mathlib.Core.List.{List, [], ◌∷◌, ◌++◌, map}
use native.Mathlib.Omega.{arith}
use lib.Dec.{eqb}
use lib.ListN
use lib.ListN.{length, get_or, set, replicate, length-append, length-set, length-replicate, length-map, get_or-replicate}
use lib.Seq.{get_or-set_same, get_or-set_other, ext_get_or}
use borrow.Author.Tests.{eqb-true, eqb-false}
use borrow.Table.Steps.{cases}
use Rattle.base_queue.specs.Tables.{one}
use Rattle.base_rows.specs.Entries.{read_entries}
use Rattle.spec_notes.specs.Sections.{entries_from}

module _ {A : Type 0} where
  -- a default that isn't read
  pub get_or_any : (l : List A) (j : ℕ) (d e : A) → j < length l → get_or l j d ≡ get_or l j e
  get_or_any [] j d e h = absurd (omega arith)
  get_or_any (x ∷ l) zero d e h = refl
  get_or_any (x ∷ l) (suc j) d e h = get_or_any l j d e (omega arith)

  pub get_or_map : (f : A → A) (l : List A) (j : ℕ) (d : A) → j < length l → get_or (map f l) j d ≡ f (get_or l j d)
  get_or_map f l j d h = get_or_any (map f l) j d (f d) (rw length-map h) ∙ ListN.get_or-map f l j d

-- a step for each touched one of n ids from i on
pub each : {A : Type 0} → (ℕ → Bool) → (ℕ → A → A) → ℕ → ℕ → A → A
each touched step i zero a = a
each touched step i (suc n) a = each touched step (suc i) n (cond (touched i) (step i a) a)

-- ---- reading
-- entries that begin with a head, and what one of an id below 64 does, which is a step
module _ {A : Type 0} (own : ℕ → List ℕ → ℕ) (does : ℕ → List ℕ → A → A) (touched : ℕ → Bool) (entry : ℕ → List ℕ) (step : ℕ → A → A)
    {head : ℕ → ℕ} {tail : ℕ → List ℕ} (begins : (i : ℕ) → entry i ≡ head i ∷ tail i)
    (next : (n i : ℕ) (rest : List ℕ) (a : A) → i < 64
    → read_entries own does (suc n) (entry i ++ rest) a ≡ read_entries own does n rest (step i a)) where
  abbrev read : ℕ → List ℕ → A → A
  read = read_entries own does

  -- they are all taken
  read_each : (m i n : ℕ) (a : A) → i + n ≤ 64 → length (entries_from touched entry i n) ≤ m
      → read m (entries_from touched entry i n) a ≡ each touched step i n a
  unfolding each read_entries
  read_each zero i zero a b l = refl
  read_each (suc m) i zero a b l = refl
  read_each m i (suc n) a b l =
      cases (touched i)
      (λ e. rw e (go m (rw (e, begins i, length-append) at l) (λ m'. read_each m' (suc i) n (step i a) (omega arith))))
      (λ e. rw e (read_each m (suc i) n a (omega arith) (rw e at l)))
    where
      go : (m : ℕ) → suc (length (tail i)) + length (entries_from touched entry (suc i) n) ≤ m
          → ((m' : ℕ) → length (entries_from touched entry (suc i) n) ≤ m'
          → read m' (entries_from touched entry (suc i) n) (step i a) ≡ each touched step (suc i) n (step i a))
          → read m (entry i ++ entries_from touched entry (suc i) n) a ≡ each touched step (suc i) n (step i a)
      go zero l r = absurd (omega arith)
      go (suc m) l r = next m i (entries_from touched entry (suc i) n) a (omega arith) ∙ r m (omega arith)

  -- a part of what it reads
  module _ {B : Type 0} (f : A → B) (part : ℕ → B → B) (same : (i : ℕ) (a : A) → f (step i a) ≡ part i (f a)) where
    each_part : (i n : ℕ) (a : A) → f (each touched step i n a) ≡ each touched part i n (f a)
    unfolding each
    each_part i zero a = refl
    each_part i (suc n) a =
        each_part (suc i) n (cond (touched i) (step i a) a)
        ∙ ap (each touched part (suc i) n) (cases (touched i) (λ e. rw e (same i a)) (λ e. rw e))

    pub read_part : (m n : ℕ) (a : A) → n ≤ 64 → length (entries_from touched entry 0 n) ≤ m
        → f (read m (entries_from touched entry 0 n) a) ≡ each touched part 0 n (f a)
    read_part m n a b l = ap f (read_each m 0 n a (omega arith) l) ∙ each_part 0 n a

-- the first byte is none that no head is
pub first_other : (touched : ℕ → Bool) (entry : ℕ → List ℕ) {head : ℕ → ℕ} {tail : ℕ → List ℕ} → ((i : ℕ) → entry i ≡ head i ∷ tail i)
    → (x b : ℕ) → (◌≡◌ {A = ℕ} 0 x → ⊥) → ((i : ℕ) → i < b → head i ≡ x → ⊥) → (i n : ℕ) → i + n ≤ b
    → get_or (entries_from touched entry i n) 0 0 ≡ x → ⊥
first_other touched entry begins x b z h i zero l = z
first_other touched entry begins x b z h i (suc n) l =
    cases (touched i) (λ e. rw (e, begins i) (h i (omega arith)))
    (λ e. rw e (first_other touched entry begins x b z h (suc i) n (omega arith)))

-- ---- a list in which each sets a place
module _ {A : Type 0} (touched : ℕ → Bool) (place : ℕ → ℕ) (what : ℕ → A) where
  abbrev put : ℕ → List A → List A
  put i l = set l (place i) (what i)

  pub length_each : (i n : ℕ) (l : List A) → length (each touched put i n l) ≡ length l
  unfolding each
  length_each i zero l = refl
  length_each i (suc n) l =
      length_each (suc i) n (cond (touched i) (put i l) l) ∙ cases (touched i) (λ e. rw (e, length-set)) (λ e. rw e)

  -- whoever is put at place j is v
  module _ (d : A) (j : ℕ) (v : A) (only : (i : ℕ) → touched i ≡ true → place i ≡ j → what i ≡ v) where
    put_at : (i : ℕ) (l : List A) → j < length l → touched i ≡ true → place i ≡ j → get_or (put i l) j d ≡ v
    put_at i l h e p = rw (p, get_or-set_same) (only i e p)

    -- v stays there
    pub each_stays : (i n : ℕ) (l : List A) → j < length l → get_or l j d ≡ v → get_or (each touched put i n l) j d ≡ v
    unfolding each
    each_stays i zero l h g = g
    each_stays i (suc n) l h g =
        cases (touched i)
        (λ e. rw e (each_stays (suc i) n (put i l) (rw length-set h) (cases (eqb (place i) j)
        (λ p. put_at i l h e (eqb-true (place i) j p))
        (λ p. get_or-set_other l (place i) j (what i) d (λ q. eqb-false (place i) j p (sym q)) ∙ g))))
        (λ e. rw e (each_stays (suc i) n l h g))

    -- u of the ids puts it there
    each_comes : (u i n : ℕ) (l : List A) → j < length l → i ≤ u → u < i + n → touched u ≡ true → place u ≡ j
        → get_or (each touched put i n l) j d ≡ v
    unfolding each
    each_comes u i zero l h a b t p = absurd (omega arith)
    each_comes u i (suc n) l h a b t p =
        cases (eqb u i)
        (λ e. rw (← eqb-true u i e, t) (each_stays (suc u) n (put u l) (rw length-set h) (put_at u l h t p)))
        (λ e. let ne = eqb-false u i e in
        cases (touched i) (λ f. rw f (each_comes u (suc i) n (put i l) (rw length-set h) (omega arith) (omega arith) t p))
        (λ f. rw f (each_comes u (suc i) n l h (omega arith) (omega arith) t p)))

    -- the place is u's: v comes there, or was there if u isn't touched
    pub each_at : (u n : ℕ) (l : List A) → j < length l → u < n → place u ≡ j → (touched u ≡ false → get_or l j d ≡ v)
        → get_or (each touched put 0 n l) j d ≡ v
    each_at u n l h b p f = cases (touched u) (λ t. each_comes u 0 n l h (omega arith) (omega arith) t p) (λ t. each_stays 0 n l h (f t))

-- the touched records are back, and the others stood there
pub records_back : {A : Type 0} (touched : ℕ → Bool) (d : A) (n : ℕ) (old new : List A) → length old ≡ n → length new ≡ n
    → ((i : ℕ) → i < n → touched i ≡ false → get_or new i d ≡ get_or old i d)
    → each touched (λ i l. set l i (get_or old i d)) 0 n new ≡ old
records_back touched d n old new s z h =
    let size = length_each touched (λ i. i) (λ i. get_or old i d) 0 n new in
    ext_get_or d _ old (size ∙ z ∙ sym s)
    (λ i b. let low : i < n = omega arith in
    each_at touched (λ i. i) (λ i. get_or old i d) d i (get_or old i d) (λ u _ e. rw e) i n new (omega arith) low refl (h i low))

-- the touched ids are marked
pub marked : (touched : ℕ → Bool) (n m : ℕ) → n ≤ m → (x : ℕ) → x < n
    → get_or (each touched (λ i l. set l i 1) 0 n (replicate m 0)) x 0 ≡ one (touched x)
marked touched n m b x h =
    let full = length-replicate {A = ℕ} m 0 in
    each_at touched (λ i. i) (λ _. 1) 0 x (one (touched x)) (λ u t e. rw (← e, t)) x n (replicate m 0) (omega arith) h refl
    (λ t. get_or-replicate m x 0 0 (omega arith) ∙ rw t)
