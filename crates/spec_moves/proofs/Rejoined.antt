-- A table of places over records: what the move of one member leaves of it, for threads and messages alike.
use mathlib.Core.Path.{◌≡◌, refl, sym, ap, ◌∙◌, subst}
use mathlib.Core.Bool.{Bool, true, false, ◌&&◌, and-true}
use mathlib.Core.List.{List, [], ◌∷◌, ◌++◌}
use Prim.Native.Nat.{ℕ, ◌≤◌, ◌<◌}
use native.Mathlib.Omega.{arith}
use lib.ListN.{length, get_or, set, length-set, get_or-eq_default}
use lib.Seq.{get_or-set_same, get_or-set_other}
use lib.Dec.{eqb, ltb}
use borrow.Author.Tests.{eqb-true, eqb-false, ne_eqb, lt-ltb, le-ltb}
use borrow.Table.Steps.{cases}
use Rattle.base_queue.specs.declared.Queue.{Queue}
use Rattle.base_queue.specs.Lists.{keep, is_not, without, count, behind, Ordered}
use Rattle.base_queue.specs.Queues.{capacity, items, Tidy}
use Rattle.base_queue.specs.Tables.{one, Placed, moved}
use Rattle.base_queue.proofs.Queues.{items_pack, tidy_pack}
use Rattle.base_queue.proofs.Counts.{same, kept, keep_same, keep_without, keep_past}
use Rattle.base_queue.proofs.Counts.{count_without_same, count_without_other, not_without, pigeon, behind_last}
use Rattle.base_queue.proofs.Orders.{ordered_keep, ordered_keys, keep_behind}
use Rattle.base_queue.proofs.Tables.{placed_once, placed_past, moved_placed, moved_ordered, keep_moved}
use Rattle.spec_moves.specs.Moves.{has_room, rejoined}

-- nobody stands twice and all are below n: once x, below n too, has left, fewer than n are there
pub without_short : (n x : ℕ) (l : List ℕ) → ((u : ℕ) → count u l ≤ 1) → ((u : ℕ) → n ≤ u → count u l ≡ 0) → x < n
    → length (without x l) < n
without_short n x l once past h =
    pigeon n (x ∷ without x l)
    (λ u. cases (eqb x u) (λ e. subst (λ (v : ℕ). count v (x ∷ without x l) ≤ 1) (eqb-true x u e) (rw (same, count_without_same x l) (omega arith)))
    (λ e. rw (e, count_without_other l (λ z. eqb-false x u e (sym z))) (once u)))
    (λ u b. let ne : x ≡ u → ⊥ = λ z. omega arith in rw (ne_eqb x u ne, count_without_other l (λ z. ne (sym z))) (past u b))

-- ---- x leaves a queue and joins it
module _ (stays : Bool) (after : ℕ → Bool) (x : ℕ) (q : Queue) where
  -- a test that does not hold of x does not see it move
  pub rejoined_keep : (f : ℕ → Bool) → f x ≡ false → keep f (items (rejoined stays after x q)) ≡ keep f (items q)
  rejoined_keep f h = rw items_pack (keep_moved _ after x (items q) f h)

  -- everybody else's order is as it was
  pub rejoined_order : without x (items (rejoined stays after x q)) ≡ without x (items q)
  rejoined_order = rejoined_keep (is_not x) (rw same)

  -- the unused store is 0
  rejoined_tidy : Tidy (rejoined stays after x q)
  rejoined_tidy = tidy_pack (moved (stays && has_room x (items q)) after x (items q))

  -- where there is room, x joins if it stays
  rejoined_items : has_room x (items q) ≡ true → items (rejoined stays after x q) ≡ moved stays after x (items q)
  rejoined_items room = rw (items_pack, room, and-true)

-- ---- a table over records; d is the record of an id too large
-- what g says of the record of each
abbrev pub said : {A B : Type 0} → A → (A → B) → List A → ℕ → B
said d g records u = g (get_or records u d)

-- no more records than places: those that say that they belong stand there once, in the order of their keys
pub record Table {A : Type 0} (d : A) (belongs : A → Bool) (key : A → ℕ) (records : List A) (q : Queue) : Type 0 where
  pub out : belongs d ≡ false
  pub few : length records ≤ capacity
  pub tidy : Tidy q
  pub placed : Placed (said d belongs records) (items q)
  pub ordered : Ordered (said d key records) (items q)

module _ {A : Type 0} {d : A} {belongs : A → Bool} {key : A → ℕ} {records : List A} {q : Queue} (T : Table d belongs key records q)
    (x : ℕ) (h : x < length records) where
  nobody : (u : ℕ) → length records ≤ u → said d belongs records u ≡ false
  nobody u b = ap belongs (get_or-eq_default records d b) ∙ T.out

  once : (u : ℕ) → count u (items q) ≤ 1
  once = placed_once (said d belongs records) (items q) T.placed

  -- there is room for x
  room : has_room x (items q) ≡ true
  room =
      let past = placed_past (said d belongs records) (items q) (length records) nobody T.placed in
      lt-ltb (length (without x (items q))) capacity (omega (arith, without_short (length records) x (items q) once past h))

  -- x gets the record r
  module _ (r : A) where
    abbrev now : List A
    now = set records x r

    now_few : length now ≤ capacity
    now_few = rw length-set T.few

    -- that is its record
    now_same : {B : Type 0} (g : A → B) → said d g now x ≡ g r
    now_same g = ap g (get_or-set_same records x r d h)

    -- and the others have theirs
    now_other : {B : Type 0} (g : A → B) {u : ℕ} → (u ≡ x → ⊥) → said d g now u ≡ said d g records u
    now_other g {u} ne = ap g (get_or-set_other records x u r d ne)

    -- where it says what the old one said, all say what they said
    now_alike : {B : Type 0} (g : A → B) → g r ≡ said d g records x → (u : ℕ) → said d g now u ≡ said d g records u
    now_alike g e u = cases (eqb u x) (λ z. rw (eqb-true u x z) (now_same g ∙ e)) (λ z. now_other g (eqb-false u x z))

    -- then the table may stay as it was
    pub table_stays : belongs r ≡ said d belongs records x → key r ≡ said d key records x → Table d belongs key (set records x r) q
    table_stays b k = record {
      out = T.out;
      few = now_few;
      tidy = T.tidy;
      placed = λ u. T.placed u ∙ ap one (sym (now_alike belongs b u));
      ordered = ordered_keys (items q) (λ u _. now_alike key k u) T.ordered;
    }

    -- who comes after x, and the queue once x has moved
    abbrev after : ℕ → Bool
    after u = ltb (key r) (said d key records u)

    abbrev next : Queue
    next = rejoined (belongs r) after x q

    next_items : items next ≡ moved (belongs r) after x (items q)
    next_items = rejoined_items (belongs r) after x q room

    -- a move keeps the rules of the table
    pub table_moved : Table d belongs key now next
    table_moved = record {
      out = T.out;
      few = now_few;
      tidy = rejoined_tidy (belongs r) after x q;
      placed =
          rw next_items
          (moved_placed (belongs r) after x (items q) (said d belongs records) (said d belongs now) T.placed
          (now_same belongs) (λ u ne. now_other belongs ne));
      ordered =
          rw next_items
          (moved_ordered (belongs r) after x (items q) T.ordered (λ u ne. now_other key ne) (λ u ne. rw (now_same key)));
    }

    -- of a run, those of whose records f holds:
    module _ (f : A → Bool) where
      -- the others are as they were
      others : keep (said d f now) (without x (items q)) ≡ without x (keep (said d f records) (items q))
      others =
          keep_same (without x (items q)) (λ u c. now_other f (not_without x (items q) c))
          ∙ keep_without (said d f records) x (items q)

      -- x is gone where f does not hold of r
      pub table_leaves : f r ≡ false → keep (said d f now) (items next) ≡ without x (keep (said d f records) (items q))
      table_leaves e =
          let z : said d f now x ≡ false = now_same f ∙ e in
          rejoined_keep (belongs r) after x q (said d f now) z ∙ sym (keep_past (said d f now) x (items q) z) ∙ others

      module _ (stays : belongs r ≡ true) (e : f r ≡ true) where
        -- else it joins behind its equals
        pub table-joins : keep (said d f now) (items next) ≡ behind after x (without x (keep (said d f records) (items q)))
        unfolding moved
        table-joins =
            rw (next_items, stays, ← others)
            (keep_behind (said d key records) (key r) (said d f now) x (without x (items q))
            (ordered_keep (said d key records) (is_not x) (items q) T.ordered) (λ u _. refl) (now_same f ∙ e))

        -- last, where all of the run have the key of r
        pub table-last : ((a : A) → f a ≡ true → key a ≡ key r)
            → keep (said d f now) (items next) ≡ without x (keep (said d f records) (items q)) ++ x ∷ []
        table-last k =
            table-joins
            ∙ behind_last x (without x (keep (said d f records) (items q)))
            (λ u c. let m = (kept (said d f records) (items q) (kept (is_not x) (keep (said d f records) (items q)) c).1).0 in
            rw (k (get_or records u d) m) (le-ltb (key r) (key r) (omega arith)))
