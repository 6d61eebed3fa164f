-- Laws on queues: a loop over the places of one, a store that a loop fills, and the queues that hold a list and nothing else.
use Prim.Native.Nat.{ℕ, suc, ◌-◌, ◌≤◌, ◌<◌}
use mathlib.Core.Path.{◌≡◌, refl, sym, ap, ap₂, ◌∙◌}
use mathlib.Core.List.{List, [], ◌∷◌, ◌++◌, append-nil}
use mathlib.Core.Bool.{true}
use native.Mathlib.Omega.{arith}
use lib.ListN.{length, take, drop, set, replicate, length-append, length-take, length-drop, take-append-drop}
use lib.Seq.{append_snoc, set_at, length-take-le, take-append_seam, drop-append_seam}
use borrow.Author.Tests.{leb-true, le-leb, lt-ltb}
use borrow.Rule.Slice.PartMut.{put_mid}
use Rattle.std.proofs.lemmas.List.{append_assoc, drop-replicate}
use Rattle.base_queue.specs.declared.Queue.{Queue}
use Rattle.base_queue.specs.Queues.{capacity, items, pad, pack, with_last, is_tidy, Tidy}
use Rattle.base_queue.proofs.Lists.{take_size, and_both, zeros_means, zeros_hold}

-- two queues are equal by their fields
pub queue_eq : {p q : Queue} → p.n ≡ q.n → p.at ≡ q.at → p ≡ q
queue_eq e f = λ i. record { n = e i; at = f i }

pub length_items : (q : Queue) → length q.at ≡ capacity → length (items q) ≤ capacity
length_items q e = rw length-take (omega arith)

-- a loop over the n places that are taken, of which i are done
abbrev pub Walk : List ℕ → ℕ → ℕ → Type 0
Walk at n i = (i ≤ n) × (n ≤ capacity) × (length at ≡ capacity)

module _ (q : Queue) (n : ℕ) (s : n ≡ length (items q)) where
  pub walk_start : (i : ℕ) → i ≤ n → length q.at ≡ capacity → Walk q.at n i
  walk_start i h e = omega (arith, length_items q e)

  pub sized_items : items q ≡ take n q.at
  sized_items = sym (rw s (take_size q.n q.at))

-- a store is filled from the front, by the members of a list in their order
pub pad_push : (d : List ℕ) (k v : ℕ) → length d ≡ k → k < capacity → set (pad d) k v ≡ pad (d ++ v ∷ [])
pad_push d k v e h =
    let z : capacity - length d ≡ suc (capacity - 1 - k) = omega arith in
    let y : capacity - length (d ++ v ∷ []) ≡ capacity - 1 - k = rw length-append (omega arith) in
    rw (z, y, set_at d 0 _ v k e, append_snoc)

pub pad_full : (l : List ℕ) → length l ≡ capacity → pad l ≡ l
pad_full l e = rw e (append-nil l)

-- a part of the store is filled at once
pub pad_extend : (l m : List ℕ) (k : ℕ) → k ≡ length m → put_mid (length l) k (pad l) m ≡ pad (l ++ m)
pad_extend l m k e =
    let z : List ℕ = replicate (capacity - length l) 0 in
    let n : capacity - length l - k ≡ capacity - length (l ++ m) = rw (length-append, e) (omega arith) in
    rw (take-append_seam l z, drop-append_seam l z, drop-replicate {X = ℕ} k (capacity - length l) 0, n) (sym (append_assoc l m _))

pub items_pack : (l : List ℕ) → items (pack l) ≡ l
items_pack l = take-append_seam l _

pub tidy_pack : (l : List ℕ) → Tidy (pack l)
tidy_pack l = ap pack (items_pack l)

pub push_pack : (l : List ℕ) (x : ℕ) → length l < capacity → with_last x (pack l) ≡ pack (l ++ x ∷ [])
push_pack l x h =
    rw (lt-ltb (length l) capacity h)
    (queue_eq (rw length-append (omega arith)) (pad_push l (length l) x refl h))

-- what a push and an extension give, of a queue that holds l
module _ (l : List ℕ) (q r : Queue) (e : q ≡ pack l) where
  pub pushed_on : (x : ℕ) → length l < capacity → r ≡ with_last x q → r ≡ pack (l ++ x ∷ [])
  pushed_on x h f =
      let g = rw e at f in
      g ∙ push_pack l x h

  pub extended_by : (m : List ℕ) → length (l ++ m) ≤ capacity
      → (Tidy q → length (items q ++ m) ≤ capacity → r ≡ pack (items q ++ m)) → r ≡ pack (l ++ m)
  extended_by m h f =
      let g = rw e at f in
      rw (items_pack l) at (g (tidy_pack l) (rw (items_pack l) h))

pub size_tidy : (q : Queue) → Tidy q → q.n ≡ length (items q)
size_tidy q t = ap (λ (p : Queue). p.n) (sym t)

-- the test says it
module _ (q : Queue) (e : length q.at ≡ capacity) where
  pub tidy_means : is_tidy q ≡ true → Tidy q
  unfolding is_tidy
  tidy_means h =
      let b = and_both _ _ h in
      let m : q.n ≤ capacity = leb-true _ _ b.0 in
      let s : length (items q) ≡ q.n = length-take-le q.n q.at (omega arith) in
      let z : drop q.n q.at ≡ replicate (capacity - q.n) 0 = zeros_means _ b.1 ∙ rw (length-drop, e) in
      queue_eq s (rw (s, ← z, take-append-drop))

  pub tidy_holds : Tidy q → is_tidy q ≡ true
  unfolding is_tidy
  tidy_holds t =
      let s : q.n ≡ length (items q) = size_tidy q t in
      let z : drop q.n q.at ≡ replicate (capacity - length (items q)) 0 =
      ap₂ drop s (ap (λ (p : Queue). p.at) (sym t)) ∙ drop-append_seam (items q) _ in
      rw (le-leb q.n capacity (omega (arith, length_items q e)), z, zeros_hold)
