-- Where one joins a queue: laws that several proofs of the functions share.
use Prim.Native.Nat.{ℕ, ◌+◌, ◌≤◌, ◌<◌}
use mathlib.Core.Path.{◌≡◌}
use mathlib.Core.Bool.{Bool, true, false}
use mathlib.Core.List.{List}
use native.Mathlib.Omega.{arith}
use lib.Dec.{ltb}
use lib.ListN.{length, take, drop, get_or, get_or-eq_default}
use borrow.Author.Tests.{lt-ltb, le-ltb}
use Rattle.base_queue.specs.declared.Queue.{Queue}
use Rattle.base_queue.specs.Lists.{without}
use Rattle.base_queue.specs.Queues.{capacity, items, pack, room_for}
use Rattle.base_queue.specs.Tables.{moved, place_behind}
use Rattle.base_queue.proofs.Lists.{rest_next, rest_end}
use Rattle.base_queue.proofs.Queues.{items_pack, length_items, sized_items}
use Rattle.base_queue.proofs.Counts.{behind_place}
use Rattle.spec_moves.specs.Moves.{rejoined}

-- a record past the last is the default
pub past_end : {A : Type 0} (l : List A) (d : A) {k u : ℕ} → length l ≡ k → k ≤ u → get_or l u d ≡ d
past_end l d {k} {u} e h = let m : length l ≤ u = omega arith in get_or-eq_default l d m

-- how many stand before the first whose key is above `rank`
abbrev pub place_above : (ℕ → ℕ) → ℕ → List ℕ → ℕ
place_above key rank l = place_behind (λ u. ltb rank (key u)) l

-- a loop that looks for it among the first n of a store, at place i: it is not among the first i
abbrev pub Seek : (ℕ → ℕ) → ℕ → List ℕ → ℕ → ℕ → Type 0
Seek key rank at n i =
    (length at ≡ capacity) × (n ≤ capacity) × (i ≤ n) × (place_above key rank (take n at) ≡ i + place_above key rank (drop i (take n at)))

module _ (key : ℕ → ℕ) (rank : ℕ) (q : Queue) (n : ℕ) (s : n ≡ length (items q)) where
  pub seek_starts : length q.at ≡ capacity → Seek key rank q.at n 0
  seek_starts e = (e, omega (arith, length_items q e), omega arith, omega arith)

  module _ (i : ℕ) (w : Seek key rank q.at n i) where
    pub seek_stops : i < n → rank < key (get_or q.at i 0) → i ≡ place_above key rank (items q)
    seek_stops h p =
        let z : place_above key rank (drop i (take n q.at)) ≡ 0 = rw (rest_next 0 q.at n i h (omega arith), lt-ltb _ _ p) in
        rw (sized_items q n s) (omega arith)

    pub seek_goes : i < n → key (get_or q.at i 0) ≤ rank → Seek key rank q.at n (i + 1)
    seek_goes h p =
        let z : place_above key rank (drop i (take n q.at)) ≡ 1 + place_above key rank (drop (i + 1) (take n q.at)) =
        rw (rest_next 0 q.at n i h (omega arith), le-ltb _ _ p) (omega arith) in
        (w.0, w.1, omega arith, omega arith)

    pub seek_ends : n ≤ i → n ≡ place_above key rank (items q)
    seek_ends h =
        let z : place_above key rank (drop i (take n q.at)) ≡ 0 = rw (rest_end q.at n i (omega arith)) in
        rw (sized_items q n s) (omega arith)

-- a queue that x has left
module _ (x : ℕ) (q out : Queue) (e : out ≡ pack (without x (items q))) where
  module _ (after : ℕ → Bool) {stays : Bool} where
    pub leaves : stays ≡ false → out ≡ rejoined stays after x q
    unfolding moved
    leaves b = rw b e

    -- and that it joins again behind its equals
    pub joins : stays ≡ true → (r : Queue) (i : ℕ) → i ≡ place_behind after (items out) → r ≡ pack (room_for i x (items out))
        → r ≡ rejoined stays after x q
    unfolding room_for moved
    joins b r i p d = rw (d, p, e, items_pack, behind_place, b)
