-- A queue of so many places, seen through: what it holds, and the queue that holds a list.
use Rattle.std.specs.Prelude.{ℕ, ◌+◌, ◌-◌, ◌≡◌, List, ◌++◌, Bool, cond, ◌&&◌, ltb, leb, length, take, drop, set, replicate}
use Rattle.base_queue.specs.Lists.{with_at, all_zero}
use Rattle.base_queue.specs.declared.Queue.{Queue}

-- how many places a queue has
abbrev pub capacity : ℕ
capacity = 64

-- what the queue holds, first to last: its first n places, all of them where n says more
abbrev pub items : Queue → List ℕ
items q = take q.n q.at

-- the list, and zeros up to its last place
abbrev pub pad : List ℕ → List ℕ
pad l = l ++ replicate (capacity - length l) 0

-- the queue that holds l, its unused store 0
abbrev pub pack : List ℕ → Queue
pack l = record { n = length l; at = pad l }

-- the queue with x behind its last, or as it was where all places are taken
abbrev pub with_last : ℕ → Queue → Queue
with_last x q = cond (ltb q.n capacity) (record { n = q.n + 1; at = set q.at q.n x }) q

-- l with x at place i, or as it was where all places are taken
unfoldable pub room_for : ℕ → ℕ → List ℕ → List ℕ
room_for i x l = cond (ltb (length l) capacity) (with_at i x l) l

-- No more places are used than there are, and the store behind the used ones is 0 [01, state 1.5].
unfoldable pub is_tidy : Queue → Bool
is_tidy q = leb q.n capacity && all_zero (drop q.n q.at)

-- the same, as an equation
abbrev pub Tidy : Queue → Type 0
Tidy q = pack (items q) ≡ q
