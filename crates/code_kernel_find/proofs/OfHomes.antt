-- The first of a list that a test holds of: a loop that looks for it, and the first thread of a list or queue.
use Prim.Native.Nat.{ℕ, ◌<◌}
use mathlib.Core.Path.{◌≡◌, refl}
use mathlib.Core.Bool.{Bool}
use mathlib.Core.List.{List, [], ◌∷◌}
use lib.Dec.{eqb}
use lib.ListN.{length, drop, get_or}
use borrow.Table.Steps.{cases}
use Rattle.std.specs.List.{find}
use Rattle.std.specs.Option.{unwrap_or}
use Rattle.base_queue.specs.declared.Queue.{Queue}
use Rattle.base_queue.specs.Lists.{keep, first_of, is_empty}
use Rattle.base_queue.specs.Queues.{items}
use Rattle.spec_kernel.specs.declared.records.Thread.{Thread}
use Rattle.spec_kernel.specs.Sizes.{thread_count}
use Rattle.spec_kernel.specs.Records.{no_thread}
use Rattle.spec_kernel.specs.Places.{nowhere, home_of}
use Rattle.spec_moves.proofs.Firsts.{line_empty}
use Rattle.code_kernel_find.specs.AtHome.{first_at_home}

-- the first that f holds of, as a chain finds it
pub find_first : (f : ℕ → Bool) (l : List ℕ) → unwrap_or (find f l) 255 ≡ first_of (keep f l)
find_first f [] = refl
find_first f (x ∷ l) = cases (f x) (λ t. rw t) (λ e. rw e (find_first f l))

-- a first that isn't 255 is the head
pub first_cons : (l : List ℕ) → (first_of l ≡ 255 → ⊥) → l ≡ first_of l ∷ drop 1 l
first_cons [] h = absurd (h refl)
first_cons (x ∷ l) h = refl

-- u's home is h
abbrev pub is_home : List Thread → ℕ → ℕ → Bool
is_home threads h u = eqb (home_of (get_or threads u no_thread)) h

-- an id other than 255 is the first of the list or queue
pub first_head : (threads : List Thread) (places : Queue) (h : ℕ) → (first_at_home threads places h ≡ 255 → ⊥)
    → keep (is_home threads h) (items places) ≡ first_at_home threads places h ∷ drop 1 (keep (is_home threads h) (items places))
unfolding first_at_home
first_head threads places h s = first_cons (keep (is_home threads h) (items places)) s

-- 255 says that the list or queue is empty
pub first_empty : (threads : List Thread) → length threads ≡ thread_count → (places : Queue) {h : ℕ} → h < nowhere
    → eqb (first_at_home threads places h) 255 ≡ is_empty (keep (is_home threads h) (items places))
unfolding first_at_home
first_empty threads e places b = line_empty threads e (items places) b
