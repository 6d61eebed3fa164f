-- A table against a set and an array of keys: its members are taken out of the set one after the other. Assumes nothing.
use Rattle.std.specs.Prelude.{ℕ, ◌-◌, ◌^◌, ◌<◌, ◌≡◌, Bool, ◌&&◌, List, [], ◌∷◌, eqb, length, get_or}
use Rattle.base_bits.specs.Words.{has_bit}
use Rattle.base_queue.specs.declared.Queue.{Queue}
use Rattle.base_queue.specs.Queues.{capacity, items, is_tidy}
use Rattle.base_queue.specs.Tables.{is_ordered_from}

-- each member is in the set when its turn comes, and then no more; at the end nobody is left
abbrev pub empties : ℕ → List ℕ → Bool
empties set [] = eqb set 0
empties set (x ∷ l) = let r = empties (set - 2 ^ x) l in has_bit set x && r

-- the members are all of the set, once each, and their keys rise from `low` on
abbrev pub is_taken : ℕ → ℕ → List ℕ → List ℕ → Bool
is_taken set low keys l = empties set l && is_ordered_from low (λ x. get_or keys x 0) l

-- so of a tidy table
unfoldable pub is_table : ℕ → List ℕ → Queue → Bool
is_table set keys q = is_tidy q && is_taken set 0 keys (items q)

-- The array has the key of each below n.
pub record Keys (keys : List ℕ) (n : ℕ) (key : ℕ → ℕ) : Type 0 where
  pub full : length keys ≡ capacity
  pub of : (x : ℕ) → x < n → get_or keys x 0 ≡ key x
