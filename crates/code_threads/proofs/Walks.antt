-- Each of a queue that a test holds of takes its turn: a loop over the places that does so one by one.
use Prim.Native.Nat.{ℕ, ◌+◌, ◌≤◌, ◌<◌}
use mathlib.Core.Path.{◌≡◌, refl, ◌∙◌}
use mathlib.Core.Bool.{Bool, true, false}
use mathlib.Core.List.{List, [], ◌∷◌, ◌++◌, append-nil}
use lib.ListN.{length, take, get_or}
use Rattle.std.proofs.Common.{take_all}
use Rattle.base_queue.specs.Lists.{keep}
use Rattle.base_queue.proofs.Lists.{keep_next}
use Rattle.spec_moves.specs.declared.parts.Threads.{Threads}
use Rattle.spec_moves.specs.States.{each}

module _ (f : ℕ → Threads → Threads) where
  -- one list after the other
  pub each_append : (l m : List ℕ) (p : Threads) → each f (l ++ m) p ≡ each f m (each f l p)
  each_append [] m p = refl
  each_append (x ∷ l) m p = each_append l m (f x p)

  module _ (g : ℕ → Bool) (p : Threads) where
    -- a loop over the list l: f is done, from p on, with those of its first i that g holds of
    abbrev pub Walked : List ℕ → ℕ → Threads → Type 0
    Walked l i next = next ≡ each f (keep g (take i l)) p

    -- none has had its turn
    pub walk_starts : (l : List ℕ) → Walked l 0 p
    walk_starts l = refl

    module _ (l : List ℕ) {i : ℕ} {next : Threads} (w : Walked l i next) where
      -- with the one at i too
      pub walk_does : i < length l → g (get_or l i 0) ≡ true → Walked l (i + 1) (f (get_or l i 0) next)
      walk_does h e = rw (keep_next g 0 l i h, e, each_append, w)

      -- or not
      pub walk_skips : i < length l → g (get_or l i 0) ≡ false → Walked l (i + 1) next
      walk_skips h e = rw (keep_next g 0 l i h, e, append-nil) w

      pub walk_ends : length l ≤ i → next ≡ each f (keep g l) p
      walk_ends h = w ∙ rw (take_all i l h)
