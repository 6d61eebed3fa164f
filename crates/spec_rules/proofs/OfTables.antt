-- The three tables: their tests pass exactly where everybody stands as `Standing` and `Filed` say.
use Prim.Native.Nat.{ℕ}
use mathlib.Core.Path.{◌≡◌, refl}
use mathlib.Core.Bool.{Bool, true, false, and-true, and-eq-true_iff}
use mathlib.Core.List.{List, [], ◌∷◌}
use mathlib.Core.Logic.{◌↔◌}
use lib.ListN.{length, get_or}
use Rattle.base_queue.specs.declared.Queue.{Queue}
use Rattle.base_queue.specs.Lists.{Ordered}
use Rattle.base_queue.specs.Queues.{capacity, items, is_tidy, Tidy}
use Rattle.base_queue.specs.Tables.{Placed, is_placed, is_ordered_from}
use Rattle.base_queue.proofs.Queues.{tidy_means, tidy_holds}
use Rattle.base_queue.proofs.Orders.{ordered_means, ordered_holds}
use Rattle.base_queue.proofs.Tables.{placed_means, placed_holds}
use Rattle.spec_kernel.specs.declared.records.Kernel.{Kernel}
use Rattle.spec_kernel.specs.Records.{no_thread, no_message}
use Rattle.spec_kernel.specs.Places.{has_home, home_of, rank_of, is_queued, stream_of}
use Rattle.spec_moves.specs.Standing.{threads_of, posts_of, Standing, Filed}
use Rattle.spec_rules.specs.Rules.{Sized}
use Rattle.spec_rules.specs.Tests.{all_of, is_ticking, in_rank, in_time, in_stream, places_kept, time_kept, posted_kept}

-- a table of those whose record says that they belong there, in the order of a key
module _ {A : Type 0} (belongs : A → Bool) (key : A → ℕ) (none : A) (out : belongs none ≡ false)
    (records : List A) (q : Queue) (full : length q.at ≡ capacity) where
  abbrev member : ℕ → Bool
  member x = belongs (get_or records x none)

  abbrev key_of : ℕ → ℕ
  key_of x = key (get_or records x none)

  table_exactly : (all_of (is_tidy q ∷ is_placed belongs records (items q) ∷ is_ordered_from 0 key_of (items q) ∷ []) ≡ true)
      ↔ (Tidy q × Placed member (items q) × Ordered key_of (items q))
  table_exactly = (
    λ h. let (t, (p, o)) = simp (and-true, and-eq-true_iff) at h in
        (tidy_means q full t, placed_means belongs records none out (items q) p, ordered_means key_of (items q) o),
    λ (t, p, o). rw (tidy_holds q full t, placed_holds belongs records none out (items q) p, ordered_holds key_of (items q) o),
  )

module _ (k : Kernel) (Z : Sized k) where
  pub standing_exactly : ((places_kept k ≡ true) × (time_kept k ≡ true)) ↔ Standing (threads_of k)
  unfolding places_kept time_kept in_rank in_time home_of
  standing_exactly =
      let places = table_exactly has_home rank_of no_thread refl k.threads k.places Z.places in
      let times = table_exactly is_ticking (λ r. r.ticks) no_thread refl k.threads k.time Z.time in (
        λ (h, g). let (t, p, o) = places.0 h in let (t', p', o') = times.0 g in
            record { count = Z.threads; tidy_places = t; tidy_time = t'; placed = p; timed = p'; in_rank = o; in_time = o' },
        λ S. (places.1 (S.tidy_places, S.placed, S.in_rank), times.1 (S.tidy_time, S.timed, S.in_time)),
      )

  pub filed_exactly : (posted_kept k ≡ true) ↔ Filed (posts_of k)
  unfolding posted_kept in_stream
  filed_exactly =
      let posts = table_exactly is_queued stream_of no_message refl k.messages k.posted Z.posted in (
        λ h. let (t, p, o) = posts.0 h in record { count = Z.messages; tidy = t; placed = p; in_stream = o },
        λ F. posts.1 (F.tidy, F.placed, F.in_stream),
      )
