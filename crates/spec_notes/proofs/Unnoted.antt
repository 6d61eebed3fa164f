-- What a note doesn't speak of is as it is: with an empty section, and no ageing, the part before is the part after. So where two end
-- states lead back by one note, such a part is the same in both, and in the state before.
use Prim.Native.Nat.{ℕ, zero, suc, ◌≤◌}
use mathlib.Core.Path.{◌≡◌, refl, sym, ap, ◌∙◌}
use mathlib.Core.Bool.{Bool, true, false}
use mathlib.Core.List.{List, [], ◌∷◌, map}
use native.Mathlib.Omega.{arith}
use lib.Dec.{eqb}
use lib.ListN.{length, get_or, replicate, length-take}
use Rattle.base_queue.specs.declared.Queue.{Queue}
use Rattle.base_queue.specs.Queues.{capacity, items, pack, Tidy}
use Rattle.base_queue.proofs.Counts.{keep_all}
use Rattle.spec_kernel.specs.declared.records.Semaphore.{Semaphore}
use Rattle.spec_kernel.specs.declared.records.Event.{Event}
use Rattle.spec_kernel.specs.declared.records.Kernel.{Kernel}
use Rattle.spec_rules.specs.Rules.{Sized, Rules, UnusedStore}
use Rattle.spec_moves.specs.declared.parts.Threads.{Threads}
use Rattle.spec_moves.specs.declared.parts.Posts.{Posts}
use Rattle.spec_moves.specs.Standing.{threads_of, posts_of}
use Rattle.spec_moves.specs.States.{scheduled}
use Rattle.spec_calls.specs.declared.call.Call.{Call}
use Rattle.spec_refusals.specs.Refusals.{is}
use Rattle.spec_notes.specs.Touched.{younger_thread, younger_semaphore}
use Rattle.spec_notes.specs.Notes.{threads_in, semaphores_in, events_in, flags_in, messages_in}
use Rattle.spec_notes.specs.Predicted.{predicted_flags}
use Rattle.base_rows.specs.Entries.{read_entries}
use Rattle.spec_notes.specs.Back.{merge, put_back_all, threads_before, semaphores_before, events_before, bits_before, messages_before}
use Rattle.spec_notes.specs.Back.{flags_before, threads_back, posts_back, before_at, state_before}
use Rattle.spec_notes.proofs.Lengths.{younger_now, semaphore_now}

-- ---- a table of places
none_marked : (n x : ℕ) → get_or {A = ℕ} (replicate n 0) x 0 ≡ 0
none_marked zero x = refl
none_marked (suc n) zero = refl
none_marked (suc n) (suc x) = none_marked n x

none_noted : (n : ℕ) (l : List ℕ) → length l ≤ n → merge n (replicate n 255) l ≡ l
none_noted zero [] h = refl
none_noted zero (x ∷ l) h = absurd (omega arith)
none_noted (suc n) [] h = refl
none_noted (suc n) (x ∷ l) h = ap (λ (m : List ℕ). x ∷ m) (none_noted n l (omega arith))

unmoved : (q : Queue) → length q.at ≡ capacity → Tidy q → put_back_all (replicate capacity 0) (replicate capacity 255) q ≡ q
unfolding put_back_all
unmoved q s tidy =
    let short : length (items q) ≤ capacity = rw length-take (omega arith) in
    ap pack
    (ap (merge capacity (replicate capacity 255)) (keep_all (items q) (λ x _. rw (none_marked capacity x)))
    ∙ none_noted capacity (items q) short)
    ∙ tidy

-- ---- records
map_same : {A : Type 0} (f : A → A) → ((r : A) → f r ≡ r) → (l : List A) → map f l ≡ l
map_same f h [] = refl
map_same f h (r ∷ l) = rw (h r, map_same f h l)

-- ---- the parts that move
threads_stay : (c : Call) (p : Threads) → is c 1 ≡ false → length p.places.at ≡ capacity → length p.time.at ≡ capacity
    → Tidy p.places → Tidy p.time → threads_back c p [] ≡ p
unfolding threads_back threads_before read_entries
threads_stay c p o s t tidy tidied =
    let records = map_same (younger_thread c) (λ r. younger_now c r o) p.records in
    let places = unmoved p.places s tidy in
    let time = unmoved p.time t tidied in
    λ i. record { records = records i; places = places i; time = time i }

posts_stay : (c : Call) (runner : ℕ) (p : Posts) → length p.posted.at ≡ capacity → Tidy p.posted → posts_back c runner p [] ≡ p
unfolding posts_back messages_before read_entries
posts_stay c runner p s tidy =
    let posted = unmoved p.posted s tidy in
    λ i. record { records = p.records; posted = posted i }

-- ---- the parts that stay where they are
semaphores_stay : (c : Call) (records : List Semaphore) → is c 1 ≡ false → semaphores_before c records [] ≡ records
unfolding semaphores_before read_entries
semaphores_stay c records o = map_same (younger_semaphore c) (λ r. semaphore_now c r o) records

events_stay : (c : Call) (records : List Event) (bits : ℕ) → (events_before records [] ≡ records) × (bits_before c bits [] ≡ bits)
unfolding events_before bits_before read_entries
events_stay c records bits = (refl, refl)

flags_stay : (c : Call) (flags : ℕ) → is c 32 ≡ false → flags_before c flags [] ≡ flags
unfolding flags_before predicted_flags
flags_stay c flags o = rw o

-- ---- of any state
module _ (c : Call) (k' : Kernel) (x : List (List ℕ)) where
  pub semaphores_unnoted : is c 1 ≡ false → semaphores_in x ≡ [] → (state_before c k' x).semaphores ≡ k'.semaphores
  unfolding state_before before_at scheduled
  semaphores_unnoted o e = rw e (semaphores_stay c k'.semaphores o)

  pub events_unnoted : events_in x ≡ [] → ((state_before c k' x).events ≡ k'.events) × ((state_before c k' x).bits ≡ k'.bits)
  unfolding state_before before_at scheduled
  events_unnoted e = rw e (events_stay c k'.events k'.bits)

  pub flags_unnoted : is c 32 ≡ false → flags_in x ≡ [] → (state_before c k' x).flags ≡ k'.flags
  unfolding state_before before_at scheduled
  flags_unnoted o e = rw e (flags_stay c k'.flags o)

-- ---- of a state that keeps its rules
module _ (c : Call) (k' : Kernel) (x : List (List ℕ)) (Z : Sized k') (R : Rules k') where
  pub threads_unnoted : is c 1 ≡ false → threads_in x ≡ [] → threads_of (state_before c k' x) ≡ threads_of k'
  unfolding state_before before_at scheduled UnusedStore
  threads_unnoted o e =
      let (places, time, _) = R.unused_store in
      rw e (threads_stay c (threads_of k') o Z.places Z.time places time)

  pub posts_unnoted : messages_in x ≡ [] → posts_of (state_before c k' x) ≡ posts_of k'
  unfolding state_before before_at scheduled UnusedStore
  posts_unnoted e =
      let (_, _, posted) = R.unused_store in
      rw e (posts_stay c k'.runner (posts_of k') Z.posted posted)
