-- Two states are equal exactly if the test of their fields passes.
use mathlib.Core.Path.{◌≡◌, refl, ap}
use mathlib.Core.Bool.{Bool, true, false, and-true, and-eq-true_iff, false≢true}
use mathlib.Core.List.{List, [], ◌∷◌}
use mathlib.Core.Logic.{◌↔◌}
use lib.Dec.{eqb}
use lib.ListN.{get_or}
use borrow.Author.Tests.{eqb-true}
use Rattle.base_queue.specs.declared.Queue.{Queue}
use Rattle.base_queue.proofs.Counts.{same}
use Rattle.spec_kernel.specs.declared.records.Semaphore.{Semaphore}
use Rattle.spec_kernel.specs.declared.records.Event.{Event}
use Rattle.spec_kernel.specs.declared.records.Kernel.{Kernel}
use Rattle.spec_notes.specs.Rows.{event_row, message_row}
use Rattle.spec_notes.specs.Touched.{same_row, same_thread, same_semaphore, same_event, same_message}
use Rattle.spec_moves.specs.declared.parts.Threads.{Threads}
use Rattle.spec_moves.specs.declared.parts.Posts.{Posts}
use Rattle.spec_rules.specs.declared.tests.Asked.{Asked}
use Rattle.spec_rules.proofs.Asked.{still, Unasked}
use Rattle.spec_notes.specs.Same.{same_all, same_queue, numbers_of, same_numbers, same_kernel, same_asked}
use Rattle.spec_notes.proofs.RecordsBack.{same_row_lem, same_thread_lem, same_semaphore_lem, same_event_lem, same_message_lem}
use Rattle.spec_notes.proofs.Slight.{row_same}
use Rattle.spec_notes.proofs.Lengths.{thread_same, semaphore_same}

-- ---- lists
module _ {A : Type 0} (test : A → A → Bool) where
  all_same : ((x : A) → test x x ≡ true) → (l : List A) → same_all test l l ≡ true
  all_same f [] = refl
  all_same f (x ∷ l) = rw (f x, all_same f l)

  same_list : ((x y : A) → test x y ≡ true → x ≡ y) → (l m : List A) → same_all test l m ≡ true → l ≡ m
  same_list means [] [] h = refl
  same_list means [] (y ∷ m) h = absurd (false≢true h)
  same_list means (x ∷ l) [] h = absurd (false≢true h)
  same_list means (x ∷ l) (y ∷ m) h =
      let (e, r) = (and-eq-true_iff (test x y) (same_all test l m)).0 h in
      rw (means x y e, same_list means l m r)

same_queue_lem : (q p : Queue) → same_queue q p ≡ true → q ≡ p
unfolding same_queue
same_queue_lem q p h =
    let (e, r) = (and-eq-true_iff (eqb q.n p.n) (same_row q.at p.at)).0 h in
    let n = eqb-true q.n p.n e in
    let at = same_row_lem q.at p.at r in
    λ i. record { n = n i; at = at i }

queue_same : (q : Queue) → same_queue q q ≡ true
unfolding same_queue
queue_same q = rw (same q.n, row_same q.at)

same_numbers_lem : (k u : Kernel) → same_numbers k u ≡ true → numbers_of k ≡ numbers_of u
unfolding same_numbers
same_numbers_lem k u h = same_row_lem (numbers_of k) (numbers_of u) h

-- ---- states
pub kernel_same : (k : Kernel) → same_kernel k k ≡ true
unfolding same_kernel same_numbers same_event same_message
kernel_same k =
    rw (
      all_same same_thread thread_same k.threads,
      all_same same_semaphore semaphore_same k.semaphores,
      all_same same_event (λ r. row_same (event_row r)) k.events,
      all_same same_message (λ r. row_same (message_row r 0)) k.messages,
      queue_same k.places,
      queue_same k.time,
      queue_same k.posted,
      row_same (numbers_of k),
    )

pub same_kernel_lem : (k u : Kernel) → same_kernel k u ≡ true → k ≡ u
unfolding same_kernel
same_kernel_lem k u h =
    let (a, (b, (c, (d, (e, (f, (g, n))))))) = simp (and-true, and-eq-true_iff) at h in
    let threads = same_list same_thread same_thread_lem k.threads u.threads a in
    let semaphores = same_list same_semaphore same_semaphore_lem k.semaphores u.semaphores b in
    let events = same_list same_event same_event_lem k.events u.events c in
    let messages = same_list same_message same_message_lem k.messages u.messages d in
    let places = same_queue_lem k.places u.places e in
    let time = same_queue_lem k.time u.time f in
    let posted = same_queue_lem k.posted u.posted g in
    let numbers = same_numbers_lem k u n in
    λ i. record {
      threads = threads i;
      semaphores = semaphores i;
      events = events i;
      messages = messages i;
      places = places i;
      time = time i;
      posted = posted i;
      bits = get_or (numbers i) 0 0;
      uptime = get_or (numbers i) 1 0;
      unscheduled = get_or (numbers i) 2 0;
      critical = get_or (numbers i) 3 0;
      runner = get_or (numbers i) 4 0;
      flags = get_or (numbers i) 5 0;
    }

-- whatever the two states hold
pub same_exactly : (k u : Kernel) → (same_kernel k u ≡ true) ↔ (k ≡ u)
same_exactly k u = (same_kernel_lem k u, λ e. rw e (kernel_same u))

-- where what isn't asked for is the same
pub same_asked_lem : (k u : Kernel) {asked : Asked} → Unasked asked k u → same_asked asked k u ≡ same_kernel k u
unfolding same_asked same_kernel
same_asked_lem k u {asked} U =
    let (records, (semaphores, (events, (posts, (places, (time, (posted, _))))))) = simp (and-true, and-eq-true_iff) at (kernel_same u) in
    let threads = asked.threads in
    let messages = asked.messages in
    rw (
      still threads (same_all same_thread k.threads u.threads) _ records
          (λ h. ap (λ (p : Threads). same_all same_thread p.records u.threads) (U.threads h)),
      still asked.semaphores (same_all same_semaphore k.semaphores u.semaphores) _ semaphores
          (λ h. ap (λ (l : List Semaphore). same_all same_semaphore l u.semaphores) (U.semaphores h)),
      still asked.events (same_all same_event k.events u.events) _ events
          (λ h. ap (λ (l : List Event). same_all same_event l u.events) (U.events h).0),
      still messages (same_all same_message k.messages u.messages) _ posts
          (λ h. ap (λ (p : Posts). same_all same_message p.records u.messages) (U.messages h)),
      still threads (same_queue k.places u.places) _ places
          (λ h. ap (λ (p : Threads). same_queue p.places u.places) (U.threads h)),
      still threads (same_queue k.time u.time) _ time (λ h. ap (λ (p : Threads). same_queue p.time u.time) (U.threads h)),
      still messages (same_queue k.posted u.posted) _ posted
          (λ h. ap (λ (p : Posts). same_queue p.posted u.posted) (U.messages h)),
    )
