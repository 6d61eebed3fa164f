-- Whether two states are the same, field by field.
use Rattle.std.specs.Prelude.{ℕ, Bool, true, false, ◌&&◌, List, [], ◌∷◌, eqb}
use Rattle.base_queue.specs.declared.Queue.{Queue}
use Rattle.spec_kernel.specs.declared.records.Kernel.{Kernel}
use Rattle.spec_rules.specs.declared.tests.Asked.{Asked}
use Rattle.spec_rules.specs.Tests.{all_of, if_asked}
use Rattle.spec_notes.specs.Touched.{same_row, same_thread, same_semaphore, same_event, same_message}

-- two lists, by a test of two of their members
abbrev pub same_all : {A : Type 0} → (A → A → Bool) → List A → List A → Bool
same_all same [] [] = true
same_all same [] (y ∷ ys) = false
same_all same (x ∷ xs) [] = false
same_all same (x ∷ xs) (y ∷ ys) = let r = same_all same xs ys in same x y && r

unfoldable pub same_queue : Queue → Queue → Bool
same_queue q p = eqb q.n p.n && same_row q.at p.at

-- bits, uptime, levels, runner and flags
abbrev pub numbers_of : Kernel → List ℕ
numbers_of k = k.bits ∷ k.uptime ∷ k.unscheduled ∷ k.critical ∷ k.runner ∷ k.flags ∷ []

unfoldable pub same_numbers : Kernel → Kernel → Bool
same_numbers k u = same_row (numbers_of k) (numbers_of u)

unfoldable pub same_kernel : Kernel → Kernel → Bool
same_kernel k u =
    all_of
    (same_all same_thread k.threads u.threads
    ∷ same_all same_semaphore k.semaphores u.semaphores
    ∷ same_all same_event k.events u.events
    ∷ same_all same_message k.messages u.messages
    ∷ same_queue k.places u.places
    ∷ same_queue k.time u.time
    ∷ same_queue k.posted u.posted
    ∷ same_numbers k u
    ∷ [])

-- ---- The same where it is asked for: a table that isn't, with its places, is known to be the same.
unfoldable pub same_asked : Asked → Kernel → Kernel → Bool
same_asked asked k u =
    all_of
    (if_asked asked.threads (same_all same_thread k.threads u.threads)
    ∷ if_asked asked.semaphores (same_all same_semaphore k.semaphores u.semaphores)
    ∷ if_asked asked.events (same_all same_event k.events u.events)
    ∷ if_asked asked.messages (same_all same_message k.messages u.messages)
    ∷ if_asked asked.threads (same_queue k.places u.places)
    ∷ if_asked asked.threads (same_queue k.time u.time)
    ∷ if_asked asked.messages (same_queue k.posted u.posted)
    ∷ same_numbers k u
    ∷ [])
