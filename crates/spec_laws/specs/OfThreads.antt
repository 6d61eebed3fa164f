-- Threads: what it is to wake, to block, to come, to go, to yield and to have another priority.
use Rattle.std.specs.Prelude.{ℕ, ◌<◌, ◌≡◌, Bool, true, false, [], ◌∷◌, ◌++◌, ltb}
use Rattle.base_queue.specs.Lists.{without, behind}
use Rattle.spec_kernel.specs.declared.records.Condition.{Condition}
use Rattle.spec_kernel.specs.declared.records.Condition.TheVariants.{ForSemaphore, ForEvent, ForFlag}
use Rattle.spec_kernel.specs.declared.records.Wake.{Wake}
use Rattle.spec_kernel.specs.declared.records.Kernel.{Kernel}
use Rattle.spec_kernel.specs.Records.{thread, message, no_thread, no_message}
use Rattle.spec_kernel.specs.Conditions.{is_ready}
use Rattle.spec_kernel.specs.Places.{nowhere, home_for, ready_home, at_home, ready_list, semaphore_queue, event_queue, flag_queue}
use Rattle.spec_kernel.specs.Places.{time_queue, channel}
use Rattle.spec_laws.specs.Words.{readied, stopped, prioritized, newborn, OnlyThreads, OtherThreads, SameEvents, SameScheduler}

-- ---- waking
-- Thread t of k is awake in k', for the reason `why` and with the reply `reply` [01, calls: Blocking 3, 5].
pub record Woken (why : Wake) (reply t : ℕ) (k k' : Kernel) : Type 0 where
  -- it stands last in its priority's list, where it did not stand before
  pub last : ready_list k' (thread k t).priority ≡ ready_list k (thread k t).priority ++ t ∷ []
  -- every other ready list is as it was: whoever it preempts stands where it stood [01, calls: Blocking 4]
  pub lists : (p : ℕ) → p < 256 → (p ≡ (thread k t).priority → ⊥) → ready_list k' p ≡ ready_list k p
  -- it is out of every queue, and the others keep their order there
  pub queues : (h : ℕ) → (h ≡ ready_home (thread k t).priority → ⊥) → at_home k' h ≡ without t (at_home k h)
  -- out of the time queue too
  pub time : time_queue k' ≡ without t (time_queue k)
  -- it is ready with no ticks left, the reason and the reply are new, and nobody else's record changes
  pub itself : thread k' t ≡ readied why reply (thread k t)
  pub others : OtherThreads t k k'

-- ---- blocking
-- u comes after t in a queue: it has a lower priority, which is a greater number
abbrev pub is_lower : Kernel → ℕ → ℕ → Bool
is_lower k t u = ltb (thread k t).priority (thread k u).priority

-- u comes after who has so many ticks left in the time queue: it has more
abbrev pub is_later : Kernel → ℕ → ℕ → Bool
is_later k ticks u = ltb ticks (thread k u).ticks

-- The caller t of k has stopped in k': it joins the queue of home h, or none where h is nowhere.
pub record Blocked (condition : Condition) (timeout h t : ℕ) (k k' : Kernel) : Type 0 where
  -- It is out of its ready list, and in its queue before those of a lower priority, behind all others [01, calls: Blocking 1].
  pub left : ready_list k' (thread k t).priority ≡ without t (ready_list k (thread k t).priority)
  pub joined : (h ≡ nowhere → ⊥) → at_home k' h ≡ behind (is_lower k t) t (at_home k h)
  -- every other list and queue is as it was
  pub lists : (n : ℕ) → (n ≡ ready_home (thread k t).priority → ⊥) → (n ≡ h → ⊥) → at_home k' n ≡ at_home k n
  -- With timeout 0 the time queue stays; else it joins there before those with more ticks left, behind all others [01, calls: Blocking 2].
  pub forever : timeout ≡ 0 → time_queue k' ≡ time_queue k
  pub timed : 0 < timeout → time_queue k' ≡ behind (is_later k timeout) t (time_queue k)
  -- Its wake reason is none now and its reply 255; nobody else's record changes [01, calls: Blocking 5].
  pub itself : thread k' t ≡ stopped condition timeout (thread k t)
  pub others : OtherThreads t k k'
  pub only : OnlyThreads k k'

-- ---- kind 2
-- Thread t is new in k', with this priority.
pub record Created (priority t : ℕ) (k k' : Kernel) : Type 0 where
  -- its id was free, and every lower one taken [01, modelled 5]
  pub free : (thread k t).live ≡ false
  pub lowest : (u : ℕ) → u < t → (thread k u).live ≡ true
  -- it stands last in its list; every other list and queue is as it was, and so whoever it preempts [01, calls: Blocking 4]
  pub last : ready_list k' priority ≡ ready_list k priority ++ t ∷ []
  pub lists : (h : ℕ) → (h ≡ ready_home priority → ⊥) → at_home k' h ≡ at_home k h
  pub time : time_queue k' ≡ time_queue k
  -- its wake reason is none and its reply 255; nobody else's record changes [01, calls: Blocking 5]
  pub itself : thread k' t ≡ newborn priority
  pub others : OtherThreads t k k'
  pub only : OnlyThreads k k'

-- ---- kind 3
-- Thread a of k is gone in k': it leaves no trace but as a sender.
pub record Destroyed (a : ℕ) (k k' : Kernel) : Type 0 where
  -- it stands in no list or queue any more, and the others keep their order [01, calls: Threads 3]
  pub lists : (h : ℕ) → h < nowhere → at_home k' h ≡ without a (at_home k h)
  pub time : time_queue k' ≡ without a (time_queue k)
  pub itself : thread k' a ≡ no_thread
  pub others : OtherThreads a k k'
  -- its messages are freed: it owns none, and its channels are empty [01, calls: Threads 3]
  pub freed : (m : ℕ) → (message k m).live ≡ true → (message k m).owner ≡ a → message k' m ≡ no_message
  pub owned : (m : ℕ) → (message k' m).live ≡ true → (message k' m).owner ≡ a → ⊥
  pub channels : (c : ℕ) → channel k' a c ≡ []
  -- every other message, and every other thread's channel, is as it was
  pub messages : (m : ℕ) → ((message k m).live ≡ true → (message k m).owner ≡ a → ⊥) → message k' m ≡ message k m
  pub other_channels : (t c : ℕ) → (t ≡ a → ⊥) → channel k' t c ≡ channel k t c
  -- nothing else changes
  pub semaphores : k'.semaphores ≡ k.semaphores
  pub events : SameEvents k k'
  pub flags : k'.flags ≡ k.flags
  pub scheduler : SameScheduler k k'

-- ---- kinds 4 and 5
-- Thread a has the priority `new` in k', and stands behind all that have it too, in a ready list or in its queue; the same
-- where it had this priority before [01, calls: Threads 2].
pub record Reprioritized (new a : ℕ) (k k' : Kernel) : Type 0 where
  -- a ready thread is last in its new list and out of its old one, where the others keep their order
  pub last : is_ready (thread k a) ≡ true → ready_list k' new ≡ without a (ready_list k new) ++ a ∷ []
  pub lists : is_ready (thread k a) ≡ true → (h : ℕ) → (h ≡ ready_home new → ⊥) → at_home k' h ≡ without a (at_home k h)
  -- a waiter stands in its queue behind its new equals, before those of a lower priority
  pub semaphore : (i : ℕ) → i < 256 → (thread k a).condition ≡ ForSemaphore i
      → semaphore_queue k' i ≡ behind (λ u. ltb new (thread k u).priority) a (without a (semaphore_queue k i))
  pub event : (i : ℕ) → i < 256 → (thread k a).condition ≡ ForEvent i
      → event_queue k' i ≡ behind (λ u. ltb new (thread k u).priority) a (without a (event_queue k i))
  pub flag : (i : ℕ) → i < 256 → (thread k a).condition ≡ ForFlag i
      → flag_queue k' i ≡ behind (λ u. ltb new (thread k u).priority) a (without a (flag_queue k i))
  -- and nobody else moves; who sleeps or waits for a message has no home to move in
  pub elsewhere : is_ready (thread k a) ≡ false → (h : ℕ) → (h ≡ home_for (thread k a).condition new → ⊥) → at_home k' h ≡ at_home k h
  pub time : time_queue k' ≡ time_queue k
  -- nothing else of it changes, and nobody else's record does
  pub itself : thread k' a ≡ prioritized new (thread k a)
  pub others : OtherThreads a k k'
  pub only : OnlyThreads k k'

-- ---- kind 6
-- Yield puts the caller t last in its list [01, calls: Threads 1].
pub record Yielded (t : ℕ) (k k' : Kernel) : Type 0 where
  pub last : ready_list k' (thread k t).priority ≡ without t (ready_list k (thread k t).priority) ++ t ∷ []
  -- nobody else moves, and no record changes
  pub lists : (h : ℕ) → (h ≡ ready_home (thread k t).priority → ⊥) → at_home k' h ≡ at_home k h
  pub time : time_queue k' ≡ time_queue k
  pub records : (u : ℕ) → thread k' u ≡ thread k u
  pub only : OnlyThreads k k'
