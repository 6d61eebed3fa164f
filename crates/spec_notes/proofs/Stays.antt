-- What a call leaves in place: who moves is touched. The laws of one move, and the kinds 2 and 4 to 7.
use Prim.Native.Nat.{ℕ, ◌≤◌, ◌<◌}
use mathlib.Core.Path.{◌≡◌, refl, sym, ap, ◌∙◌}
use mathlib.Core.Bool.{Bool, true, false, not, false≢true, or-true, or-false}
use mathlib.Core.Logic.{◌⊎◌, inl}
use native.Mathlib.Omega.{arith}
use lib.Dec.{eqb, ltb}
use lib.ListN.{length}
use borrow.Author.Tests.{ne_eqb, ltb-true, ltb-false}
use borrow.Table.Steps.{cases}
use Rattle.base_queue.specs.Lists.{keep}
use Rattle.base_queue.specs.Queues.{items}
use Rattle.base_queue.proofs.Counts.{same}
use Rattle.spec_kernel.specs.declared.records.Condition.{Condition}
use Rattle.spec_kernel.specs.declared.records.Condition.TheVariants.{Ready, Asleep, ForSemaphore, ForEvent, ForMessage, ForFlag}
use Rattle.spec_kernel.specs.declared.records.Thread.{Thread}
use Rattle.spec_kernel.specs.declared.records.Message.{Message}
use Rattle.spec_kernel.specs.declared.records.Kernel.{Kernel}
use Rattle.spec_moves.specs.declared.parts.Threads.{Threads}
use Rattle.spec_kernel.specs.Sizes.{thread_count, message_count}
use Rattle.spec_kernel.specs.Records.{thread, no_thread}
use Rattle.spec_kernel.specs.Conditions.{ready_for}
use Rattle.spec_moves.specs.Moves.{relocate}
use Rattle.spec_moves.specs.Standing.{threads_of, posts_of}
use Rattle.spec_moves.proofs.Threads.{relocate_past, relocate_same, relocate_keep, relocate_time_keep}
use Rattle.spec_moves.proofs.Posts.{repost_past, repost_keep}
use Rattle.spec_kernel.specs.Free.{free_thread}
use Rattle.spec_calls.specs.declared.call.Call.{Call}
use Rattle.spec_calls.specs.Kinds.{kind_of, from_thread}
use Rattle.spec_refusals.specs.Named.{named, value_of}
use Rattle.spec_refusals.specs.Refusals.{none_free}
use Rattle.spec_moves.specs.States.{move_thread, move_message}
use Rattle.spec_threads.specs.Threads.{born, blocked, block, create_thread, set_priority, reset_priority, yielded, sleep}
use Rattle.proof_rules.proofs.Ends.{Before}
use Rattle.proof_rules.proofs.Free.{free_id}
use Rattle.proof_rules.proofs.Accepted.{Accepted}
use Rattle.proof_rules.proofs.Steps.{ready_live, caller_ready}
use Rattle.spec_notes.specs.Rows.{condition_code, thread_code, full_code}
use Rattle.spec_notes.specs.Touched.{same_thread, younger_thread, moves_in_place, touched_thread, touched_message}
use Rattle.spec_notes.proofs.RecordsBack.{full_code_lem}
use Rattle.spec_notes.specs.Back.{earlier}
use Rattle.spec_notes.specs.Predicted.{predicted_flags}
use Rattle.spec_notes.specs.LeftAlone.{other_way, FlagsTold}

-- ---- what stays
-- a test that sees nobody move
abbrev pub Keeps : (ℕ → Bool) → Threads → Threads → Type 0
Keeps f p q =
    (keep f (items q.places) ≡ keep f (items p.places)) × (keep f (items q.time) ≡ keep f (items p.time))

-- who isn't touched keeps its place among the others that aren't
abbrev pub ThreadsStay : Kernel → Call → Kernel → Type 0
ThreadsStay k c u = Keeps (λ t. not (touched_thread k c u t)) (threads_of k) (threads_of u)

abbrev pub PostsStay : Kernel → Call → Kernel → Type 0
PostsStay k c u =
    keep (λ m. not (touched_message k c u m)) (items u.posted) ≡ keep (λ m. not (touched_message k c u m)) (items k.posted)

-- at most bit a of a word differs
abbrev pub AtMost : ℕ → ℕ → ℕ → Type 0
AtMost a old new = (old ≡ new) ⊎ (old ≡ other_way new a)

-- what a kind leaves
pub record Left (k : Kernel) (c : Call) (u : Kernel) : Type 0 where
  pub threads : ThreadsStay k c u
  pub posts : PostsStay k c u
  pub bits : AtMost c.a k.bits u.bits
  pub flags : FlagsTold c k.flags u.flags
  pub uptime : k.uptime ≡ earlier c u.uptime

-- a kind that tells neither of the uptime nor of the flags before: all but the tick and the destruction of a flag
abbrev pub TellsNothing : ℕ → Type 0
TellsNothing n = (eqb n 1 ≡ false) × (eqb n 32 ≡ false)

pub flags_stay : (c : Call) {n old new : ℕ} → c.kind ≡ n → eqb n 32 ≡ false → old ≡ new → FlagsTold c old new
unfolding predicted_flags
flags_stay c e o h = inl (rw (e, o) h)

-- of such a kind n, which leaves bits and flags
pub quiet : {k : Kernel} {c : Call} {u : Kernel} {n : ℕ} → TellsNothing n
    → (k.bits ≡ u.bits) × (k.uptime ≡ u.uptime) × (k.flags ≡ u.flags) → ThreadsStay k c u → PostsStay k c u → c.kind ≡ n → Left k c u
quiet {c} o b T P e =
    record { threads = T; posts = P; bits = inl b.0; flags = flags_stay c e o.1 b.2; uptime = rw (e, o.0) b.1 }

-- ---- a thread's code tells whether it is live and ready
condition_code_lem : (c : Condition)
    → (1 ≤ condition_code c) × (ready_for c ≡ true → condition_code c ≡ 1) × (ready_for c ≡ false → 1 < condition_code c)
condition_code_lem Ready = (omega arith, λ _. refl, λ e. absurd (false≢true (sym e)))
condition_code_lem Asleep = (omega arith, λ e. absurd (false≢true e), λ _. omega arith)
condition_code_lem (ForSemaphore i) = (omega arith, λ e. absurd (false≢true e), λ _. omega arith)
condition_code_lem (ForEvent i) = (omega arith, λ e. absurd (false≢true e), λ _. omega arith)
condition_code_lem (ForMessage mask) = (omega arith, λ e. absurd (false≢true e), λ _. omega arith)
condition_code_lem (ForFlag i) = (omega arith, λ e. absurd (false≢true e), λ _. omega arith)

-- not asleep, and waiting for nothing
abbrev pub up : Thread → Bool
up r = ready_for r.condition

module _ (r : Thread) where
  dead_code : r.live ≡ false → thread_code r ≡ 0
  dead_code e = rw e

  pub up_code : up r ≡ true → thread_code r ≤ 1
  up_code h =
      cases r.live (λ e. rw e (omega (arith, (condition_code_lem r.condition).1 h))) (λ e. rw e (omega arith))

  module _ (e : r.live ≡ true) where
    pub live_code : 1 ≤ thread_code r
    live_code = rw e (condition_code_lem r.condition).0

    pub down_code : up r ≡ false → 1 < thread_code r
    down_code h = rw e ((condition_code_lem r.condition).2 h)

-- ---- who is touched
module _ (k : Kernel) (c : Call) (u : Kernel) (t : ℕ) where
  -- whose code changes
  pub touched_code : (thread_code (thread k t) ≡ thread_code (thread u t) → ⊥) → touched_thread k c u t ≡ true
  unfolding touched_thread same_thread younger_thread
  touched_code ne =
      let r = thread k t in
      let s = thread u t in
      rw (ne_eqb (full_code r) (full_code s) (λ e. ne (full_code_lem r s e)))

  -- who moves in place
  touched_place : moves_in_place k.runner c t ≡ true → touched_thread k c u t ≡ true
  unfolding touched_thread
  touched_place e = rw (e, or-true)

-- ---- one move
pub relocate_keeps : (p : Threads) (t : ℕ) (r : Thread) (f : ℕ → Bool) → (t < thread_count → f t ≡ false) → Keeps f p (relocate t r p)
relocate_keeps p t r f h =
    cases (ltb t thread_count) (λ e. let z = h (ltb-true t thread_count e) in (relocate_keep p t r f z, relocate_time_keep p t r f z))
    (λ e. rw (relocate_past p t r (ltb-false t thread_count e)) (refl, refl))

module _ (k : Kernel) (c : Call) (t : ℕ) (r : Thread) where
  -- a thread that is touched
  place_stays : (t < thread_count → touched_thread k c (move_thread t r k) t ≡ true) → ThreadsStay k c (move_thread t r k)
  place_stays h = relocate_keeps (threads_of k) t r (λ x. not (touched_thread k c (move_thread t r k) x)) (λ b. rw (h b))

  pub code_stays : length k.threads ≡ thread_count → (thread_code (thread k t) ≡ thread_code r → ⊥) → ThreadsStay k c (move_thread t r k)
  code_stays e ne =
      place_stays (λ b. touched_code k c (move_thread t r k) t (λ z. ne (z ∙ ap thread_code (relocate_same (threads_of k) t r e b))))

  place_in_place : moves_in_place k.runner c t ≡ true → ThreadsStay k c (move_thread t r k)
  place_in_place e = place_stays (λ _. touched_place k c (move_thread t r k) t e)

-- a message that is touched
pub file_stays : (k : Kernel) (c : Call) (m : ℕ) (r : Message)
    → (m < message_count → touched_message k c (move_message m r k) m ≡ true) → PostsStay k c (move_message m r k)
file_stays k c m r h =
    cases (ltb m message_count)
    (λ e. repost_keep (posts_of k) m r (λ x. not (touched_message k c (move_message m r k) x)) (rw (h (ltb-true m message_count e))))
    (λ e. rw (repost_past (posts_of k) m r (ltb-false m message_count e)))

-- ---- the kinds
module _ {k : Kernel} (B : Before k) {c : Call} (A : Accepted k c) where
  -- the caller blocks
  pub block_left : {n : ℕ} → TellsNothing n → from_thread c ≡ true → (condition : Condition) (timeout : ℕ) → ready_for condition ≡ false
      → c.kind ≡ n → Left k c (block condition timeout k)
  unfolding block
  block_left o f condition timeout h e =
      let s = thread k k.runner in
      let r : Thread = blocked condition timeout s in
      let ready = caller_ready B A f in
      let l = ready_live s ready in
      quiet o (refl, refl, refl)
      (code_stays k c k.runner r B.core.standing.count (λ z. omega (arith, up_code s (rw l at ready), down_code r l h))) refl e

  pub kind_2 : c.kind ≡ 2 → Left k c (create_thread k c)
  unfolding create_thread none_free named value_of kind_of
  kind_2 e =
      let t = free_thread k in
      let (_, dead) = free_id (λ r. r.live) no_thread k.threads (simp (e, or-false) at A.free) in
      quiet (refl, refl) (refl, refl, refl)
      (code_stays k c t (born c.a) B.core.standing.count (λ z. omega (arith, dead_code (thread k t) dead))) refl e

  pub kind_4 : c.kind ≡ 4 → Left k c (set_priority k c)
  unfolding set_priority
  kind_4 e = quiet (refl, refl) (refl, refl, refl) (place_in_place k c c.a _ (rw (e, same))) refl e

  pub kind_5 : c.kind ≡ 5 → Left k c (reset_priority k c)
  unfolding reset_priority
  kind_5 e = quiet (refl, refl) (refl, refl, refl) (place_in_place k c c.a _ (rw (e, same))) refl e

  pub kind_6 : c.kind ≡ 6 → Left k c (yielded k c)
  unfolding yielded
  kind_6 e = quiet (refl, refl) (refl, refl, refl) (place_in_place k c k.runner _ (rw (e, same))) refl e

  pub kind_7 : c.kind ≡ 7 → Left k c (sleep k c)
  unfolding sleep from_thread kind_of
  kind_7 e = block_left (refl, refl) (rw e) Asleep c.c refl e
