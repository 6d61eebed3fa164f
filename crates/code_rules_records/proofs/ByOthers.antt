-- What a record's rules ask, by the sets and by the owner, is what they ask of the tables that these tell of.
use Prim.Native.Nat.{ℕ}
use mathlib.Core.Path.{◌≡◌, refl}
use mathlib.Core.List.{List}
use lib.Dec.{ltb}
use borrow.Author.Tests.{ltb-true, ltb-false}
use borrow.Table.Steps.{cases}
use Rattle.spec_kernel.specs.declared.records.Condition.{Condition}
use Rattle.spec_kernel.specs.declared.records.Condition.TheVariants.{Ready, Asleep, ForSemaphore, ForEvent, ForMessage, ForFlag}
use Rattle.spec_kernel.specs.declared.records.Thread.{Thread}
use Rattle.spec_kernel.specs.declared.records.Semaphore.{Semaphore}
use Rattle.spec_kernel.specs.declared.records.Event.{Event}
use Rattle.spec_kernel.specs.declared.records.Message.{Message}
use Rattle.spec_kernel.specs.Sizes.{thread_count}
use Rattle.spec_kernel.specs.Records.{no_thread}
use Rattle.spec_moves.proofs.Joins.{past_end}
use Rattle.spec_rules.specs.Tests.{condition_kept, live_thread_kept, thread_kept, live_message_kept, message_kept}
use Rattle.code_rules_records.specs.Others.{condition_by, live_thread_by, thread_by, live_message_by, message_by, Objects, Owner}

module _ {waited untrue : ℕ} {semaphores : List Semaphore} {events : List Event} {bits : ℕ}
    (o : Objects waited untrue semaphores events bits) (flags : ℕ) where
  condition_by_lem : (ticks : ℕ) (c : Condition)
      → condition_by waited untrue flags ticks c ≡ condition_kept semaphores events bits flags ticks c
  unfolding condition_by condition_kept
  condition_by_lem ticks Ready = refl
  condition_by_lem ticks Asleep = refl
  condition_by_lem ticks (ForSemaphore i) = o.semaphore i
  condition_by_lem ticks (ForEvent i) = o.event i
  condition_by_lem ticks (ForMessage mask) = refl
  condition_by_lem ticks (ForFlag i) = refl

  pub thread_by_lem : (r : Thread) → thread_by waited untrue flags r ≡ thread_kept semaphores events bits flags r
  unfolding thread_by live_thread_by thread_kept live_thread_kept
  thread_by_lem r = rw (condition_by_lem r.ticks r.condition)

-- an owner past the records is no live thread
pub message_by_lem : {threads : List Thread} {owner : Thread} {r : Message} → Owner threads owner r → message_by owner r ≡ message_kept threads r
unfolding message_by live_message_by message_kept live_message_kept
message_by_lem {threads} {owner} {r} o =
    cases (ltb r.owner thread_count)
    (λ e. rw (e, o.there (ltb-true r.owner thread_count e)))
    (λ e. rw (e, past_end threads no_thread o.full (ltb-false r.owner thread_count e)))
