-- The threads' section, read back: their records, and their places in the two tables.
use Prim.Native.Nat.{ℕ, suc, ◌^◌, ◌<◌}
use mathlib.Core.Path.{◌≡◌, refl, sym, ◌∙◌}
use mathlib.Core.Bool.{Bool, true, false, cond, not, ◌||◌, false≢true}
use mathlib.Core.List.{List, ◌++◌, map}
use native.Mathlib.Nat.{le_refl}
use native.Mathlib.Omega.{arith}
use lib.Dec.{eqb, ltb}
use lib.ListN.{set, replicate, length-map}
use borrow.Table.Steps.{cases}
use Rattle.base_queue.specs.Queues.{capacity, items}
use Rattle.base_queue.specs.Tables.{old_place}
use Rattle.base_queue.proofs.Queues.{length_items}
use Rattle.base_rows.specs.Entries.{read_entries}
use Rattle.base_rows.proofs.EntriesRead.{id_back, code_back}
use Rattle.spec_kernel.specs.declared.records.Condition.{Condition}
use Rattle.spec_kernel.specs.declared.records.Condition.TheVariants.{Ready, Asleep, ForSemaphore, ForEvent, ForMessage, ForFlag}
use Rattle.spec_kernel.specs.declared.records.Object.{Object}
use Rattle.spec_kernel.specs.declared.records.Wake.{Wake}
use Rattle.spec_kernel.specs.declared.records.Thread.{Thread}
use Rattle.spec_kernel.specs.declared.records.Kernel.{Kernel}
use Rattle.spec_kernel.specs.Sizes.{thread_count}
use Rattle.spec_kernel.specs.Records.{thread, no_thread}
use Rattle.spec_kernel.specs.Places.{home_of, has_home}
use Rattle.spec_moves.specs.Standing.{threads_of}
use Rattle.spec_rules.specs.Rules.{Sized, Rules, DeadThreads}
use Rattle.spec_rules.proofs.FromRules.{standing}
use Rattle.spec_calls.specs.declared.call.Call.{Call}
use Rattle.proof_rules.proofs.Core.{Core, Fits, untrue, live_semaphore, condition_of}
use Rattle.proof_rules.proofs.Ends.{before}
use Rattle.spec_notes.specs.Rows.{condition_code, thread_code, condition_data, thread_row, thread_widths, wake_code}
use Rattle.spec_notes.specs.Touched.{younger_thread, touched_thread}
use Rattle.spec_notes.specs.Predicted.{predicted_code, predicted_thread}
use Rattle.spec_notes.specs.Sections.{thread_entry, threads_section}
use Rattle.spec_notes.specs.Back.{put_back_all, Threading, thread_own, thread_read, threads_before}
use Rattle.spec_notes.specs.Within.{Within}
use Rattle.spec_notes.specs.LeftAlone.{LeftAlone}
use Rattle.spec_notes.proofs.RowsBack.{Fit, none, field, entry_row, entry_rest}
use Rattle.spec_notes.proofs.RecordsBack.{ByteId, Dead, thread_back_lem, same_thread_lem}
use Rattle.spec_notes.proofs.EntriesBack.{get_or_map, each, read_part, records_back}
use Rattle.spec_notes.proofs.TablesBack.{place_below, table_back}

pub wake_small : (w : Wake) → wake_code w < 6
wake_small Wake.None = omega arith
wake_small Wake.Met = omega arith
wake_small (Wake.TimedOut Object.Semaphore) = omega arith
wake_small (Wake.TimedOut Object.Event) = omega arith
wake_small (Wake.TimedOut Object.Flag) = omega arith
wake_small (Wake.TimedOut Object.Message) = omega arith

pub wake_below : (w : Wake) → wake_code w < 256
wake_below w = omega (arith, wake_small w)

-- what a thread waits for fits the field of its code
data_fits : (r : Thread) → Dead r → ByteId r.condition → condition_data r.condition < 65536
    → condition_data r.condition < 256 ^ cond (eqb (thread_code r) 5) 2 1
data_fits r dead b h =
    cases r.live (λ e. rw e (go r.condition b h)) (λ e. rw (dead e) (omega arith))
  where
    go : (x : Condition) → ByteId x → condition_data x < 65536 → condition_data x < 256 ^ cond (eqb (condition_code x) 5) 2 1
    go Ready b h = omega arith
    go Asleep b h = omega arith
    go (ForSemaphore i) b h = b
    go (ForEvent i) b h = b
    go (ForMessage mask) b h = h
    go (ForFlag i) b h = b

-- one that isn't touched is the same
neither : (a b : Bool) → (not a || b) ≡ false → a ≡ true
neither true b h = refl
neither false b h = absurd (false≢true (sym h))

module _ (k : Kernel) (c : Call) (k' : Kernel) where
  abbrev touched : ℕ → Bool
  touched = touched_thread k c k'

  abbrev entry : ℕ → List ℕ
  entry = thread_entry c (threads_of k) k'.threads

  -- what an entry gives
  abbrev step : ℕ → Threading → Threading
  step t a =
      record {
        threads = set a.threads t (thread k t);
        out = set a.out t 1;
        at = set a.at (old_place t (items k.places)) t;
        due = set a.due (old_place t (items k.time)) t;
      }

  module _ (Z : Sized k) (R : Rules k) (W : Within k) where
    -- a live semaphore's id is a byte, and so is an event's
    byte_id : (t : ℕ) → ByteId (thread k t).condition
    byte_id t =
        let C = (before k Z R).core in
        go C (thread k t).condition (condition_of C t)
      where
        go : Core (untrue k) k → (x : Condition) → Fits k.semaphores (untrue k) k.flags (thread k t).ticks x → ByteId x
        go C Ready h = tt
        go C Asleep h = tt
        go C (ForSemaphore i) h = omega (arith, live_semaphore C i h.0)
        go C (ForEvent i) h = omega arith
        go C (ForMessage mask) h = tt
        go C (ForFlag i) h = omega arith

    fits : (t : ℕ)
        → Fit (thread_widths (thread_code (thread k t)))
        (thread_row (thread k t) (old_place t (items k.places)) (old_place t (items k.time)))
        (predicted_thread c (thread k' t) (thread_code (thread k t)))
    unfolding predicted_thread DeadThreads
    fits t =
        field (λ _. W.priority t)
        (field (λ _. W.first t)
        (field (λ _. data_fits (thread k t) (R.dead_threads t) (byte_id t) (W.what t))
        (field (λ _. W.ticks t)
        (field (λ _. wake_below (thread k t).wake)
        (field (λ _. W.reply t)
        (field (λ _. place_below t (items k.places) (length_items k.places Z.places))
        (field (λ _. place_below t (items k.time) (length_items k.time Z.time)) none)))))))

    next : (n t : ℕ) (rest : List ℕ) (a : Threading) → t < 64
        → read_entries (thread_own c k'.threads) (thread_read c k'.threads) (suc n) (entry t ++ rest) a
        ≡ read_entries (thread_own c k'.threads) (thread_read c k'.threads) n rest (step t a)
    unfolding read_entries thread_own thread_read DeadThreads
    next n t rest a b =
        let code = thread_code (thread k t) in
        let told = predicted_code c (thread k' t) in
        rw (
          id_back t code told _ b,
          code_back (thread_widths code) t code told _ _ rest,
          entry_rest t code told rest (fits t),
          entry_row t code told rest (fits t),
          thread_back_lem (thread k t) _ _ (R.dead_threads t) (byte_id t),
        )

    -- what the section gives, and a part of it
    abbrev read : Threading
    read = threads_before c k'.threads (threads_section k c k')

    part : {B : Type 0} (f : Threading → B) (put : ℕ → B → B) → ((t : ℕ) (a : Threading) → f (step t a) ≡ put t (f a))
        → f read
        ≡ each touched put 0 thread_count
        (f (record {
          threads = map (younger_thread c) k'.threads;
          out = replicate capacity 0;
          at = replicate capacity 255;
          due = replicate capacity 255;
        }))
    unfolding threads_before threads_section touched_thread
    part f put h =
        read_part (thread_own c k'.threads) (thread_read c k'.threads) touched entry step (λ _. refl) next f put h
        _ thread_count _ (omega arith) (le_refl _)

    out : read.out ≡ each touched (λ t l. set l t 1) 0 thread_count (replicate capacity 0)
    out = part (λ a. a.out) (λ t l. set l t 1) (λ _ _. refl)

    module _ (Z' : Sized k') (R' : Rules k') where
      untouched : (t : ℕ) → touched t ≡ false → younger_thread c (thread k' t) ≡ thread k t
      unfolding touched_thread
      untouched t h =
          sym (same_thread_lem (thread k t) (younger_thread c (thread k' t)) (neither _ _ h))

      pub threads_back_lem : read.threads ≡ k.threads
      threads_back_lem =
          part (λ a. a.threads) (λ t l. set l t (thread k t)) (λ _ _. refl)
          ∙ records_back touched no_thread thread_count k.threads (map (younger_thread c) k'.threads) Z.threads
          (length-map k'.threads _ ∙ Z'.threads)
          (λ t b e. get_or_map (younger_thread c) k'.threads t no_thread (rw Z'.threads b) ∙ untouched t e)

      module _ (F : LeftAlone k c k') where
        pub places-back : put_back_all read.out read.at k'.places ≡ k.places
        unfolding home_of
        places-back =
            let S = standing k Z R in
            table_back has_home no_thread refl thread_count (omega arith) touched k.threads k'.threads k.places k'.places
            Z.threads
            Z'.threads
            S.tidy_places S.placed (standing k' Z' R').placed F.places out (part (λ a. a.at) (λ t l. set l _ t) (λ _ _. refl))

        pub time-back : put_back_all read.out read.due k'.time ≡ k.time
        time-back =
            let S = standing k Z R in
            table_back (λ r. ltb 0 r.ticks) no_thread refl thread_count (omega arith) touched k.threads k'.threads k.time
            k'.time
            Z.threads Z'.threads
            S.tidy_time S.timed (standing k' Z' R').timed F.time out (part (λ a. a.due) (λ t l. set l _ t) (λ _ _. refl))
