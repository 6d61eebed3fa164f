-- Device flags: made and unmade, pended and posted, as spec_laws says it.
use mathlib.Core.Path.{◌≡◌, refl, sym, ◌∙◌}
use mathlib.Core.Bool.{true, false, and-false}
use Prim.Native.Nat.{ℕ, ◌-◌, ◌≤◌, ◌<◌}
use native.Mathlib.Omega.{arith}
use borrow.Author.Tests.{lt-ltb}
use Rattle.base_bits.specs.Words.{with_bit, without_bit}
use Rattle.base_bits.proofs.Laws.{bit_same, bit_gone, bit_other, bit_other_without}
use Rattle.base_queue.proofs.Counts.{keep_all}
use Rattle.spec_kernel.specs.declared.records.Condition.TheVariants.{ForFlag}
use Rattle.spec_kernel.specs.declared.records.Wake.{Wake}
use Rattle.spec_kernel.specs.declared.records.Thread.{Thread}
use Rattle.spec_kernel.specs.declared.records.Kernel.{Kernel}
use Rattle.spec_kernel.specs.Sizes.{flag_count}
use Rattle.spec_kernel.specs.Records.{thread, flag}
use Rattle.spec_kernel.specs.Conditions.{of_flags}
use Rattle.spec_kernel.specs.Places.{home, at_home, flag_queue}
use Rattle.spec_kernel.specs.Free.{free_flag}
use Rattle.spec_kernel.proofs.LowestClear.{clear_is_clear, clear_is_lowest}
use Rattle.spec_moves.specs.Standing.{threads_of, Standing}
use Rattle.spec_calls.specs.declared.call.Call.{Call}
use Rattle.spec_moves.specs.States.{with_flags}
use Rattle.spec_threads.specs.Threads.{woken_in, wake_in}
use Rattle.spec_threads.proofs.LawsOfLists.{keep_none}
use Rattle.spec_threads.proofs.LawsOfHomes.{Runnable, line_home, line_absent}
use Rattle.spec_threads.proofs.LawsOfWaking.{AllWoken, each_woken, Bytes, line_called}
use Rattle.spec_threads.proofs.LawsOfBlocking.{block_blocks}
use Rattle.spec_regions.specs.Regions.{pop_critical}
use Rattle.spec_regions.proofs.LawsOfRegions.{pop_critical_lem}
use Rattle.spec_laws.specs.Words.{OnlyFlag}
use Rattle.spec_laws.specs.OfRegions.{Levels}
use Rattle.spec_laws.specs.OfFlags.{MadeFlag, CreatedFlag, PendedFlag, PostedFlag}
use Rattle.spec_flags.specs.Flags.{create_flag, destroy_flag, pend_flag, post_flag}

-- the word of flags changes in one bit
only_flag : (k : Kernel) (i word : ℕ) → ((j : ℕ) → (j ≡ i → ⊥) → flag (with_flags word k) j ≡ flag k j) → OnlyFlag i k (with_flags word k)
only_flag k i word others = record {
  others = others;
  threads = record { records = refl; places = refl; time = refl };
  semaphores = refl;
  events = record { records = refl; bits = refl };
  messages = record { records = refl; posted = refl };
  scheduler = record { uptime = refl; unscheduled = refl; critical = refl; runner = refl };
}

module _ (k : Kernel) (c : Call) where
  -- ---- kind 31
  pub create_flag_creates : (free_flag k ≡ 255 → ⊥) → CreatedFlag (free_flag k) k (create_flag k c)
  unfolding create_flag
  create_flag_creates some =
      let (inside, clear) = clear_is_clear k.flags flag_count some in
      record {
        inside = inside;
        free = rw (clear, and-false);
        lowest = λ j b. rw (lt-ltb j flag_count (omega (arith, inside)), clear_is_lowest k.flags flag_count some j b);
        made = record {
          made = rw (lt-ltb (free_flag k) flag_count inside, bit_same k.flags (free_flag k) (omega (arith, inside)));
          only =
              only_flag k (free_flag k) (with_bit k.flags (free_flag k))
              (λ j ne. rw (bit_other k.flags (free_flag k) j (λ e. ne (sym e))));
        };
      }

  -- ---- kind 32
  pub destroy_flag_clears : MadeFlag c.a false k (destroy_flag k c)
  unfolding destroy_flag
  destroy_flag_clears = record {
    made = rw (bit_gone k.flags c.a, and-false);
    only = only_flag k c.a (without_bit k.flags c.a) (λ j ne. rw (bit_other_without k.flags c.a j (λ e. ne (sym e))));
  }

  module _ (S : Standing (threads_of k)) where
    -- ---- kind 33
    pub pend_flag_pends : k.unscheduled ≡ 0 → k.critical ≡ 1 → Runnable (thread k k.runner) → PendedFlag c.a c.c k (pend_flag k c)
    unfolding pend_flag pop_critical
    pend_flag_pends u e R = record {
      out = pop_critical k c;
      ends = ended k.unscheduled (k.critical - 1) u (omega arith) (pop_critical_lem k c);
      blocks = block_blocks (pop_critical k c) S R (ForFlag c.a) c.c refl (omega arith);
    }
      where
        ended : (unscheduled critical : ℕ) → unscheduled ≡ 0 → critical ≡ 0 → Levels unscheduled critical k (pop_critical k c)
            → Levels 0 0 k (pop_critical k c)
        ended unscheduled critical u e L = rw (u, e) at L

    -- ---- kind 34
    module _ (B : Bytes (threads_of k)) where
      abbrev as_met : Thread → Wake
      as_met r = Wake.Met

      all_woken : AllWoken as_met (flag_queue k c.a) (threads_of k) (threads_of (post_flag k c))
      unfolding post_flag woken_in wake_in
      all_woken = each_woken as_met (flag_queue k c.a) S (line_called S B (home of_flags c.a) (omega arith))

      pub post_flag_posts : PostedFlag c.a k (post_flag k c)
      unfolding post_flag
      post_flag_posts = record {
        nobody = all_woken.queues (home of_flags c.a) (omega arith) ∙ keep_none (flag_queue k c.a) (λ t m. rw (lt-ltb 0 _ m));
        queues = λ h b ne. all_woken.queues h b
            ∙ keep_all (at_home k h) (λ t m. rw (line_absent S t (home of_flags c.a) (λ z. ne (sym (line_home S t h m) ∙ z))));
        lists = all_woken.lists;
        time = all_woken.time;
        woken = all_woken.woken;
        others = all_woken.others;
        only = record {
          semaphores = refl;
          events = record { records = refl; bits = refl };
          flags = refl;
          messages = record { records = refl; posted = refl };
          scheduler = record { uptime = refl; unscheduled = refl; critical = refl; runner = refl };
        };
      }
