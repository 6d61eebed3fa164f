-- The kinds 31 to 34: device flags.
use Prim.Native.Nat.{ℕ}
use mathlib.Core.Path.{◌≡◌, refl, sym}
use mathlib.Core.Bool.{false, or-false}
use mathlib.Core.Logic.{inl, inr}
use native.Mathlib.Omega.{arith}
use lib.Dec.{eqb}
use borrow.Author.Tests.{eqb-false, lt-ltb}
use Rattle.base_bits.proofs.Laws.{undo_with, undo_without}
use Rattle.spec_kernel.specs.declared.records.Condition.TheVariants.{ForFlag}
use Rattle.spec_kernel.specs.declared.records.Kernel.{Kernel}
use Rattle.spec_kernel.specs.Sizes.{flag_count}
use Rattle.spec_kernel.specs.Conditions.{of_flags}
use Rattle.spec_kernel.specs.Places.{home}
use Rattle.spec_kernel.specs.Free.{free_flag}
use Rattle.spec_kernel.proofs.LowestClear.{clear_is_clear}
use Rattle.spec_calls.specs.declared.call.Call.{Call}
use Rattle.spec_calls.specs.Kinds.{kind_of, from_thread}
use Rattle.spec_refusals.specs.Named.{named, value_of}
use Rattle.spec_refusals.specs.Refusals.{none_free}
use Rattle.spec_threads.specs.Threads.{block}
use Rattle.spec_regions.specs.Regions.{pop_critical}
use Rattle.spec_flags.specs.Flags.{create_flag, destroy_flag, pend_flag, post_flag}
use Rattle.proof_rules.proofs.Ends.{sized, Before}
use Rattle.proof_rules.proofs.Accepted.{Accepted, flag_named}
use Rattle.proof_rules.proofs.OfFlags.{live_flag}
use Rattle.spec_notes.specs.Touched.{touched_thread, touched_message}
use Rattle.spec_notes.specs.Predicted.{predicted_flags}
use Rattle.spec_notes.proofs.Stays.{Left, quiet, block_left}
use Rattle.spec_notes.proofs.StaysAtWakings.{wakes_stay, line_wakes}

module _ {k : Kernel} (B : Before k) {c : Call} (A : Accepted k c) where
  -- the one that is made was the lowest free
  pub kind_31 : c.kind ≡ 31 → Left k c (create_flag k c)
  unfolding create_flag predicted_flags touched_thread touched_message none_free named value_of kind_of
  kind_31 e =
      let free : eqb (free_flag k) 255 ≡ false = simp (e, or-false) at A.free in
      let (_, clear) = clear_is_clear k.flags flag_count (eqb-false (free_flag k) 255 free) in
      record {
        threads = (refl, refl);
        posts = refl;
        bits = inl refl;
        flags = inr (rw e (sym (undo_with k.flags (free_flag k) clear)));
        uptime = rw e;
      }

  -- the one that goes was live
  pub kind_32 : c.kind ≡ 32 → Left k c (destroy_flag k c)
  unfolding destroy_flag predicted_flags touched_thread touched_message
  kind_32 e =
      let (b, set) = live_flag k c.a (flag_named A e refl) in
      record {
        threads = (refl, refl);
        posts = refl;
        bits = inl refl;
        flags = inl (rw (e, lt-ltb c.a flag_count b) (sym (undo_without k.flags c.a set)));
        uptime = rw e;
      }

  -- the caller blocks, whatever the levels are
  pub kind_33 : c.kind ≡ 33 → Left k c (pend_flag k c)
  unfolding pend_flag pop_critical block touched_thread touched_message from_thread kind_of
  kind_33 e =
      let L = block_left B A (refl, refl) (rw e) (ForFlag c.a) c.c refl e in
      record { threads = L.threads; posts = L.posts; bits = L.bits; flags = L.flags; uptime = L.uptime }

  pub kind_34 : c.kind ≡ 34 → Left k c (post_flag k c)
  unfolding post_flag
  kind_34 e =
      let (b, _) = live_flag k c.a (flag_named A e refl) in
      quiet (refl, refl) (refl, refl, refl)
      (wakes_stay B.core c (post_flag k c)
      (line_wakes B.core.standing (sized B.core).priorities (home of_flags c.a) (omega arith) (omega arith))) refl e
