-- A call that is accepted: no refusal applies.
use Prim.Native.Nat.{ℕ, ◌≤◌}
use mathlib.Core.Path.{◌≡◌, refl, sym}
use mathlib.Core.Bool.{Bool, true, false, ◌||◌, false≢true}
use mathlib.Core.Logic.{◌↔◌}
use lib.Dec.{ltb}
use lib.ListN.{get_or}
use borrow.Author.Tests.{eqb-false, ltb-false, not-false}
use Rattle.spec_kernel.specs.declared.records.Kernel.{Kernel}
use Rattle.spec_kernel.specs.Records.{thread, semaphore, message, flag}
use Rattle.spec_calls.specs.declared.call.Call.{Call}
use Rattle.spec_calls.specs.declared.kinds.Kind.{Kind}
use Rattle.spec_calls.specs.Kinds.{no_kind, kinds, kind_of, names, id_named, from_thread}
use Rattle.spec_refusals.specs.Named.{named}
use Rattle.spec_refusals.specs.Refusals.{unknown, interrupts_off, no_caller, bad_number, bad_id}
use Rattle.spec_refusals.specs.Refusals.{is_in_channel, not_owner, has_waiters, not_periodic, pops_nothing}
use Rattle.spec_refusals.specs.Refusals.{blocks_in_region, none_free, outside, number_of}
use Rattle.spec_refusals.proofs.TableOrder.{accepted_exactly_lem}

pub record Accepted (k : Kernel) (c : Call) : Type 0 where
  pub known : unknown c ≡ false
  pub interrupts : interrupts_off k.critical c ≡ false
  pub caller : no_caller k.runner c ≡ false
  pub numbers : bad_number c ≡ false
  pub ids : bad_id (named k c) c ≡ false
  pub held : is_in_channel (named k c) c ≡ false
  pub owner : not_owner k.runner (named k c) c ≡ false
  pub waiters : has_waiters (named k c) c ≡ false
  pub periodic : not_periodic (named k c) c ≡ false
  pub level : pops_nothing k.unscheduled k.critical c ≡ false
  pub region : blocks_in_region k.unscheduled k.critical k.runner (named k c) c ≡ false
  pub free : none_free k.unscheduled k.critical (named k c) c ≡ false

pub accepted : (k : Kernel) (c : Call) → number_of k c ≡ 0 → Accepted k c
accepted k c h =
    let at = (accepted_exactly_lem k c).0 h in
    record {
      known = at 0;
      interrupts = at 1;
      caller = at 2;
      numbers = at 3;
      ids = at 4;
      held = at 5;
      owner = at 6;
      waiters = at 7;
      periodic = at 8;
      level = at 9;
      region = at 10;
      free = at 11;
    }

pub neither : (a b : Bool) → a || b ≡ false → (a ≡ false) × (b ≡ false)
neither true b h = absurd (false≢true (sym h))
neither false b h = (refl, h)

none_iff : (a b : Bool) → (a || b ≡ false) ↔ ((a ≡ false) × (b ≡ false))
none_iff a b = (neither a b, λ h. rw h.0 h.1)

-- a number in its range
pub inside : (low high n : ℕ) → outside low high n ≡ false → (low ≤ n) × (n ≤ high)
inside low high n h = let (l, u) = neither (ltb n low) (ltb high n) h in (ltb-false n low l, ltb-false high n u)

-- a thread's call comes while one runs
pub called : {k : Kernel} {c : Call} → Accepted k c → from_thread c ≡ true → k.runner ≡ 255 → ⊥
unfolding no_caller
called {k} A e = eqb-false k.runner 255 (rw e at A.caller)

-- ---- what a call of kind n names is live
module _ {k : Kernel} {c : Call} (A : Accepted k c) {n : ℕ} (e : c.kind ≡ n) where
  abbrev kind : Kind
  kind = get_or kinds n no_kind

  of_kind : kind_of c ≡ kind
  unfolding kind_of
  of_kind = rw e

  pub thread_named : names kind.thread ≡ true → (thread k (id_named kind.thread c)).live ≡ true
  unfolding bad_id named
  thread_named h =
      let (l, _) = simp (none_iff, of_kind) at A.ids in
      not-false (thread k (id_named kind.thread c)).live (rw h at l)

  pub semaphore_named : names kind.semaphore ≡ true → (semaphore k c.a).live ≡ true
  unfolding bad_id named
  semaphore_named h = let (_, (l, _)) = simp (none_iff, of_kind) at A.ids in not-false (semaphore k c.a).live (rw h at l)

  pub message_named : names kind.message ≡ true → (message k c.a).live ≡ true
  unfolding bad_id named
  message_named h = let (_, (_, (_, (_, (l, _))))) = simp (none_iff, of_kind) at A.ids in not-false (message k c.a).live (rw h at l)

  pub flag_named : names kind.flag ≡ true → flag k c.a ≡ true
  unfolding bad_id named
  flag_named h = let (_, (_, (_, (_, (_, (l, _)))))) = simp (none_iff, of_kind) at A.ids in not-false (flag k c.a) (rw h at l)
