-- `code_rules::told::of_threads` meets its contract: of the t threads passed `kept`, the sets and the keys tell, and the rest decides.
use mathlib.Core.Path.{◌≡◌, refl, ap, ◌∙◌}
use mathlib.Core.Bool.{Bool, ◌&&◌}
use native.Mathlib.Omega.{arith}
use Rattle.base_bits.proofs.Members.{tells_none}
use Rattle.base_tables.proofs.Takes.{keys_none, keys_next}
use Rattle.spec_kernel.specs.Records.{no_thread}
use Rattle.spec_kernel.specs.Sizes.{thread_count}
use Rattle.spec_rules.specs.Tests.{thread_kept}
use Rattle.code_rules_records.proofs.ByOthers.{thread_by_lem}
use Rattle.code_rules.proofs.Loops.{sweep_starts, sweep_next, sweep_ends, tells_more}
use Rattle.code_rules.proofs.told.of_threads.Goals as goal

pub loop-i-init : goal.loop-i-init
loop-i-init c =
    let l = c.args.threads.now in (
      λ semaphores events bits _. sweep_starts (thread_kept semaphores events bits c.args.flags) l,
      tells_none _,
      tells_none _,
      keys_none _ _ refl,
      keys_none _ _ refl,
    )

pub loop-i-preserved : goal.loop-i-preserved
loop-i-preserved c =
    let l = c.loop-i in (
      λ semaphores events bits o. sweep_next (l.invariant.0 semaphores events bits o) no_thread (omega arith)
          (ap (λ (x : Bool). l.kept && x) (c.thread_kept-kept.ensures ∙ thread_by_lem o _ _)),
      tells_more l.invariant.1 (omega arith) c.joined-homes.ensures c.has_home.ensures,
      tells_more l.invariant.2 (omega arith) c.joined-ticking.ensures refl,
      keys_next l.invariant.3 (omega arith) c.rank_of.ensures,
      keys_next l.invariant.4 (omega arith) refl,
    )

pub returns : goal.returns
returns c =
    let l = c.loop-i in
    let e : l.i ≡ thread_count = omega arith in
    record {
      full = c.told-threads;
      kept = λ semaphores events bits o. sweep_ends (l.invariant.0 semaphores events bits o) (omega arith);
      homes = rw e at l.invariant.1;
      ticking = rw e at l.invariant.2;
      ranks = rw e at l.invariant.3;
      ticks = rw e at l.invariant.4;
    }
