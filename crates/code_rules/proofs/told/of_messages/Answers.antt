-- `code_rules::told::of_messages` meets its contract: of the m messages passed `kept`, the set and the keys tell, and the rest decides.
use Prim.Native.Nat.{◌%◌}
use mathlib.Core.Path.{◌≡◌, refl, ap, ◌∙◌}
use mathlib.Core.Bool.{Bool, ◌&&◌}
use native.Mathlib.Nat.{mod-eq_of_lt}
use native.Mathlib.Omega.{arith}
use lib.ListN.{get_or}
use Rattle.base_bits.proofs.Members.{tells_none}
use Rattle.base_tables.proofs.Takes.{keys_none, keys_next}
use Rattle.spec_kernel.specs.Records.{no_thread, no_message}
use Rattle.spec_kernel.specs.Sizes.{thread_count, message_count}
use Rattle.spec_rules.specs.Tests.{message_kept}
use Rattle.code_rules_records.specs.Others.{Owner}
use Rattle.code_rules_records.proofs.ByOthers.{message_by_lem}
use Rattle.code_rules.proofs.Loops.{sweep_starts, sweep_next, sweep_ends, tells_more}
use Rattle.code_rules.proofs.told.of_messages.Goals as goal

pub loop-i-init : goal.loop-i-init
loop-i-init c =
    (sweep_starts (message_kept c.args.threads.now) c.args.messages.now, tells_none _, keys_none _ _ refl)

pub loop-i-preserved : goal.loop-i-preserved
loop-i-preserved c =
    let l = c.loop-i in
    let a = c.args in
    let r = get_or a.messages.now l.i no_message in
    let o : Owner a.threads.now (get_or a.threads.now (r.owner % thread_count) no_thread) r =
    record { full = c.told-threads; there = λ h. rw (mod-eq_of_lt h) } in (
      sweep_next l.invariant.0 no_message (omega arith)
          (ap (λ (x : Bool). l.kept && x) (c.message_kept-kept.ensures ∙ message_by_lem o)),
      tells_more l.invariant.1 (omega arith) c.joined-queued.ensures c.is_queued.ensures,
      keys_next l.invariant.2 (omega arith) c.stream_of.ensures,
    )

pub returns : goal.returns
returns c =
    let l = c.loop-i in
    let e : l.i ≡ message_count = omega arith in
    record
    { full = c.told-messages; kept = sweep_ends l.invariant.0 (omega arith); queued = rw e at l.invariant.1; streams = rw e at l.invariant.2 }
