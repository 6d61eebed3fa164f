-- `code_rules::told::of_events` meets its contract: `untrue` tells of the i events passed.
use mathlib.Core.Path.{◌≡◌, ap}
use mathlib.Core.Bool.{not}
use native.Mathlib.Omega.{arith}
use Rattle.base_bits.proofs.Members.{tells_none}
use Rattle.spec_kernel.specs.Sizes.{event_count}
use Rattle.code_rules.proofs.Loops.{tells_more}
use Rattle.code_rules.proofs.told.of_events.Goals as goal

pub loop-i-init : goal.loop-i-init
loop-i-init c =
    tells_none _

pub loop-i-preserved : goal.loop-i-preserved
loop-i-preserved c =
    let l = c.loop-i in
    tells_more l.invariant (omega arith) c.joined-untrue.ensures (ap not c.is_true.ensures)

pub returns : goal.returns
returns c =
    let l = c.loop-i in
    let e : l.i ≡ event_count = omega arith in
    rw e at l.invariant
