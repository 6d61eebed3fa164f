-- `base_bytes::pens::put_number` meets its contract: what is still to write are the lowest bytes of `rest`.
use Prim.Native.Nat.{◌+◌, ◌-◌}
use mathlib.Core.Path.{◌≡◌, sym, ◌∙◌}
use native.Mathlib.Omega.{arith}
use Rattle.base_bytes.specs.Bytes.{le}
use Rattle.base_bytes.specs.Pens.{puts}
use Rattle.base_bytes.proofs.Turns.{le_next}
use Rattle.base_bytes.proofs.pens.put_number.Goals as goal

pub loop-preserved : goal.loop-preserved
unfolding puts
loop-preserved c =
    let l = c.loop in
    l.invariant ∙ rw (le_next (c.args.w - l.counter) (c.args.w - (l.counter + 1)) l.rest (omega arith), c.put_byte-p.ensures)

pub returns : goal.returns
unfolding puts le
returns c =
    let z : c.args.w - c.loop.counter ≡ 0 = omega arith in
    sym (c.loop.invariant ∙ rw z)
