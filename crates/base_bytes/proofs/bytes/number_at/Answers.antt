-- `base_bytes::bytes::number_at` meets its contract. The bytes are read from the last to the first: so far x is the number in those
-- from i on.
use Prim.Native.Nat.{◌+◌, ◌-◌, ◌*◌, ◌<◌, ◌≤◌, ◌^◌, min}
use mathlib.Core.Path.{◌≡◌, sym, ◌∙◌}
use native.Mathlib.Omega.{arith}
use lib.ListN.{get_or, drop}
use Rattle.base_bytes.specs.Bytes.{un}
use Rattle.base_bytes.proofs.Turns.{un_next, un_word}
use Rattle.base_bytes.proofs.bytes.number_at.Goals as goal
use Rattle.base_bytes.proofs.bytes.number_at.Goals.{In-loop-i}

-- with the byte before
step : (c : In-loop-i) → let p = c.min-start.result + (c.loop-i.i - 1) in
    un (min c.args.w 4 - (c.loop-i.i - 1)) (drop p c.args.s.now) ≡ 256 * c.loop-i.x + get_or c.args.s.now p 0
step c =
    let i = c.loop-i.i in
    let wide = min c.args.w 4 in
    let p = c.min-start.result + (i - 1) in
    rw c.loop-i.invariant
    (un_next c.args.s.now p (c.min-start.result + i) (wide - i) (wide - (i - 1)) (omega arith) (omega arith))

small : (c : In-loop-i) → 256 * c.loop-i.x + get_or c.args.s.now (c.min-start.result + (c.loop-i.i - 1)) 0 < 2 ^ 32
small c =
    let i = c.loop-i.i in
    let n : min c.args.w 4 - (i - 1) ≤ 4 = omega arith in
    rw (← step c) (un_word c.args.s.now (min c.args.w 4 - (i - 1)) (c.min-start.result + (i - 1)) n (λ j. (c.type_inv.s j).fits))

pub loop-i-init : goal.loop-i-init
unfolding un
loop-i-init c =
    let z : min c.args.w 4 - c.min-i.result ≡ 0 = omega arith in
    rw z

pub overflow_mul-x : goal.overflow_mul-x
overflow_mul-x c = omega (arith, small (goal.at.overflow_mul-x c).In-loop-i)

pub overflow_add-x : goal.overflow_add-x
overflow_add-x c = omega (arith, small (goal.at.overflow_add-x c).In-loop-i, c.byte_at.ensures, c.from.ensures)

pub loop-i-preserved : goal.loop-i-preserved
loop-i-preserved c = sym (step (goal.at.loop-i-preserved c).In-loop-i ∙ rw (c.from.ensures, c.byte_at.ensures))
