-- `base_bytes::pens::put_all` meets its contract: what there is room for is written, and a full log takes no more.
use Prim.Native.Nat.{◌+◌}
use mathlib.Core.Path.{sym}
use native.Mathlib.Omega.{arith}
use borrow.Rule.Slice.PartMut.{Post-is}
use Rattle.base_bytes.proofs.Writing.{puts_full, puts_some}
use Rattle.base_bytes.proofs.pens.put_all.Goals as goal

pub returns-then-log-at : goal.returns-then-log-at
returns-then-log-at c = sym (puts_full c.args.log.now c.args.at c.args.bytes.now c.if-log-at.true)

pub returns : goal.returns
returns c =
    let l = c.args.log.now in
    let k = c.args.at in
    let n = c.min-n.result in
    rw (c.copy_from_slice.ensures.after, Post-is k (k + n) l (omega arith)) (sym (puts_some l k c.args.bytes.now n (omega arith) c.min-n.ensures))
