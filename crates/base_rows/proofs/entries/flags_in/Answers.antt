-- `base_rows::entries::flags_in` meets its contract: the test is that of `flags_in`.
use Prim.Native.Nat.{◌/◌, ◌%◌}
use mathlib.Core.Path.{◌≡◌, ◌∙◌}
use native.Mathlib.Omega.{arith}
use lib.ListN.{get_or}
use lib.Seq.{get_or-drop}
use borrow.Author.Tests.{ne_eqb}
use Rattle.base_rows.specs.Entries.{flags_in}
use Rattle.base_rows.proofs.entries.flags_in.Goals as goal

pub returns-then-head-eq1 : goal.returns-then-head-eq1
unfolding flags_in
returns-then-head-eq1 c =
    let s = c.args.e.now in
    let b = c.byte_at-head.ensures in
    let e : get_or s 0 0 / 128 % 2 ≡ 1 = omega (arith, b, c.if-head-eq1.true) in
    rw (e, get_or-drop) (c.byte_at.ensures ∙ rw (c.from.ensures, c.flags_from.ensures, b))

pub returns-else-head-eq1 : goal.returns-else-head-eq1
unfolding flags_in
returns-else-head-eq1 c =
    let s = c.args.e.now in
    rw (ne_eqb (get_or s 0 0 / 128 % 2) 1 (λ z. c.if-head-eq1.false (omega (arith, c.byte_at-head.ensures, z))))
