-- `base_rows::entries::code_in` meets its contract: the test is that of `code_in`.
use Prim.Native.Nat.{◌/◌, ◌%◌}
use mathlib.Core.Path.{◌≡◌}
use native.Mathlib.Omega.{arith}
use lib.ListN.{get_or}
use lib.Seq.{get_or-drop}
use borrow.Author.Tests.{ne_eqb}
use Rattle.base_rows.specs.Entries.{code_in}
use Rattle.base_rows.proofs.entries.code_in.Goals as goal

pub returns-then-byte_at-eq1 : goal.returns-then-byte_at-eq1
unfolding code_in
returns-then-byte_at-eq1 c =
    let s = c.args.e.now in
    let e : get_or s 0 0 / 64 % 2 ≡ 1 = omega (arith, c.byte_at.ensures, c.if-byte_at-eq1.true) in
    rw (e, get_or-drop) c.byte_at-then-byte_at-eq1.ensures

pub returns-else-byte_at-eq1 : goal.returns-else-byte_at-eq1
unfolding code_in
returns-else-byte_at-eq1 c =
    let s = c.args.e.now in
    rw (ne_eqb (get_or s 0 0 / 64 % 2) 1 (λ z. c.if-byte_at-eq1.false (omega (arith, c.byte_at.ensures, z))))
