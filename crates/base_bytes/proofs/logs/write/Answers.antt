-- `base_bytes::logs::write` meets its contract: both tests together are that of `room`, and with room the pen writes all.
use Prim.Native.Nat.{◌+◌, ◌≤◌, ◌<◌}
use mathlib.Core.Path.{sym, ap, ◌∙◌}
use native.Mathlib.Omega.{arith}
use lib.ListN.{length}
use borrow.Author.Tests.{ltb-true, ltb-false}
use Rattle.base_bytes.proofs.Writing.{puts_room}
use Rattle.base_bytes.proofs.Appending.{noted_room, noted_none, ends_room, ends_none}
use Rattle.base_bytes.proofs.logs.write.Goals as goal
use Rattle.base_bytes.proofs.logs.write.Goals.{Then-log-used-2, Else-log-used-2, then-log-used, else-log-used}

full : (c : Then-log-used-2) → length c.args.log.now < c.args.used + length c.args.note.now
full c =
    elim c.if-log-used.branch [
      | then-log-used w ↦ omega arith
      | else-log-used w ↦ let h = ltb-true _ _ (sym w.value-is ∙ c.if-log-used-2.true) in omega (arith, h)
    ]

room : (c : Else-log-used-2) → c.args.used + length c.args.note.now ≤ length c.args.log.now
room c =
    elim c.if-log-used.branch [
      | then-log-used w ↦ absurd (omega arith)
      | else-log-used w ↦ let h = ltb-false _ _ (sym w.value-is ∙ c.if-log-used-2.false) in omega (arith, h)
    ]

pub returns-then-log-used-2 : goal.returns-then-log-used-2
returns-then-log-used-2 c =
    let h = full c in
    (sym (noted_none c.args.log.now c.args.used c.args.note.now h), sym (ends_none c.args.log.now c.args.used c.args.note.now h))

pub returns-else-log-used-2 : goal.returns-else-log-used-2
returns-else-log-used-2 c =
    let a = c.args in
    let h = room (goal.at.returns-else-log-used-2 c).Else-log-used-2 in
    let e = c.put_all.ensures ∙ puts_room a.log.now a.used a.note.now h in (
      ap (λ p. p.log) e ∙ sym (noted_room a.log.now a.used a.note.now h),
      ap (λ p. p.at) e ∙ sym (ends_room a.log.now a.used a.note.now h),
    )
