-- `replay::logs::append` meets its contract: the part is what was written, from the used length on; on a refusal it is empty.
use Prim.Native.Nat.{◌≤◌}
use mathlib.Core.Path.{◌≡◌, refl, sym, ap}
use native.Mathlib.Omega.{arith}
use lib.ListN.{length}
use Rattle.spec_answers.specs.declared.Logged.{Logged}
use Rattle.spec_answers.specs.Logs.{called_with}
use Rattle.spec_answers.proofs.WithLogs.{appends}
use Rattle.replay.proofs.LogParts.{part_between, part_still, part_moved}
use Rattle.replay.proofs.logs.append.Goals as goal
use Rattle.replay.proofs.logs.append.Goals.{After-called-end}

-- the used length that the call left
used_is : (c : After-called-end) → let a = c.args in
    c.called-end.result.used ≡ (called_with a.k a.bytes a.log.now a.used).used
used_is c = ap (λ (x : Logged). x.used) c.called-end.ensures.result

pub returns-then-end-used : goal.returns-then-end-used
returns-then-end-used c =
    let a = c.args in
    let e = used_is (goal.at.returns-then-end-used c).After-called-end in
    let n = sym (part_still a.k a.bytes a.log.now a.used (rw (← e) c.if-end-used.true)) in
    (rw n (appends a.k a.bytes a.log.now a.used), λ h. absurd (omega arith))

pub slice_bounds-log-end-2 : goal.slice_bounds-log-end-2
slice_bounds-log-end-2 c =
    let a = c.args in
    let e = used_is (goal.at.slice_bounds-log-end-2 c).After-called-end in
    let h : c.called-end.result.used ≤ length a.log.now =
    rw e (part_moved a.k a.bytes a.log.now a.used (rw (← e) c.if-end-used.false)) in
    omega (arith, c.called-end.auto.log)

pub returns : goal.returns
returns c =
    let a = c.args in
    let e = used_is (goal.at.returns c).After-called-end in
    let between = part_between a.k a.bytes a.log.now a.used in
    (rw (c.called-end.ensures.written, e, between) (appends a.k a.bytes a.log.now a.used), λ _. refl)
