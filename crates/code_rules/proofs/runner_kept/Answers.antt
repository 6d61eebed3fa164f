-- `code_rules::runner_kept` meets its contract: past the first two tests a level is held.
use Prim.Native.Nat.{ℕ, ◌+◌}
use mathlib.Core.Path.{◌≡◌, ap, ◌∙◌}
use native.Mathlib.Omega.{arith}
use borrow.Author.Tests.{eq-eqb, ne_eqb}
use Rattle.spec_kernel.specs.declared.records.Thread.{Thread}
use Rattle.spec_kernel.specs.declared.records.Kernel.{Kernel}
use Rattle.spec_kernel.specs.Records.{thread}
use Rattle.spec_kernel.specs.Conditions.{is_ready}
use Rattle.spec_kernel.specs.Runner.{chosen}
use Rattle.spec_rules.specs.Tests.{runner_kept}
use Rattle.code_kernel.specs.RunnerOf.{runner_of}
use Rattle.code_rules.proofs.runner_kept.Goals as goal
use Rattle.code_rules.proofs.runner_kept.Goals.{After-runner_of}
use Rattle.code_rules.proofs.runner_kept.Goals.{else-k-eq0-via-then-k-eq0+else-k-eq0-2, else-k-eq0-via-else-k-eq0}

-- who is chosen, from the first place and its record
first_chosen : (c : After-runner_of)
    → c.runner_of.result ≡ chosen c.args.k.now
unfolding chosen runner_of
first_chosen c =
    let k : Kernel = c.args.k.now in
    c.runner_of.ensures ∙ ap (λ (r : Thread). runner_of 0 0 255 c.first-first.result r) c.thread_at-its.ensures
    ∙ ap (λ (x : ℕ). runner_of 0 0 255 x (thread k x)) c.first-first.ensures

pub returns-then-k-eq0-2 : goal.returns-then-k-eq0-2
unfolding runner_kept
returns-then-k-eq0-2 c =
    let k : Kernel = c.args.k.now in
    rw (eq-eqb (k.unscheduled + k.critical) 0 (omega arith), first_chosen (goal.at.returns-then-k-eq0-2 c).After-runner_of)

pub returns : goal.returns
unfolding runner_kept
returns c =
    let k : Kernel = c.args.k.now in
    let held : k.unscheduled + k.critical ≡ 0 → ⊥ = λ e.
    elim c.else-k-eq0.branch [
      | else-k-eq0-via-then-k-eq0+else-k-eq0-2 w ↦ w.if-k-eq0-2.false (omega arith)
      | else-k-eq0-via-else-k-eq0 w ↦ w.if-k-eq0.false (omega arith)
    ] in
    rw (ne_eqb _ _ held) (c.is_ready.ensures ∙ ap is_ready c.thread_at.ensures)
