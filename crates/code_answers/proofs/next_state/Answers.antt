use Prim.Native.Nat.{ℕ}
use mathlib.Core.Path.{◌≡◌, ap, ◌∙◌}
use Rattle.spec_kernel.specs.declared.records.Kernel.{Kernel}
use Rattle.base_queue.specs.Lists.{first_of}
use Rattle.base_queue.specs.Queues.{items}
use Rattle.spec_kernel.specs.Records.{thread}
use Rattle.spec_kernel.specs.Runner.{chosen}
use Rattle.code_kernel.specs.RunnerOf.{runner_of}
use Rattle.spec_moves.specs.States.{with_runner, scheduled}
use Rattle.code_answers.proofs.next_state.Goals as goal

-- the next state, from who runs in the state that the effect leaves
runs : (u : Kernel) (t : ℕ)
    → t ≡ runner_of u.unscheduled u.critical u.runner (first_of (items u.places)) (thread u (first_of (items u.places)))
    → with_runner t u ≡ scheduled u
unfolding runner_of scheduled chosen
runs u t e = rw e

pub returns : goal.returns
returns c =
    let u : Kernel = c.effect-next.result in
    runs u c.runner_of.result (c.runner_of.ensures ∙ rw (c.thread_at-r.ensures, c.first-first.ensures))
    ∙ ap scheduled c.effect-next.ensures
