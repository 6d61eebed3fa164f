-- `code_time::tick` meets its contract: time passes, the periodic semaphores come after it, and the uptime changes nothing in either.
use mathlib.Core.Path.{ap, ◌∙◌}
use Rattle.spec_kernel.specs.Sizes.{semaphore_count}
use Rattle.spec_moves.specs.declared.parts.Threads.{Threads}
use Rattle.spec_moves.specs.States.{with_threads, with_uptime}
use Rattle.spec_time.specs.Time.{later, time_passes, pulse_from, tick}
use Rattle.code_time.proofs.tick.Goals as goal

pub returns : goal.returns
unfolding tick
returns c =
    let k = c.args.k in
    let after = with_uptime (later k.uptime) k in
    rw (c.later.ensures, c.with_waiting.ensures)
    (c.pulses.ensures after
    ∙ ap (λ (p : Threads). pulse_from 0 semaphore_count (with_threads p after))
    (c.time_passes.ensures ∙ ap time_passes c.threads_of.ensures))
