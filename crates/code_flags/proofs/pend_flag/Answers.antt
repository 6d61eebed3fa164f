-- `code_flags::pend_flag` meets its contract: the level is taken off, and then the caller blocks.
use mathlib.Core.Path.{ap, ◌∙◌}
use Rattle.spec_kernel.specs.declared.records.Condition.TheVariants.{ForFlag}
use Rattle.spec_kernel.specs.declared.records.Kernel.{Kernel}
use Rattle.spec_threads.specs.Threads.{block}
use Rattle.spec_flags.specs.Flags.{pend_flag}
use Rattle.code_flags.proofs.pend_flag.Goals as goal

pub returns : goal.returns
unfolding pend_flag
returns c =
    let a = c.args in
    c.block.ensures ∙ ap (λ (u : Kernel). block (ForFlag a.c.a) a.c.c u) c.pop_critical-out.ensures
