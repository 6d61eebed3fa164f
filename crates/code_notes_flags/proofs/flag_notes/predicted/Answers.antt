-- `code_notes_flags::flag_notes::predicted` meets its contract: sixteen bits hold a flag more.
use native.Mathlib.Omega.{arith}
use Rattle.base_bits.proofs.Laws.{with_below}
use Rattle.spec_kernel.specs.Sizes.{flag_count}
use Rattle.code_notes_flags.proofs.flag_notes.predicted.Goals as goal

pub overflow_cast-result : goal.overflow_cast-result
overflow_cast-result c =
    let a = c.args in
    omega (arith, c.with_bit.ensures, with_below a.flags a.c.a {n = flag_count} c.if-c-lt-FLAG_IDS.true c.well_formed.1.0.1)
