-- `code_flags::create_flag` meets its contract.
use Prim.Native.Nat.{◌<◌, ◌^◌}
use Rattle.spec_flags.specs.Flags.{create_flag}
use Rattle.code_flags.proofs.Words.{made_fits}
use Rattle.code_flags.proofs.create_flag.Goals as goal
use Rattle.code_flags.proofs.create_flag.Goals.{After-free_flag-i}

small : (c : After-free_flag-i) → c.args.k.flags < 2 ^ 16
small c = c.well_formed.0.1.1.1.1.1.1.1.1.1.1.1.1.1.1.0.1

pub overflow_cast-result : goal.overflow_cast-result
overflow_cast-result c = record { fits = rw (c.with_bit.ensures, c.free_flag-i.ensures) (made_fits _ (small (goal.at.overflow_cast-result c).After-free_flag-i)) }

pub returns : goal.returns
unfolding create_flag
returns c = rw (c.with_bit.ensures, c.free_flag-i.ensures)
