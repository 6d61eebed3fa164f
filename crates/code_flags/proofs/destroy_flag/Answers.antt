-- `code_flags::destroy_flag` meets its contract.
use Prim.Native.Nat.{◌<◌, ◌^◌}
use Rattle.base_bits.proofs.Laws.{without_small}
use Rattle.spec_flags.specs.Flags.{destroy_flag}
use Rattle.code_flags.proofs.destroy_flag.Goals as goal
use Rattle.code_flags.proofs.destroy_flag.Goals.{Start}

small : (c : Start) → c.args.k.flags < 2 ^ 16
small c = c.well_formed.0.1.1.1.1.1.1.1.1.1.1.1.1.1.1.0.1

pub overflow_cast-result : goal.overflow_cast-result
overflow_cast-result c = record { fits = rw c.without_bit.ensures (without_small _ _ (small (goal.at.overflow_cast-result c).Start)) }

pub returns : goal.returns
unfolding destroy_flag
returns c = rw c.without_bit.ensures
