-- What the types of a thread's fields give.
use Prim.Native.Nat.{◌<◌}
use mathlib.Core.List.{List}
use native.Mathlib.Omega.{arith}
use denote.Shadow.{shadow}
use mir.Val.{Val}
use Rattle.spec_kernel.specs.contracts.records.Condition.{the_type, the_field}
use Rattle.spec_kernel.specs.declared.records.Condition.{Condition}
use Rattle.spec_kernel.specs.declared.records.Condition.TheVariants.{Ready, Asleep, ForSemaphore, ForEvent, ForMessage, ForFlag}
use Rattle.spec_notes.specs.Rows.{condition_data}

pub data_typed : (x : Condition) (vs : List Val) → shadow (the_field.row.own_val (the_type.to x) vs) → condition_data x < 65536
data_typed Ready vs h = omega arith
data_typed Asleep vs h = omega arith
data_typed (ForSemaphore i) vs h = omega (arith, h)
data_typed (ForEvent i) vs h = omega (arith, h)
data_typed (ForMessage mask) vs h = omega (arith, h)
data_typed (ForFlag i) vs h = omega (arith, h)
