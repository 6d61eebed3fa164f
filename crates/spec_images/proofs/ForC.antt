-- An answer as one number reads back.
use native.Mathlib.Omega.{arith}
use Rattle.spec_images.specs.ForC.{Unpacked}

pub unpacked : Unpacked
unfolding Unpacked
unpacked x a b c = (omega arith, omega arith, omega arith)
