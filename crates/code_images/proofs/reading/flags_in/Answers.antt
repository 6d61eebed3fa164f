-- `code_images::reading::flags_in` meets its contract: two bytes fit.
use Prim.Native.Nat.{ℕ, ◌<◌}
use mathlib.Core.Path.{◌≡◌}
use mathlib.Core.List.{List}
use native.Mathlib.Omega.{arith}
use lib.ListN.{get_or}
use Rattle.base_bytes.specs.Bytes.{un}
use Rattle.base_bytes.proofs.Numbers.{un_small}
use Rattle.code_images.proofs.reading.flags_in.Goals as goal

pub overflow_cast-result : goal.overflow_cast-result
overflow_cast-result c =
    let s : List ℕ = c.args.s.now in
    let b : (i : ℕ) → get_or s i 0 < 256 = λ i. omega (arith, c.shared_slice_known-1.given i) in
    let e : c.number_at.result ≡ un 2 s = c.number_at.ensures in
    let h : un 2 s < 65536 = un_small 2 s b in
    omega (arith, e, h)
