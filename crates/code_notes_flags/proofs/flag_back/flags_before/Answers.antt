-- `code_notes_flags::flag_back::flags_before` meets its contract: an empty section tells nothing, and else its first byte is cleared.
use mathlib.Core.Path.{◌≡◌, refl, sym}
use mathlib.Core.Bool.{true, false}
use mathlib.Core.List.{List, [], ◌∷◌}
use Prim.Native.Nat.{ℕ}
use native.Mathlib.Omega.{arith}
use lib.ListN.{get_or}
use Rattle.std.proofs.Common.{Some, None, slice_get}
use Rattle.base_bits.proofs.Laws.{without_small}
use Rattle.base_queue.specs.Lists.{is_empty}
use Rattle.spec_notes.specs.Back.{flags_before}
use Rattle.code_notes_flags.proofs.flag_back.flags_before.Goals as goal

none : (l : List ℕ) → slice_get l 0 ≡ None → is_empty l ≡ true
none [] h = refl
none (x ∷ l) h = cc

some : (l : List ℕ) (x : ℕ) → slice_get l 0 ≡ Some x → (is_empty l ≡ false) × (get_or l 0 0 ≡ x)
some [] x h = cc
some (y ∷ l) x h = (refl, cc)

pub overflow_cast-result : goal.overflow_cast-result
overflow_cast-result c =
    let told = c.predicted-told in
    omega (arith, c.without_bit.ensures, without_small told.result c.in-Some.id.now told.type_inv)

pub returns-in-None : goal.returns-in-None
unfolding flags_before
returns-in-None c = rw (none c.args.s.now (sym c.in-None.ensures.value)) c.predicted-told.ensures

pub returns-in-Some : goal.returns-in-Some
unfolding flags_before
returns-in-Some c =
    let e = some c.args.s.now c.in-Some.id.now (sym c.in-Some.ensures.value) in
    rw (e.0, e.1, ← c.predicted-told.ensures) c.without_bit.ensures
