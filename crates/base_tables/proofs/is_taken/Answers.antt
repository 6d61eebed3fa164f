-- `base_tables::is_taken` meets its contract: the members passed are taken out of the set and their keys rise up to `low`, so the
-- rest decides.
use Prim.Native.Nat.{ℕ, ◌<◌}
use mathlib.Core.Path.{◌≡◌, sym, ◌∙◌}
use mathlib.Core.Bool.{true}
use native.Mathlib.Numerals.{add-one}
use native.Mathlib.Omega.{arith}
use lib.ListN.{get_or}
use lib.Seq.{drop-cons}
use borrow.Author.Tests.{le-leb}
use Rattle.base_bits.specs.Words.{has_bit}
use Rattle.base_bits.proofs.Laws.{one_shifted}
use Rattle.base_bits.proofs.Members.{has_within, has_large}
use Rattle.base_tables.proofs.is_taken.Goals as goal
use Rattle.base_tables.proofs.is_taken.Goals.{Else-not-has}

-- the member whose turn it is
abbrev next : Else-not-has → ℕ
next c = get_or c.args.members.now c.loop-x.x-index 0

there : (c : Else-not-has) → has_bit c.loop-x.left (next c) ≡ true
there c = sym c.has.ensures ∙ c.if-not-has.false

within : (c : Else-not-has) → next c < 64
within c = has_within c.loop-x.left 64 (omega arith) _ (there c)

pub bounds-keys-from : goal.bounds-keys-from
bounds-keys-from c = rw c.from.ensures (within (goal.at.bounds-keys-from c).Else-not-has)

pub overflow_shl-left : goal.overflow_shl-left
overflow_shl-left c = within (goal.at.overflow_shl-left c).Else-not-has

pub overflow_sub-left : goal.overflow_sub-left
overflow_sub-left c =
    let p = (goal.at.overflow_sub-left c).Else-not-has in
    rw (one_shifted 64 _ (within p)) (has_large _ _ (there p))

pub loop-x-preserved : goal.loop-x-preserved
loop-x-preserved c =
    let p = (goal.at.loop-x-preserved c).Else-not-has in
    let l = c.loop-x in
    let turn = drop-cons c.args.members.now l.x-index 0 c.loop-x-test.true in
    rw (one_shifted 64 _ (within p), add-one) (l.invariant ∙ rw (turn, there p, sym c.from.ensures, le-leb _ _ c.if-key-low.false))
