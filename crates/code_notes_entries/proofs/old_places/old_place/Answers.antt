-- `code_notes_entries::old_places::old_place` meets its contract: who stands in the queue has a place below its size, which is at most 64.
use Prim.Native.Nat.{◌≤◌, ◌<◌}
use mathlib.Core.Path.{◌≡◌, sym, ◌∙◌}
use mathlib.Core.Bool.{true, false}
use native.Mathlib.Omega.{arith}
use lib.ListN.{length}
use borrow.Author.Rules.{rules}
use borrow.Author.Tests.{lt-ltb, le-ltb}
use Rattle.base_queue.specs.Lists.{place_of, has}
use Rattle.base_queue.specs.Queues.{items}
use Rattle.base_queue.proofs.Lists.{has_place}
use Rattle.base_queue.proofs.Queues.{length_items}
use Rattle.code_notes_entries.proofs.old_places.old_place.Goals as goal

pub returns-else-i-size : goal.returns-else-i-size
returns-else-i-size c =
    let a = c.args in
    let h : length (items a.q) ≤ place_of a.x (items a.q) =
    omega (arith, c.if-i-size.false, c.size.ensures, c.place_of-i.ensures) in
    let e : has a.x (items a.q) ≡ false = sym (has_place a.x (items a.q)) ∙ le-ltb _ _ h in
    rw e

pub overflow_cast-result : goal.overflow_cast-result
overflow_cast-result c =
    let a = c.args in
    omega (arith, c.if-i-size.true, c.size.ensures, length_items a.q (search rules))

pub returns-then-i-size : goal.returns-then-i-size
returns-then-i-size c =
    let a = c.args in
    let h : place_of a.x (items a.q) < length (items a.q) =
    omega (arith, c.if-i-size.true, c.size.ensures, c.place_of-i.ensures) in
    let e : has a.x (items a.q) ≡ true = sym (has_place a.x (items a.q)) ∙ lt-ltb _ _ h in
    rw e c.place_of-i.ensures
