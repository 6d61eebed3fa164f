-- `code_images_calls::undo_on` meets its contract: there is no image, or the undo is done on its state.
use mathlib.Core.Path.{◌∙◌}
use native.Mathlib.Omega.{arith}
use Rattle.spec_notes.specs.Within.{AreBytes}
use Rattle.code_images_calls.proofs.Found.{not_read, was_read, undo_damaged, undo_found}
use Rattle.code_images_calls.proofs.undo_on.Goals as goal

pub returns-then-end-ne0 : goal.returns-then-end-ne0
returns-then-end-ne0 c =
    let a = c.args in
    let (x, y) =
    undo_damaged a.room.now a.length a.log.now a.used
    (not_read a.room.now a.length _ c.read_at-end.ensures c.if-end-ne0.true) in
    (c.damaged.ensures ∙ x, y)

pub returns : goal.returns
returns c =
    let a = c.args in
    let b : AreBytes a.room.now = λ i. omega (arith, c.slice_known-1.given i) in
    let g : AreBytes a.log.now = λ i. omega (arith, c.shared_slice_known-1.given i) in
    let (h, f) = was_read a.room.now a.length _ c.read_at-end.ensures c.if-end-ne0.false in
    let (x, y) = undo_found a.room.now a.length a.log.now a.used b g h _ f in
    let e = c.undo_on_state.ensures in
    (e.0 ∙ x, e.1 ∙ y)
