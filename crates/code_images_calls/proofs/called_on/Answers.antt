-- `code_images_calls::called_on` meets its contract: there is no image, or the call is done on its state.
use mathlib.Core.Path.{◌∙◌}
use native.Mathlib.Omega.{arith}
use Rattle.spec_notes.specs.Within.{AreBytes}
use Rattle.code_images_calls.proofs.Found.{not_read, was_read, call_damaged, call_found}
use Rattle.code_images_calls.proofs.called_on.Goals as goal

pub returns-then-old-ne0 : goal.returns-then-old-ne0
returns-then-old-ne0 c =
    let a = c.args in
    let (x, y, l) =
    call_damaged a.room.now a.length a.bytes a.log.now a.used
    (not_read a.room.now a.length _ c.read_at-old.ensures c.if-old-ne0.true) in
    (c.damaged.ensures ∙ x, y, l)

pub returns : goal.returns
returns c =
    let a = c.args in
    let b : AreBytes a.room.now = λ i. omega (arith, c.slice_known-1.given i) in
    let (h, f) = was_read a.room.now a.length _ c.read_at-old.ensures c.if-old-ne0.false in
    let (x, y, l) = call_found a.room.now a.length a.bytes a.log.now a.used b h _ f in
    let e = c.call_on_state.ensures in
    (e.0 ∙ x, e.1 ∙ y, e.2 ∙ l)
