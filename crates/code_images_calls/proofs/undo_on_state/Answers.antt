-- `code_images_calls::undo_on_state` meets its contract: each way out is what is kept of the undo's result.
use mathlib.Core.Path.{sym, ap, ◌∙◌}
use Rattle.spec_images.specs.OnImages.{stored}
use Rattle.code_images.proofs.ImageWritten.{fits_none, fits_some}
use Rattle.code_images_calls.proofs.Found.{kept_refused, kept_short, kept_new}
use Rattle.code_images_calls.proofs.undo_on_state.Goals as goal

pub returns-then-l-ne0 : goal.returns-then-l-ne0
returns-then-l-ne0 c =
    let a = c.args in
    let u = c.undo_kept-l in
    let (x, y) = kept_refused u.result a.k a.room.now a.length a.used c.if-l-ne0.true in
    rw (← u.ensures.result) (c.left.ensures ∙ x, y)

pub returns-then-back-eq0 : goal.returns-then-back-eq0
returns-then-back-eq0 c =
    let a = c.args in
    let u = c.undo_kept-l in
    let e = c.put_whole-back.ensures in
    let (x, y) =
    kept_short u.result a.k a.room.now a.length a.used c.if-l-ne0.false
    (fits_none u.result.kernel a.room.now (sym e.0 ∙ c.if-back-eq0.true)) in
    rw (← u.ensures.result) (c.no_room.ensures ∙ x, e.1 ∙ y)

pub returns : goal.returns
returns c =
    let a = c.args in
    let u = c.undo_kept-l in
    let e = c.put_whole-back.ensures in
    let (f, n) = fits_some u.result.kernel a.room.now (λ z. c.if-back-eq0.false (e.0 ∙ z)) in
    let (x, y) = kept_new u.result a.k a.room.now a.length a.used c.if-l-ne0.false f in
    rw (← u.ensures.result) (c.left-2.ensures ∙ ap (λ m. stored u.result.answer m u.result.used) (e.0 ∙ n) ∙ x, e.1 ∙ y)
