-- `code_images::reading::read` meets its contract: each way out says which test of an image fails.
use Prim.Native.Nat.{ℕ}
use mathlib.Core.Path.{◌≡◌, ap, sym, ◌∙◌}
use mathlib.Core.Bool.{true}
use mathlib.Core.List.{List}
use lib.Dec.{eqb}
use lib.ListN.{take, replicate}
use lib.Pointwise.{pointwise}
use borrow.Author.Tests.{not-true, not-false}
use Rattle.base_bytes.specs.Pens.{pen, puts}
use Rattle.spec_kernel.specs.declared.records.Kernel.{Kernel}
use Rattle.spec_rules.specs.Tests.{keeps_rules}
use Rattle.spec_notes.specs.Touched.{same_row}
use Rattle.code_notes.proofs.ScratchParts.{Held, held_length, held}
use Rattle.spec_images.specs.Images.{image_of, longest_image, state_in, recalled}
use Rattle.spec_images.proofs.Lengths.{image_short}
use Rattle.code_images.proofs.ImageRead.{read_broken, read_other, read_same, row_pairs}
use Rattle.code_images.proofs.reading.read.Goals as goal
use Rattle.code_images.proofs.reading.read.Goals.{After-put_image-n}

pub returns-then-not-keeps_rules : goal.returns-then-not-keeps_rules
returns-then-not-keeps_rules c =
    let t = c.keeps_rules in
    c.nothing.ensures
    ∙ read_broken c.args.s.now
    (sym (ap keeps_rules c.state_in-k.ensures) ∙ sym t.ensures ∙ c.if-not-keeps_rules.true)

abbrev bytes_of : After-put_image-n → List ℕ
bytes_of c = c.args.s.now

abbrev told : After-put_image-n → List ℕ
told c = image_of (state_in (bytes_of c))

kept : (c : After-put_image-n) → keeps_rules (state_in (bytes_of c)) ≡ true
kept c =
    let t = c.keeps_rules in
    sym (ap keeps_rules c.state_in-k.ensures) ∙ sym t.ensures ∙ c.if-not-keeps_rules.false

-- what is written again is the image
again : (c : After-put_image-n) → Held c.put_image-n.new.room c.put_image-n.result (told c)
again c =
    held (image_short (state_in (bytes_of c)))
    (c.put_image-n.ensures ∙ ap (λ (k : Kernel). puts (pen (replicate longest_image 0) 0) (image_of k)) c.state_in-k.ensures)

pub slice_bounds-again-end : goal.slice_bounds-again-end
slice_bounds-again-end c = (again (goal.at.slice_bounds-again-end c).After-put_image-n).within

pub slice_bounds-ne-end : goal.slice_bounds-ne-end
slice_bounds-ne-end c = held_length (again (goal.at.slice_bounds-ne-end c).After-put_image-n)

compared : (c : After-put_image-n)
    → pointwise eqb (take c.put_image-n.result c.put_image-n.new.room) (bytes_of c) ≡ same_row (told c) (bytes_of c)
compared c = row_pairs _ (bytes_of c) ∙ ap (λ b. same_row b (bytes_of c)) (again c).bytes

pub returns-then-ne : goal.returns-then-ne
returns-then-ne c =
    let r = (goal.at.returns-then-ne c).After-put_image-n in
    c.nothing-then-ne.ensures
    ∙ read_other (bytes_of r) (kept r) (sym (compared r) ∙ not-true _ (sym c.ne.ensures ∙ c.if-ne.true))

pub returns : goal.returns
returns c =
    let r = (goal.at.returns c).After-put_image-n in
    ap (recalled 0) c.state_in-k.ensures
    ∙ read_same (bytes_of r) (kept r) (sym (compared r) ∙ not-false _ (sym c.ne.ensures ∙ c.if-ne.false))
