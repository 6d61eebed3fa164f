-- `base_lines::put_number` meets its contract: the digits stand in the buffer, and then the byte that ends them.
use Rattle.std.proofs.Common.{◌≡◌, ◌-◌, [], ◌∷◌, take, drop, take_all, length-drop, rules, sym, ap, ◌∙◌}
use Rattle.base_bytes.specs.Pens.{Pen, pen, put, puts}
use Rattle.base_bytes.proofs.Writing.{puts_append}
use Rattle.base_lines.specs.Lines.{decimal}
use Rattle.base_lines.proofs.put_number.Goals as goal

pub returns : goal.returns
unfolding puts
returns c =
    let a = c.args in
    let p = pen a.out.now a.at in
    let ds = drop c.put_digits-first.result c.put_digits-first.new.digits in
    let all : take (20 - c.put_digits-first.result) ds ≡ ds = take_all _ ds (search (rules, length-drop)) in
    let written = c.put_all-p.ensures ∙ ap (puts p) (all ∙ c.put_digits-first.ensures.digits) in
    c.put_byte.ensures ∙ ap (λ (q : Pen). put q a.end) written ∙ sym (puts_append p (decimal a.n) (a.end ∷ []))
