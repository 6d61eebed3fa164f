-- `base_rows::entries::put_entry` meets its contract: the head, then what it says follows.
use mathlib.Core.Path.{sym, ◌∙◌}
use mathlib.Core.List.{append-nil}
use borrow.Author.Tests.{ne_eqb}
use Rattle.base_bytes.specs.Pens.{puts}
use Rattle.base_bytes.proofs.Writing.{puts_append}
use Rattle.base_rows.specs.Entries.{tail_of}
use Rattle.base_rows.proofs.entries.put_entry.Goals as goal

pub returns-then-flags-eq0 : goal.returns-then-flags-eq0
unfolding puts tail_of
returns-then-flags-eq0 c =
    let f = c.flags_of-flags.ensures in
    rw (c.put_code-q.ensures, c.put_byte-p.ensures, c.head_of.ensures, f, sym f ∙ c.if-flags-eq0.true, append-nil)

pub returns : goal.returns
unfolding puts tail_of
returns c =
    let f = c.flags_of-flags.ensures in
    rw (
      c.put_body.ensures,
      c.put_byte-r.ensures,
      c.put_code-q.ensures,
      c.put_byte-p.ensures,
      c.head_of.ensures,
      f,
      ne_eqb _ 0 (λ z. c.if-flags-eq0.false (f ∙ z)),
      puts_append,
    )
