-- `code_calls::kinds::kind_of` meets its contract: the code's table is the definition's.
use mathlib.Core.Path.{refl, sym}
use Rattle.std.proofs.lemmas.List.{get_or_past}
use Rattle.spec_calls.specs.Kinds.{kinds, no_kind, kind_of}
use Rattle.code_calls.proofs.kinds.kind_of.Goals as goal

pub returns-then-i-lt-ROWS : goal.returns-then-i-lt-ROWS
unfolding kind_of
returns-then-i-lt-ROWS c = refl

pub returns-else-i-lt-ROWS : goal.returns-else-i-lt-ROWS
unfolding kind_of
returns-else-i-lt-ROWS c = sym (get_or_past kinds c.args.c.kind no_kind c.if-i-lt-ROWS.false)
