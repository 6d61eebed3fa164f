-- `try_entries::again::noted_answer` meets its contract.
use Rattle.std.proofs.Common.{rules}
use Rattle.try_entries.proofs.again.noted_answer.Goals as goal

pub returns : goal.returns
returns c = rw c.value_in.ensures
