use Rattle.std.proofs.Common.{length, ap, rules}
use Rattle.try_entries.proofs.entries.appended.Goals as goal

pub returns : goal.returns
returns c = ap length c.append.ensures.0.result
