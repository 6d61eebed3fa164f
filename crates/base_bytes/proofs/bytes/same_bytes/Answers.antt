-- `base_bytes::bytes::same_bytes` meets its contract: std's test for the beginning is ours.
use mathlib.Core.Path.{◌∙◌}
use Rattle.base_bytes.proofs.Turns.{begins_from}
use Rattle.base_bytes.proofs.bytes.same_bytes.Goals as goal

pub returns : goal.returns
returns c = c.starts_with.ensures.value ∙ begins_from c.args.bytes.now c.args.s.now c.args.at _ c.min.ensures
