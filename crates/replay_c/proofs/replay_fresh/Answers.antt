-- `replay_c::replay_fresh` meets its contract.
use borrow.Author.Rules.{rules}
use Rattle.replay_c.proofs.replay_fresh.Goals as goal

pub returns : goal.returns
returns c =
    record {
      number = c.write-w.result.number;
      size = c.write-w.result.length;
      answered = c.packed.ensures;
      promised = rw c.fresh.ensures at c.write-w.ensures;
      length = c.length_then.ensures;
    }
