-- `code_threads::freed_records` meets its contract.
use borrow.Author.Rules.{rules}
use Rattle.spec_threads.specs.Threads.{freed_from}
use Rattle.code_threads.proofs.Mapped.{mapped}
use Rattle.code_threads.proofs.freed_records.Goals as goal

pub returns : goal.returns
returns c = mapped _ _ (freed_from c.args.t) (λ x y q k. search rules) c.args.messages c.map.result _ (search rules) c.map.ensures.items
