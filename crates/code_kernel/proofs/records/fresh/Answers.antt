use Rattle.spec_kernel.specs.Records.{fresh}
use Rattle.code_kernel.proofs.records.fresh.Goals as goal

pub returns : goal.returns
unfolding fresh
returns c =
    rw (
      c.no_message.ensures,
      c.no_semaphore.ensures,
      c.no_thread.ensures,
      c.empty-none.ensures,
    )
