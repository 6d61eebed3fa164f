-- `code_moves::relocated` meets its contract: the record is stored, and each table is as its step says; the time queue is touched only
-- where the ticks differ.
use native.Mathlib.Omega.{arith}
use borrow.Author.Tests.{lt-ltb, le-ltb, eq-eqb, ne_eqb}
use Rattle.spec_kernel.specs.Sizes.{thread_count}
use Rattle.spec_moves.specs.Moves.{thread_in, relocate}
use Rattle.code_moves.proofs.relocated.Goals as goal

pub returns-then-id-ge-THREAD_IDS : goal.returns-then-id-ge-THREAD_IDS
unfolding relocate
returns-then-id-ge-THREAD_IDS c = rw (le-ltb c.args.id thread_count c.if-id-ge-THREAD_IDS.true)

pub returns-then-old-r : goal.returns-then-old-r
unfolding relocate
returns-then-old-r c =
    rw (
      lt-ltb c.args.id thread_count c.if-id-ge-THREAD_IDS.false,
      ne_eqb _ _ c.if-old-r.true,
      c.rejoined_places-next.ensures,
      c.rejoined_time-next.ensures,
    )

pub returns-else-old-r : goal.returns-else-old-r
unfolding relocate
returns-else-old-r c =
    rw (
      lt-ltb c.args.id thread_count c.if-id-ge-THREAD_IDS.false,
      eq-eqb (thread_in c.args.p c.args.id).ticks c.args.r.ticks (omega arith),
      c.rejoined_places-next.ensures,
    )
