-- `code_moves::states::filed` meets its contract: the record is stored, and the table is as its step says.
use borrow.Author.Tests.{lt-ltb, le-ltb}
use Rattle.spec_kernel.specs.Sizes.{message_count}
use Rattle.spec_moves.specs.Moves.{repost}
use Rattle.code_moves.proofs.states.filed.Goals as goal

pub returns-then-id-ge-MESSAGE_IDS : goal.returns-then-id-ge-MESSAGE_IDS
unfolding repost
returns-then-id-ge-MESSAGE_IDS c = rw (le-ltb c.args.id message_count c.if-id-ge-MESSAGE_IDS.true)

pub returns : goal.returns
unfolding repost
returns c =
    rw (
      lt-ltb c.args.id message_count c.if-id-ge-MESSAGE_IDS.false,
      c.rejoined_posts-next.ensures,
    )
