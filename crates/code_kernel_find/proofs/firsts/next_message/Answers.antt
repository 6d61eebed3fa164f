-- `code_kernel_find::firsts::next_message` meets its contract: the test is whether a message is for the thread.
use borrow.Author.Rules.{rules}
use Rattle.spec_kernel.specs.Channels.{first_for}
use Rattle.spec_kernel.proofs.Streams.{is_mine}
use Rattle.code_kernel_find.proofs.firsts.next_message.Goals as goal

pub returns : goal.returns
unfolding first_for
returns c = c.first_member.ensures (is_mine c.args.messages c.args.t c.args.mask) (λ x b k. search rules)
