-- `code_kernel_find::firsts::first_at_home` meets its contract: the test is whether a thread has that home.
use borrow.Author.Rules.{rules}
use Rattle.code_kernel_find.specs.AtHome.{first_at_home}
use Rattle.code_kernel_find.proofs.OfHomes.{is_home}
use Rattle.code_kernel_find.proofs.firsts.first_at_home.Goals as goal

pub returns : goal.returns
unfolding first_at_home
returns c = c.first_member.ensures (is_home c.args.threads c.args.home) (λ x b k. search rules)
