-- `code_kernel::places::rank_of` meets its contract: a home and a priority fit the number that they make.
use borrow.Author.Rules.{rules}
use Rattle.spec_kernel.specs.Places.{rank_of}
use Rattle.code_kernel.proofs.places.rank_of.Goals as goal

pub returns : goal.returns
unfolding rank_of
returns c = search rules
