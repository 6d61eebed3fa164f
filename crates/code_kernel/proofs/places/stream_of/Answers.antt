-- `code_kernel::places::stream_of` meets its contract: an owner and a channel fit the number that they make.
use borrow.Author.Rules.{rules}
use Rattle.spec_kernel.specs.Places.{stream_of}
use Rattle.code_kernel.proofs.places.stream_of.Goals as goal

pub returns : goal.returns
unfolding stream_of
returns c = search rules
