-- `try_broken::show_all`: the rest gets shorter with each line.
use Rattle.std.proofs.Common.{length}
use Rattle.try_broken.proofs.show_all.Given as goal

abbrev pub decreases-loop-rest : goal.decreases-loop-rest
decreases-loop-rest g l = length l.rest
