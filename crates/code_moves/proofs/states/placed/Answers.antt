-- `code_moves::states::placed` meets its contract: the move, on the part that threads move in.
use Rattle.code_moves.proofs.states.placed.Goals as goal

pub returns : goal.returns
returns c = rw (c.with_threads.ensures, c.relocated.ensures, c.threads_of.ensures)
