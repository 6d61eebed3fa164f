-- `app_back_rounds::all_rounds`: so many rounds are made.
use mathlib.Core.Path.{◌≡◌}
use Rattle.app_back_rounds.proofs.all_rounds.Given as goal

abbrev pub invariant-loop-turn : goal.invariant-loop-turn
invariant-loop-turn l = l.total.rounds ≡ l.turn
