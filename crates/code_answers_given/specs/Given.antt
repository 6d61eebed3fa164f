-- The answer once the note of a call has been tried: no note is empty, so the used part has grown exactly if there was room.
use Rattle.std.specs.Prelude.{ℕ, cond, eqb}
use Rattle.spec_answers.specs.declared.Answer.{Answer}
use Rattle.spec_answers.specs.Steps.{answer}

abbrev pub given : ℕ → ℕ → ℕ → ℕ → ℕ → Answer
given value before after used end = cond (eqb end used) (answer 13 255 before) (answer 0 value after)
