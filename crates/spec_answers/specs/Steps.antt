-- A call on a state: what comes back, and the next state.
use Rattle.std.specs.Prelude.{ℕ, cond, List, eqb}
use Rattle.spec_kernel.specs.declared.records.Kernel.{Kernel}
use Rattle.spec_calls.specs.declared.call.Call.{Call}
use Rattle.spec_calls.specs.Calls.{call_of}
use Rattle.spec_refusals.specs.Named.{value_of}
use Rattle.spec_refusals.specs.Refusals.{number_of}
use Rattle.spec_moves.specs.States.{scheduled}
use Rattle.spec_effects.specs.Effects.{effect}
use Rattle.spec_rules.specs.Tests.{keeps_rules}
use Rattle.spec_answers.specs.declared.Answer.{Answer}

-- What comes back: the number, the value (a new id, a message taken at once, or 255), and who runs (255 for nobody) [01, answers 1].
abbrev pub answer : ℕ → ℕ → ℕ → Answer
answer number value runner = record { number = number; value = value; runner = runner }

-- what a call gives, whatever log it is given
pub record Stepped : Type 0 where
  pub answer : Answer
  pub kernel : Kernel

-- A refusal: its number, value 255, the same thread runs, and the state is the same [01, answers 2, 3].
abbrev pub refused : ℕ → Kernel → Stepped
refused number k = record { answer = answer number 255 k.runner; kernel = k }

-- the next state of a call that is not refused: what it does, then who runs
abbrev pub next_state : Kernel → Call → Kernel
next_state k c = scheduled (effect k c)

abbrev pub accepted : Kernel → Call → Stepped
accepted k c = record { answer = answer 0 (value_of k c) (next_state k c).runner; kernel = next_state k c }

-- The call on a state that keeps its rules.
unfoldable pub step : Kernel → Call → Stepped
step k c = cond (eqb (number_of k c) 0) (accepted k c) (refused (number_of k c) k)

-- Sixteen bytes on any state: where it breaks a rule, number 14, with 255 for the value and for the runner [01, answers 2].
unfoldable pub called : Kernel → List ℕ → Stepped
called k bytes = cond (keeps_rules k) (step k (call_of bytes)) (record { answer = answer 14 255 255; kernel = k })
