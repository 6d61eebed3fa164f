-- The state before a call, as far as its levels fit a byte.
use Rattle.std.specs.Prelude.{ℕ, cond, List}
use Rattle.spec_kernel.specs.declared.records.Kernel.{Kernel}
use Rattle.spec_calls.specs.declared.call.Call.{Call}
use Rattle.spec_notes.specs.Back.{state_before}
use Rattle.spec_notes.specs.Undoes.{levels_fit}
use Rattle.code_notes_back.specs.declared.state_back.Back.{Back}

-- the state before, or the one after where a level isn't a byte
unfoldable pub back_of : Call → Kernel → List (List ℕ) → Back
back_of c k x = record { fits = levels_fit (state_before c k x); kernel = cond (levels_fit (state_before c k x)) (state_before c k x) k }
