-- `code_notes_frame::frames::start_of` meets its contract: what is left to go over, from where it has come to.
use Prim.Native.Nat.{◌-◌, ◌*◌, ◌≤◌}
use mathlib.Core.Path.{◌≡◌}
use Rattle.code_notes_frame.specs.Meant.{start_from}
use Rattle.code_notes_frame.proofs.frames.start_of.Given as goal

abbrev pub invariant-loop : goal.invariant-loop
invariant-loop l = (start_from l.s l.n 0 ≡ start_from l.s (l.n - l.counter) l.at) × (l.at ≤ 65537 * l.counter)
