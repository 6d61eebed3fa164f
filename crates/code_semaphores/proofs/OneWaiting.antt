-- Two parts that a contract by `Does` allows are equal.
use mathlib.Core.Path.{◌≡◌, sym, ap, ◌∙◌}
use Rattle.spec_kernel.specs.declared.records.Kernel.{Kernel}
use Rattle.spec_kernel.specs.Records.{fresh}
use Rattle.code_semaphores.specs.declared.waiting.Waiting.{Waiting}
use Rattle.code_semaphores.specs.Waiting.{waiting_of, Does}

-- what is put into a state, here the fresh one, is found in it
pub one_result : (f : Kernel → Kernel) (w x y : Waiting) → Does f w x → Does f w y → x ≡ y
one_result f w x y d e = ap waiting_of (d fresh ∙ sym (e fresh))
