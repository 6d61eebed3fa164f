-- When an event is TRUE.
use Rattle.std.specs.Prelude.{ℕ, Bool, cond}
use Rattle.base_bits.specs.Words.{all_match, any_match}
use Rattle.spec_kernel.specs.declared.records.Event.{Event}

-- Mode all: no masked bit differs from its value (so mask 0 is TRUE); mode any: some masked bit agrees with it [01, calls: Event 1 to 3].
unfoldable pub is_true : ℕ → Event → Bool
is_true bits e = cond e.any (any_match e.mask e.values bits) (all_match e.mask e.values bits)
