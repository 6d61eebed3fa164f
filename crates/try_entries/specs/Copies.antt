-- The copy of a log.
use Rattle.std.specs.Prelude.{ℕ, ◌-◌, Bool, false, cond, List, length, take, drop, nat_lt}
use Rattle.base_bytes.specs.Bytes.{begins}
use Rattle.base_bytes.specs.Pens.{pen, puts}

-- what stands between two places of the source, put at the same place of the target; nothing where the source has no such part
unfoldable pub copied_to : List ℕ → List ℕ → ℕ → ℕ → List ℕ
copied_to target source from to =
    cond (nat_lt from to) (cond (nat_lt (length source) to) target (puts (pen target from) (take (to - from) (drop from source))).log) target

-- it has such a part, or none is asked for, and both are the same then
unfoldable pub are_same : List ℕ → List ℕ → ℕ → ℕ → Bool
are_same target source from to =
    cond (nat_lt to from) false
    (cond (nat_lt from to) (cond (nat_lt (length source) to) false (begins source (copied_to target source from to))) (begins source target))
