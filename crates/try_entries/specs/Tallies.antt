-- The count of trials.
use Rattle.std.specs.Prelude.{ℕ, ◌+◌, ◌%◌, ◌^◌, Bool, cond, ◌==◌}
use Rattle.try_entries.specs.declared.tallies.Tally.{Tally}
use Rattle.try_entries.specs.declared.tallies.Outcome.{Outcome}

abbrev pub tally : ℕ → ℕ → ℕ → ℕ → Tally
tally broken refused accepted wrong = record { broken = broken; refused = refused; accepted = accepted; wrong = wrong }

abbrev pub outcome : ℕ → Bool → Outcome
outcome number right = record { number = number; right = right }

-- one more, in 64 bits
abbrev pub more : ℕ → ℕ
more n = (n + 1) % 2 ^ 64

-- one more is wrong, unless this holds
unfoldable pub checked_by : Tally → Bool → Tally
checked_by t holds = cond holds t (tally t.broken t.refused t.accepted (more t.wrong))

-- 0 is accepted, 14 a broken state, any other number refused
unfoldable pub numbered_by : Tally → ℕ → Tally
numbered_by t number =
    cond (number == 0) (tally t.broken t.refused (more t.accepted) t.wrong)
    (cond (number == 14) (tally (more t.broken) t.refused t.accepted t.wrong)
    (tally t.broken (more t.refused) t.accepted t.wrong))

unfoldable pub counted_by : Tally → Outcome → Tally
counted_by t o = checked_by (numbered_by t o.number) o.right
