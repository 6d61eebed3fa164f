-- The periodic semaphores in id order.
use Prim.Native.Nat.{ℕ, zero, suc, ◌+◌}
use mathlib.Core.Path.{◌≡◌, sym, ◌∙◌}
use native.Mathlib.Nat.{zero-add, add-zero, add-suc, suc-add}
use native.Mathlib.Numerals.{add-one}
use borrow.Author.Tests.{eq-eqb}
use Rattle.spec_kernel.specs.declared.records.Kernel.{Kernel}
use Rattle.spec_kernel.specs.Records.{semaphore}
use Rattle.spec_time.specs.Time.{pulse, pulse_from}

-- one semaphore more, from j on and from the first
pulse_next : (n j : ℕ) (k : Kernel) → pulse_from j (suc n) k ≡ pulse (j + n) (pulse_from j n k)
unfolding pulse_from
pulse_next zero j k = rw add-zero
pulse_next (suc n) j k = rw (add-suc, ← suc-add) (pulse_next n (suc j) (pulse j k))

module _ (i : ℕ) (k : Kernel) {next : Kernel} (w : next ≡ pulse_from 0 i k) where
  pub pulse_more : pulse i next ≡ pulse_from 0 (i + 1) k
  pulse_more = sym (rw (add-one, pulse_next i 0 k, zero-add, w))

  -- a semaphore without a period stays as it is
  pub pulse_skips : (semaphore next i).period ≡ 0 → next ≡ pulse_from 0 (i + 1) k
  unfolding pulse
  pulse_skips z = sym (rw (eq-eqb (semaphore next i).period 0 z)) ∙ pulse_more
