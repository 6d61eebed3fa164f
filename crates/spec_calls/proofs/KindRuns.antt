-- A call's kind in a run of numbers: what holds at each of them holds at the kind.
use Prim.Native.Nat.{ℕ, zero, suc, ◌+◌, ◌≤◌, ◌<◌}
use mathlib.Core.Path.{◌≡◌}
use mathlib.Core.Bool.{true, false}
use native.Mathlib.Omega.{arith}
use lib.Dec.{eqb, leb, ltb}
use borrow.Author.Tests.{eqb-true, eqb-false, ne_eqb, leb-true, ltb-true}
use borrow.Table.Steps.{cases}
use Rattle.spec_calls.specs.declared.call.Call.{Call}

-- the call with another kind
abbrev pub as_kind : Call → ℕ → Call
as_kind c m = record { kind = m; a = c.a; b = c.b; c = c.c; d = c.d; e = c.e }

-- P at each of n numbers from lo on
abbrev pub Each : (ℕ → Type 0) → ℕ → ℕ → Type 0
Each P zero lo = Unit
Each P (suc n) lo = P lo × Each P n (suc lo)

pub run : (P : ℕ → Type 0) (n lo : ℕ) → Each P n lo → (k : ℕ) → lo ≤ k → k < lo + n → P k
run P zero lo e k a b = absurd (omega arith)
run P (suc n) lo e k a b =
    cases (eqb k lo) (λ z. rw (eqb-true k lo z) e.0)
    (λ z. let ne : k ≡ lo → ⊥ = eqb-false k lo z in run P n (suc lo) e.1 k (omega arith) (omega arith))

-- a number that isn't from lo to below hi is none of those
pub off : (k lo hi : ℕ) → (lo ≤ k → k < hi → ⊥) → (m : ℕ) → leb lo m ≡ true → ltb m hi ≡ true → eqb k m ≡ false
off k lo hi h m a b =
    let l : lo ≤ m = leb-true lo m a in
    let r : m < hi = ltb-true m hi b in
    ne_eqb k m (λ e. h (omega arith) (omega arith))
