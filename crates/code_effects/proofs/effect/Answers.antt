-- `code_effects::effect` meets its contract: each arm does what the table has at its kind.
use Prim.Native.Nat.{ℕ, ◌≤◌, ◌<◌}
use mathlib.Core.Path.{◌≡◌, refl}
use mathlib.Core.List.{[], List, ◌∷◌}
use mathlib.Core.Logic.{⊎_elim, inl, inr}
use native.Mathlib.Omega.{arith}
use Rattle.spec_effects.proofs.ByKind.{does_past}
use Rattle.code_effects.proofs.Arms.{row, singles, left_over, signals}
use Rattle.code_effects.proofs.effect.Goals as goal
use Rattle.code_effects.proofs.effect.Goals.{in-20-1, in_default+else-kind-lt1+then-kind-lt31}

-- the arms before that of the signals, and 20 of those, the last first
abbrev arms : List (List ℕ)
arms =
    (34 ∷ []) ∷ (33 ∷ []) ∷ (32 ∷ []) ∷ (31 ∷ [])
    ∷ (27 ∷ []) ∷ (26 ∷ []) ∷ (25 ∷ []) ∷ (24 ∷ []) ∷ (21 ∷ []) ∷ (20 ∷ []) ∷ (19 ∷ 28 ∷ []) ∷ singles 18

pub returns-in-1 : goal.returns-in-1
returns-in-1 c = row _ _ 1 c.in-1.is c.tick.ensures

pub returns-in-2 : goal.returns-in-2
returns-in-2 c = row _ _ 2 c.in-2.is c.create_thread.ensures

pub returns-in-3 : goal.returns-in-3
returns-in-3 c = row _ _ 3 c.in-3.is c.destroy_thread.ensures

pub returns-in-4 : goal.returns-in-4
returns-in-4 c = row _ _ 4 c.in-4.is c.set_priority.ensures

pub returns-in-5 : goal.returns-in-5
returns-in-5 c = row _ _ 5 c.in-5.is c.reset_priority.ensures

pub returns-in-6 : goal.returns-in-6
returns-in-6 c = row _ _ 6 c.in-6.is c.yielded.ensures

pub returns-in-7 : goal.returns-in-7
returns-in-7 c = row _ _ 7 c.in-7.is c.sleep.ensures

pub returns-in-8 : goal.returns-in-8
returns-in-8 c = row _ _ 8 c.in-8.is c.push_unscheduled.ensures

pub returns-in-9 : goal.returns-in-9
returns-in-9 c = row _ _ 9 c.in-9.is c.pop_unscheduled.ensures

pub returns-in-10 : goal.returns-in-10
returns-in-10 c = row _ _ 10 c.in-10.is c.pop_all_unscheduled.ensures

pub returns-in-11 : goal.returns-in-11
returns-in-11 c = row _ _ 11 c.in-11.is c.push_critical.ensures

pub returns-in-12 : goal.returns-in-12
returns-in-12 c = row _ _ 12 c.in-12.is c.pop_critical.ensures

pub returns-in-13 : goal.returns-in-13
returns-in-13 c = row _ _ 13 c.in-13.is c.pop_all_critical.ensures

pub returns-in-14 : goal.returns-in-14
returns-in-14 c = row _ _ 14 c.in-14.is c.create_semaphore.ensures

pub returns-in-15 : goal.returns-in-15
returns-in-15 c = row _ _ 15 c.in-15.is c.destroy_semaphore.ensures

pub returns-in-16 : goal.returns-in-16
returns-in-16 c = row _ _ 16 c.in-16.is c.make_periodic.ensures

pub returns-in-17 : goal.returns-in-17
returns-in-17 c = row _ _ 17 c.in-17.is c.remove_periodic.ensures

pub returns-in-18 : goal.returns-in-18
returns-in-18 c = row _ _ 18 c.in-18.is c.pend_semaphore.ensures

pub returns-in-19 : goal.returns-in-19
returns-in-19 c = let p = c.post_semaphore.ensures in ⊎_elim (λ e. row _ _ 19 e p) (λ e. row _ _ 28 e p) c.in-19.is

pub returns-in-21 : goal.returns-in-21
returns-in-21 c = row _ _ 21 c.in-21.is c.pend_event.ensures

pub returns-in-24 : goal.returns-in-24
returns-in-24 c = row _ _ 24 c.in-24.is c.create_message.ensures

pub returns-in-25 : goal.returns-in-25
returns-in-25 c = row _ _ 25 c.in-25.is c.destroy_message.ensures

pub returns-in-26 : goal.returns-in-26
returns-in-26 c = row _ _ 26 c.in-26.is c.post_message.ensures

pub returns-in-27 : goal.returns-in-27
returns-in-27 c = row _ _ 27 c.in-27.is c.pend_message.ensures

pub returns-in-31 : goal.returns-in-31
returns-in-31 c = row _ _ 31 c.in-31.is c.create_flag.ensures

pub returns-in-32 : goal.returns-in-32
returns-in-32 c = row _ _ 32 c.in-32.is c.destroy_flag.ensures

pub returns-in-33 : goal.returns-in-33
returns-in-33 c = row _ _ 33 c.in-33.is c.pend_flag.ensures

pub returns-in-34 : goal.returns-in-34
returns-in-34 c = row _ _ 34 c.in-34.is c.post_flag.ensures

pub returns-in_default : goal.returns-in_default
returns-in_default c = row _ _ 0 (omega arith) refl

-- above 30, only the flags' kinds are any
past : (n : ℕ) → 30 < n → (n ≡ 31 → ⊥) → (n ≡ 32 → ⊥) → (n ≡ 33 → ⊥) → (n ≡ 34 → ⊥) → 35 ≤ n
past n h a b d e = omega arith

pub returns-in_default-2 : goal.returns-in_default-2
returns-in_default-2 c =
    let r = c.in_default.in_default-own.rest in
    does_past _ _ (past _ c.in_default.if-kind-lt31-own.false r.0.0.0.1 r.0.0.1 r.0.1 r.1)

-- of 1 to 30, 20 and the kinds that no arm has
pub returns-in-20 : goal.returns-in-20
returns-in-20 c =
    signals _ _ c.signalled.ensures
    (elim c.in-20-1.branch [
      | in-20-1 w ↦ inl w.in-20-1.keys20
      | in_default+else-kind-lt1+then-kind-lt31 w ↦
          inr (left_over (22 ∷ 23 ∷ 29 ∷ 30 ∷ []) arms _ 30 refl w.in_default-1.rest w.if-kind-lt1-1.false (omega (arith, w.if-kind-lt31-1.true)))
    ])
