-- `code_time::pulse` meets its contract: the period and the ticks left decide.
use mathlib.Core.Path.{◌≡◌, sym, ap, ◌∙◌}
use mathlib.Core.Bool.{false}
use lib.Dec.{eqb}
use lib.ListN.{get_or}
use borrow.Author.Tests.{eq-eqb, ne_eqb}
use Rattle.spec_kernel.specs.declared.records.Semaphore.{Semaphore}
use Rattle.spec_kernel.specs.Records.{no_semaphore}
use Rattle.spec_time.specs.Time.{pulse}
use Rattle.code_time.proofs.pulse.Goals as goal
use Rattle.code_time.proofs.pulse.Goals.{After-semaphore_at-r}

-- what the semaphore's record says
abbrev told : After-semaphore_at-r → Semaphore
told c = get_or c.args.w.semaphores c.args.i no_semaphore

period : (c : After-semaphore_at-r) → c.semaphore_at-r.result.period ≡ (told c).period
period c = ap (λ (r : Semaphore). r.period) c.semaphore_at-r.ensures

ticks : (c : After-semaphore_at-r) → c.semaphore_at-r.result.ticks ≡ (told c).ticks
ticks c = ap (λ (r : Semaphore). r.ticks) c.semaphore_at-r.ensures

periodic : (c : After-semaphore_at-r) → (c.semaphore_at-r.result.period ≡ 0 → ⊥) → eqb (told c).period 0 ≡ false
periodic c h = ne_eqb (told c).period 0 (λ z. h (period c ∙ z))

pub returns-then-r-eq0 : goal.returns-then-r-eq0
unfolding pulse
returns-then-r-eq0 c k = rw (eq-eqb (told (goal.at.returns-then-r-eq0 c).After-semaphore_at-r).period 0 (sym (period (goal.at.returns-then-r-eq0 c).After-semaphore_at-r) ∙ c.if-r-eq0.true))

pub returns-then-r-eq1 : goal.returns-then-r-eq1
unfolding pulse
returns-then-r-eq1 c k =
    rw (
      periodic (goal.at.returns-then-r-eq1 c).After-semaphore_at-r c.if-r-eq0.false,
      eq-eqb (told (goal.at.returns-then-r-eq1 c).After-semaphore_at-r).ticks 1 (sym (ticks (goal.at.returns-then-r-eq1 c).After-semaphore_at-r)
          ∙ c.if-r-eq1.true),
      ← c.post-next.ensures k,
      c.stored.ensures,
      c.with_ticks.ensures,
      c.semaphore_at-s.ensures,
      c.semaphore_at-r.ensures,
    )

pub returns : goal.returns
unfolding pulse
returns c k =
    rw (
      periodic (goal.at.returns c).After-semaphore_at-r c.if-r-eq0.false,
      ne_eqb (told (goal.at.returns c).After-semaphore_at-r).ticks 1
          (λ z. c.if-r-eq1.false (ticks (goal.at.returns c).After-semaphore_at-r ∙ z)),
      c.stored-2.ensures,
      c.with_ticks-2.ensures,
      c.saturating_sub.ensures,
      c.semaphore_at-r.ensures,
    )
